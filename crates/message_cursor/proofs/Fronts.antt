-- What stands at the front of some bytes, by its tag.
-- For front.rt.
use Rattle.std.proofs.Common.{◌≡◌, ℕ, ◌+◌, ◌-◌, ◌*◌, ◌/◌, ◌%◌, ◌^◌, ◌<◌, ◌≤◌, List, [], ◌∷◌, length, get_or, Bool, true, false, cond, None, Result, Ok, Err, refl, sym, ◌∙◌, ap, subst, arith}
use Rattle.std.specs.Prelude.{◌==◌, nat_lt, ◌||◌}
use Rattle.std.proofs.lemmas.Bool.Decides.{nat_tests}
use Rattle.protobuf_wire.specs.declared.fault.WireFault.{WireFault}
use Rattle.protobuf_wire.specs.declared.fault.WireFault.TheVariants as faults
use Rattle.protobuf_wire.specs.Wire.{Value, Field, Reading, ◌>>=◌, number, base128, varint, fixed64, bytes, fixed, behind_count, held, value_of, field_of, next_field}
use Rattle.protobuf_wire.proofs.Shorter.{Below, next_below}
use Rattle.protobuf_wire.proofs.Steps.{first_fault, no_field}
use Rattle.message_cursor.specs.Walk.{first_field, after}
use Rattle.message_cursor.specs.Front.{field, FirstIs, IsAbove}
use Rattle.message_cursor.proofs.Walks.{front_fields, above-first, above-after}

-- ---- the field of a tag

abbrev with_number : ℕ → Value × List ℕ → Reading Field
with_number n x = Ok (field n x.0, x.1)

abbrev low_bits : ℕ × List ℕ → Reading ℕ
low_bits z = Ok (z.0 % 2 ^ 64, z.1)

abbrev seven_more : ℕ → ℕ × List ℕ → Reading ℕ
seven_more b z = Ok (b - 128 + 128 * z.0, z.1)

abbrev is_number : ℕ → List ℕ → Reading ℕ
is_number n s = Ok (n, s)

field_by : (t : ℕ) (rest : List ℕ) (b : Bool) → b ≡ ((t / 8 == 0) || nat_lt (2 ^ 29 - 1) (t / 8)) → 0 < t / 8 → t / 8 < 2 ^ 29
    → cond b (Err faults.FieldNumber) (value_of (t % 8) rest >>= with_number (t / 8)) ≡ (value_of (t % 8) rest >>= with_number (t / 8))
field_by t rest true e low high = absurd (grind (arith, nat_tests))
field_by t rest false e low high = refl

field_is : (t : ℕ) (rest : List ℕ) → 0 < t / 8 → t / 8 < 2 ^ 29 → field_of t rest ≡ (value_of (t % 8) rest >>= with_number (t / 8))
unfolding field_of
field_is t rest low high = field_by t rest ((t / 8 == 0) || nat_lt (2 ^ 29 - 1) (t / 8)) refl low high

next_is : (sent : List ℕ) (t : ℕ) (rest : List ℕ) → number sent ≡ Ok (t, rest) → next_field sent ≡ field_of t rest
unfolding next_field
next_is sent t rest e = ap (λ r. r >>= λ x. field_of x.0 x.1) e

-- of this tag and this value
pub first_is : (sent : List ℕ) (t n : ℕ) (rest : List ℕ) (v : Value) (new : List ℕ) → number sent ≡ Ok (t, rest) → n ≡ t / 8 → 0 < n → n < 2 ^ 29 → value_of (t % 8) rest ≡ Ok (v, new) → 0 < length sent
    → FirstIs sent (field n v) new
first_is sent t n rest v new e same low high is some =
    let P : ℕ → Type 0 = λ m. next_field sent ≡ Ok (field m v, new) in
    let first : next_field sent ≡ Ok (field n v, new)
    = subst P (sym same) (next_is sent t rest e ∙ field_is t rest (omega (arith, low, same)) (omega (arith, high, same)) ∙ ap (λ r. r >>= with_number (t / 8)) is) in
    let Q : Reading Field → Type 0 = Below (length sent) in
    record { first = first; some = some; shorter = subst Q first (next_below sent) }

-- of one of the keys of one byte
pub front_of : (sent rest new : List ℕ) (n k : ℕ) (v : Value) → k < 8 → number sent ≡ Ok (8 * n + k, rest) → 0 < n → n < 16 → length rest < length sent → value_of k rest ≡ Ok (v, new)
    → FirstIs sent (field n v) new
front_of sent rest new n k v small e low high less is =
    let P : ℕ → Type 0 = λ j. value_of j rest ≡ Ok (v, new) in
    let same : k ≡ (8 * n + k) % 8 = omega (arith, small) in
    first_is sent (8 * n + k) n rest v new e (omega (arith, small)) low (omega (arith, high)) (subst P same is) (omega (arith, less))

pub number_value : (s : List ℕ) (n : ℕ) (new : List ℕ) → number s ≡ Ok (n, new) → value_of 0 s ≡ Ok (varint n, new)
unfolding value_of
number_value s n new e = ap (held varint) e

pub fixed64_value : (s : List ℕ) (n : ℕ) (new : List ℕ) → fixed 8 s ≡ Ok (n, new) → value_of 1 s ≡ Ok (fixed64 n, new)
unfolding value_of
fixed64_value s n new e = ap (held fixed64) e

pub bytes_value : (s t new : List ℕ) → behind_count s ≡ Ok (t, new) → value_of 2 s ≡ Ok (bytes t, new)
unfolding value_of
bytes_value s t new e = ap (held bytes) e

-- ---- none comes

abbrev read_fields : List Field → Result (List Field) WireFault
read_fields fs = Ok fs

no_fields : (n : ℕ) (fs : List Field) → read_fields [] ≡ read_fields fs → (first_field n fs ≡ None) × (after n fs ≡ fs)
no_fields n [] e = (refl, refl)
no_fields n (f ∷ fs) e = absurd (cc e)

pub at_end : (n : ℕ) (sent : List ℕ) → length sent ≡ 0 → IsAbove n sent
at_end n sent none = record { above = λ fs e. no_fields n fs (sym (no_field sent none) ∙ e) }

pub no_message : (n : ℕ) (sent : List ℕ) (x : WireFault) → 0 < length sent → next_field sent ≡ Err x → IsAbove n sent
no_message n sent x some fault = record { above = λ fs e. absurd (cc (sym (first_fault sent x some fault) ∙ e)) }

fault_is : (s : List ℕ) (y : WireFault) → number s ≡ Err y → next_field s ≡ Err y
unfolding next_field
fault_is s y h = ap (λ r. r >>= λ z. field_of z.0 z.1) h

pub no_number : (n : ℕ) (sent : List ℕ) (x : WireFault) → 0 < length sent → number sent ≡ Err x → IsAbove n sent
no_number n sent x some e = no_message n sent x some (fault_is sent x e)

pub no_value : (n : ℕ) (sent : List ℕ) (t : ℕ) (rest : List ℕ) (x : WireFault) → 0 < length sent → number sent ≡ Ok (t, rest) → 0 < t / 8 → t / 8 < 2 ^ 29 → value_of (t % 8) rest ≡ Err x → IsAbove n sent
no_value n sent t rest x some e low high is = no_message n sent x some (next_is sent t rest e ∙ field_is t rest low high ∙ ap (λ r. r >>= with_number (t / 8)) is)

bad_by : (t : ℕ) (b : Bool) (r : Reading Value) → b ≡ true → cond b (Err faults.FieldNumber) (r >>= with_number (t / 8)) ≡ Err faults.FieldNumber
bad_by t true r e = refl
bad_by t false r e = absurd (cc e)

bad_tag : (t : ℕ) (rest : List ℕ) → ((t / 8 == 0) || nat_lt (2 ^ 29 - 1) (t / 8)) ≡ true → field_of t rest ≡ Err faults.FieldNumber
unfolding field_of
bad_tag t rest e = bad_by t ((t / 8 == 0) || nat_lt (2 ^ 29 - 1) (t / 8)) (value_of (t % 8) rest) e

no_such : (n : ℕ) (sent : List ℕ) (t : ℕ) (rest : List ℕ) → 0 < length sent → number sent ≡ Ok (t, rest) → ((t / 8 == 0) || nat_lt (2 ^ 29 - 1) (t / 8)) ≡ true → IsAbove n sent
no_such n sent t rest some e bad = no_message n sent faults.FieldNumber some (next_is sent t rest e ∙ bad_tag t rest bad)

zero_by : (t : ℕ) (a b : Bool) → a ≡ (t == 0) → b ≡ nat_lt (2 ^ 29 - 1) t → t ≡ 0 → (a || b) ≡ true
zero_by t true b e f h = refl
zero_by t false b e f h = absurd (grind (arith, nat_tests))

great_by : (t : ℕ) (a b : Bool) → b ≡ nat_lt (2 ^ 29 - 1) t → 2 ^ 29 ≤ t → (a || b) ≡ true
great_by t true b f h = refl
great_by t false true f h = refl
great_by t false false f h = absurd (grind (arith, nat_tests))

pub no_zero : (n : ℕ) (sent : List ℕ) (t : ℕ) (rest : List ℕ) → 0 < length sent → number sent ≡ Ok (t, rest) → t / 8 ≡ 0 → IsAbove n sent
no_zero n sent t rest some e bad = no_such n sent t rest some e (zero_by (t / 8) (t / 8 == 0) (nat_lt (2 ^ 29 - 1) (t / 8)) refl refl bad)

pub no_great : (n : ℕ) (sent : List ℕ) (t : ℕ) (rest : List ℕ) → 0 < length sent → number sent ≡ Ok (t, rest) → 2 ^ 29 ≤ t / 8 → IsAbove n sent
no_great n sent t rest some e bad = no_such n sent t rest some e (great_by (t / 8) (t / 8 == 0) (nat_lt (2 ^ 29 - 1) (t / 8)) refl bad)

-- the first field is of a greater tag
tag_by : (t : ℕ) (f : Field) (new : List ℕ) (b : Bool) (r : Reading Value) → cond b (Err faults.FieldNumber) (r >>= with_number (t / 8)) ≡ Ok (f, new) → f.number ≡ t / 8
tag_by t f new true r e = absurd (cc e)
tag_by t f new false (Err x) e = absurd (cc e)
tag_by t f new false (Ok x) e =
    let of : Reading Field → ℕ = number_of in
    sym (ap of e)
  where
    number_of : Reading Field → ℕ
    number_of (Ok y) = y.0.number
    number_of (Err y) = 0

tag_number : (t : ℕ) (rest : List ℕ) (f : Field) (new : List ℕ) → field_of t rest ≡ Ok (f, new) → f.number ≡ t / 8
unfolding field_of
tag_number t rest f new e = tag_by t f new ((t / 8 == 0) || nat_lt (2 ^ 29 - 1) (t / 8)) (value_of (t % 8) rest) e

above_by : (n : ℕ) (sent : List ℕ) (t : ℕ) (rest : List ℕ) (r : Reading Field) → 0 < length sent → n < t / 8 → next_field sent ≡ field_of t rest → field_of t rest ≡ r → IsAbove n sent
above_by n sent t rest (Err x) some high is e = no_message n sent x some (is ∙ e)
above_by n sent t rest (Ok x) some high is e = record {
  above = λ fs read.
      let first : next_field sent ≡ Ok x = is ∙ e in
      let Q : Reading Field → Type 0 = Below (length sent) in
      let p = front_fields sent x.0 x.1 fs (record { first = first; some = some; shorter = subst Q first (next_below sent) }) read in
      let same : x.0.number ≡ t / 8 = tag_number t rest x.0 x.1 e in
      let more : n < x.0.number = omega (arith, same, high) in
      (ap (first_field n) p.2 ∙ above-first n x.0 p.0 more, ap (after n) p.2 ∙ above-after n x.0 p.0 more ∙ sym p.2);
}

pub is_above : (n : ℕ) (sent : List ℕ) (t : ℕ) (rest : List ℕ) → 0 < length sent → number sent ≡ Ok (t, rest) → n < t / 8 → IsAbove n sent
is_above n sent t rest some e high = above_by n sent t rest (field_of t rest) some high (next_is sent t rest e) refl

-- a tag of two bytes
two_by : (b c : ℕ) (s : List ℕ) (x y : Bool) → x ≡ nat_lt b 128 → y ≡ nat_lt c 128 → 128 ≤ b → b < 256 → c < 128
    → (cond x (is_number b (c ∷ s)) (cond y (is_number c s) (base128 8 s >>= seven_more c) >>= seven_more b) >>= low_bits) ≡ is_number (b - 128 + 128 * c) s
two_by b c s true y e f h i j = absurd (grind (arith, nat_tests))
two_by b c s false false e f h i j = absurd (grind (arith, nat_tests))
two_by b c s false true e f h i j = ap (λ n. Ok (n, s)) (let m : (b - 128 + 128 * c) % 2 ^ 64 ≡ b - 128 + 128 * c = omega (arith, h, i, j) in m)

two_bytes : (b c : ℕ) (s : List ℕ) → 128 ≤ b → b < 256 → c < 128 → number (b ∷ c ∷ s) ≡ Ok (b - 128 + 128 * c, s)
unfolding number base128
two_bytes b c s h i j = two_by b c s (nat_lt b 128) (nat_lt c 128) refl refl h i j

pub long_tag : (n : ℕ) (sent : List ℕ) → n < 16 → 1 < length sent → 128 ≤ get_or sent 0 0 → get_or sent 0 0 < 256 → 0 < get_or sent 1 0 → get_or sent 1 0 < 128 → IsAbove n sent
long_tag n [] h some a b c d = absurd (omega (arith, some))
long_tag n (x ∷ []) h some a b c d = absurd (omega (arith, some))
long_tag n (x ∷ y ∷ s) h some a b c d = is_above n (x ∷ y ∷ s) (x - 128 + 128 * y) s (omega (arith, some)) (two_bytes x y s a b d) (omega (arith, h, a, b, c, d))
