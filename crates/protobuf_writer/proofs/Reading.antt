-- What is written is read as that.
-- For the laws.
use Rattle.std.proofs.Common.{◌≡◌, ℕ, zero, suc, ◌+◌, ◌-◌, ◌*◌, ◌/◌, ◌%◌, ◌^◌, ◌<◌, ◌≤◌, List, [], ◌∷◌, ◌++◌, length, take, drop, Bool, true, false, cond, Ok, Err, refl, sym, ◌∙◌, ap, arith, lit<, append-nil}
use Rattle.std.proofs.lemmas.Nat.{div_below, pow-add}
use Rattle.std.proofs.lemmas.List.{take_all, drop_all}
use Rattle.std.proofs.lemmas.Bool.Decides.{nat_tests}
use Rattle.std.specs.Prelude.{nat_lt, ◌==◌, ◌||◌}
use Rattle.std.specs.Int.{w32, w64, to_le_bytes}
use Rattle.protobuf_wire.specs.declared.fault.WireFault.TheVariants as faults
use Rattle.protobuf_wire.specs.Wire.{Field, Value, varint, fixed64, bytes, fixed32, Reading, ◌>>=◌, base128, number, little_endian, counted, held, value_of, field_of, next_field, fields_of}
use Rattle.protobuf_wire.proofs.Steps.{no_field, first_field}
use Rattle.protobuf_wire.proofs.Concatenating.{concatenate}
use Rattle.protobuf_writer.specs.Writing.{written, number_bytes, wire_type, value_bytes, field_bytes, message_bytes}
use Rattle.protobuf_writer.specs.Laws.{ValueFits, FieldFits, FieldsFit}

by_size : (b : Bool) (n k : ℕ) (s : List ℕ) → b ≡ nat_lt k 128 → (128 ≤ k → base128 n (written n (k / 128) ++ s) ≡ Ok (k / 128, s))
    → base128 (suc n) ((cond b (k ∷ []) ((k % 128 + 128) ∷ written n (k / 128))) ++ s) ≡ Ok (k, s)
unfolding base128
by_size true n k s e h = ap (λ b. cond b (Ok (k, s)) (base128 n s >>= λ x. Ok (k - 128 + 128 * x.0, x.1))) (sym e)
by_size false n k s e h =
    let great : 128 ≤ k = grind (arith, nat_tests) in
    let c : ℕ = k % 128 + 128 in
    let f : ℕ × List ℕ → Reading ℕ = λ x. Ok (c - 128 + 128 * x.0, x.1) in
    let r : List ℕ = written n (k / 128) ++ s in
    ap (λ b. cond b (Ok (c, r)) (base128 n r >>= f)) (let q : nat_lt c 128 ≡ false = grind (arith, nat_tests) in q)
    ∙ ap (λ x. x >>= f) (h great)
    ∙ ap (λ m. Ok (m, s)) (let q : c - 128 + 128 * (k / 128) ≡ k = omega arith in q)

base128-written : (n k : ℕ) (s : List ℕ) → k < 2 ^ (7 * (n + 1)) → base128 (suc n) (written (suc n) k ++ s) ≡ Ok (k, s)
unfolding written
base128-written zero k s h = let small : k < 2 ^ (7 * 1) = h in by_size (nat_lt k 128) zero k s refl (λ great. absurd (omega arith))
base128-written (suc n) k s h =
    let e : 2 ^ (7 * (suc n + 1)) ≡ 2 ^ (7 * (n + 1)) * 128 = ap (λ i. 2 ^ i) (let q : 7 * (suc n + 1) ≡ 7 * (n + 1) + 7 = omega arith in q) ∙ pow-add 2 (7 * (n + 1)) 7 in
    let l : k < 2 ^ (7 * (n + 1)) * 128 = rw e at h in
    by_size (nat_lt k 128) (suc n) k s refl (λ great. base128-written n (k / 128) s (div_below k 128 (2 ^ (7 * (n + 1))) (lit< tt) l))

pub number_is_read : (k : ℕ) (s : List ℕ) → k < 2 ^ 64 → number (number_bytes k ++ s) ≡ Ok (k, s)
unfolding number
number_is_read k s h =
    let l : k < 2 ^ (7 * (9 + 1)) = omega arith in
    ap (λ x. x >>= λ x. Ok (x.0 % 2 ^ 64, x.1)) (base128-written 9 k s l) ∙ ap (λ m. Ok (m, s)) (let e : k % 2 ^ 64 ≡ k = omega arith in e)

whole : (t : List ℕ) → counted (length t) t ≡ Ok (t, [])
whole t =
    ap (λ b. let r : Reading (List ℕ) = cond b (Err faults.Truncated) (Ok (take (length t) t, drop (length t) t)) in r) (let e : nat_lt (length t) (length t) ≡ false = grind (arith, nat_tests) in e)
    ∙ rw (take_all (length t) t (omega arith), drop_all (length t) t (omega arith))

four : (k : ℕ) → k < 2 ^ 32 → little_endian (to_le_bytes w32 k) ≡ k
unfolding little_endian
four k h = omega arith

eight : (k : ℕ) → k < 2 ^ 64 → little_endian (to_le_bytes w64 k) ≡ k
unfolding little_endian
eight k h = omega arith

-- a value alone is read as that
value_is_read : (v : Value) → ValueFits v → value_of (wire_type v) (value_bytes v) ≡ Ok (v, [])
unfolding value_of
value_is_read (varint k) h = ap (held varint) (ap number (sym (append-nil (number_bytes k))) ∙ number_is_read k [] h)
value_is_read (fixed64 k) h = ap (λ n. Ok (fixed64 n, [])) (eight k h)
value_is_read (bytes t) h = ap (held bytes) (ap (λ x. x >>= λ x. counted x.0 x.1) (number_is_read (length t) t h) ∙ whole t)
value_is_read (fixed32 k) h = ap (λ n. Ok (fixed32 n, [])) (four k h)

wire_type_below : (v : Value) → wire_type v < 8
wire_type_below (varint k) = lit< tt
wire_type_below (fixed64 k) = lit< tt
wire_type_below (bytes t) = lit< tt
wire_type_below (fixed32 k) = lit< tt

-- the tests on the number of a field
is_number : (n : ℕ) → 0 < n → n < 2 ^ 29 → ((n == 0) || nat_lt (2 ^ 29 - 1) n) ≡ false
is_number n h g = grind (arith, nat_tests)

field_is_read : (f : Field) → FieldFits f → next_field (field_bytes f) ≡ Ok (f, [])
unfolding next_field field_of
field_is_read f h =
    let kind : ℕ = wire_type f.value in
    let tag : ℕ = 8 * f.number + kind in
    let low : kind < 8 = wire_type_below f.value in
    let below : f.number < 2 ^ 29 = h.1 in
    let n : tag / 8 ≡ f.number = omega (arith, low) in
    let k : tag % 8 ≡ kind = omega (arith, low) in
    ap (λ x. x >>= λ x. field_of x.0 x.1) (number_is_read tag (value_bytes f.value) (omega (arith, low, below)))
    ∙ ap (λ m. let r : Reading Field = cond ((m == 0) || nat_lt (2 ^ 29 - 1) m) (Err faults.FieldNumber) (value_of (tag % 8) (value_bytes f.value) >>= λ x. Ok (record { number = m; value = x.0 }, x.1)) in r) n
    ∙ ap (λ b. let r : Reading Field = cond b (Err faults.FieldNumber) (value_of (tag % 8) (value_bytes f.value) >>= λ x. Ok (record { number = f.number; value = x.0 }, x.1)) in r) (is_number f.number h.0 h.1)
    ∙ ap (λ m. value_of m (value_bytes f.value) >>= λ x. Ok (record { number = f.number; value = x.0 }, x.1)) k
    ∙ ap (λ r. r >>= λ x. Ok (record { number = f.number; value = x.0 }, x.1)) (value_is_read f.value h.2)

by_test : (b : Bool) (k : ℕ) (s : List ℕ) → 0 < length (cond b (k ∷ []) ((k % 128 + 128) ∷ written 9 (k / 128)) ++ s)
by_test true k s = omega arith
by_test false k s = omega arith

some_bytes : (k : ℕ) (s : List ℕ) → 0 < length (number_bytes k ++ s)
unfolding written
some_bytes k s = by_test (nat_lt k 128) k s

pub fields_are_read : (fs : List Field) → FieldsFit fs → fields_of (message_bytes fs) ≡ Ok fs
unfolding message_bytes
fields_are_read [] h = no_field [] refl
fields_are_read (f ∷ fs) h =
    let here : fields_of (field_bytes f) ≡ Ok (f ∷ [])
    = (first_field (field_bytes f) f [] (some_bytes (8 * f.number + wire_type f.value) (value_bytes f.value)) (field_is_read f h.0)).0 ∙ ap (λ r. r >>= λ fs. Ok (f ∷ fs)) (no_field [] refl) in
    concatenate (field_bytes f) (message_bytes fs) (f ∷ []) fs here (fields_are_read fs h.1)
