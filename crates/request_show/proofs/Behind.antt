-- What stands behind a field.
-- For the clause `field` of `front_field`.
use Rattle.std.proofs.Common.{◌≡◌, ℕ, zero, suc, ◌+◌, ◌-◌, ◌*◌, ◌%◌, ◌/◌, ◌^◌, ◌≤◌, ◌==◌, ◌||◌, Bool, true, false, List, [], ◌∷◌, length, take, drop, Ok, Err, nat_lt, refl, sym, ap, ◌∙◌, arith, subst, if◌then◌else◌}
use Rattle.std.proofs.lemmas.Bool.Decides.{nat_tests}
use Rattle.protobuf_wire.specs.declared.fault.WireFault.TheVariants as faults
use Rattle.protobuf_wire.specs.Wire.{Value, varint, fixed64, bytes, fixed32, Field, Reading, ◌>>=◌, base128, number, little_endian, counted, behind_count, fixed, held, value_of, field_of, next_field}
use Rattle.request_show.specs.Front.{behind_number, behind_value, behind_field}

-- what was read, and what is left; of nothing that was read this
abbrev value_in : {A : Type 0} → A → Reading A → A
value_in d (Ok x) = x.0
value_in d (Err e) = d

abbrev left_of : {A : Type 0} → List ℕ → Reading A → List ℕ
left_of d (Ok x) = x.1
left_of d (Err e) = d

-- a number ends with its first byte below 128
behind_base128 : (n : ℕ) (s : List ℕ) (x : ℕ) (r : List ℕ) → base128 n s ≡ Ok (x, r) → behind_number s ≡ r
unfolding base128
behind_base128 zero s x r e = cc
behind_base128 (suc n) [] x r e = cc
behind_base128 (suc n) (b ∷ s) x r e = of (nat_lt b 128) (base128 n s) (behind_base128 n s) refl e
  where
    of : (t : Bool) (m : Reading ℕ) → ((y : ℕ) (q : List ℕ) → base128 n s ≡ Ok (y, q) → behind_number s ≡ q) → base128 n s ≡ m
        → if◌then◌else◌ {A = Reading ℕ} t (Ok (b, s)) (m >>= λ y. Ok (b - 128 + 128 * y.0, y.1)) ≡ Ok (x, r) → (if t then s else behind_number s) ≡ r
    of true m each f h = ap (left_of r) h
    of false (Ok y) each f h = each y.0 y.1 f ∙ ap (left_of r) h
    of false (Err e) each f h = cc

behind_its_number : (s : List ℕ) (x : ℕ) (r : List ℕ) → number s ≡ Ok (x, r) → behind_number s ≡ r
unfolding number
behind_its_number s x r e = of (base128 10 s) refl e
  where
    of : (m : Reading ℕ) → base128 10 s ≡ m → ◌>>=◌ {B = ℕ × List ℕ} m (λ y. Ok (y.0 % 2 ^ 64, y.1)) ≡ Ok (x, r) → behind_number s ≡ r
    of (Ok y) f h = behind_base128 10 s y.0 y.1 f ∙ ap (left_of r) h
    of (Err e) f h = cc

length_of_first : (n : ℕ) (s : List ℕ) → n ≤ length s → length (take n s) ≡ n
length_of_first zero s h = refl
length_of_first (suc n) [] h = absurd (omega (arith, h))
length_of_first (suc n) (b ∷ s) h = ap suc (length_of_first n s (omega (arith, h)))

-- counted bytes are so many, and what is left stands behind them
behind_counted : (n : ℕ) (s v r : List ℕ) → counted n s ≡ Ok (v, r) → (drop n s ≡ r) × (length v ≡ n)
behind_counted n s v r e = of (nat_lt (length s) n) refl e
  where
    of : (t : Bool) → nat_lt (length s) n ≡ t → if◌then◌else◌ {A = Reading (List ℕ)} t (Err faults.Truncated) (Ok (take n s, drop n s)) ≡ Ok (v, r) → (drop n s ≡ r) × (length v ≡ n)
    of true f h = cc
    of false f h =
        let enough : n ≤ length s = grind (arith, nat_tests, f) in
        (ap (left_of r) h, ap length (sym (ap (value_in v) h)) ∙ length_of_first n s enough)

behind_fixed : (n : ℕ) (s : List ℕ) (x : ℕ) (r : List ℕ) → fixed n s ≡ Ok (x, r) → drop n s ≡ r
behind_fixed n s x r e = of (counted n s) refl e
  where
    of : (m : Reading (List ℕ)) → counted n s ≡ m → ◌>>=◌ {B = ℕ × List ℕ} m (λ y. Ok (little_endian y.0, y.1)) ≡ Ok (x, r) → drop n s ≡ r
    of (Ok y) f h = (behind_counted n s y.0 y.1 f).0 ∙ ap (left_of r) h
    of (Err e) f h = cc

behind_its_count : (s v r : List ℕ) → behind_count s ≡ Ok (v, r) → drop (length v) (behind_number s) ≡ r
behind_its_count s v r e = of (number s) refl e
  where
    of : (m : Reading ℕ) → number s ≡ m → (m >>= λ y. counted y.0 y.1) ≡ Ok (v, r) → drop (length v) (behind_number s) ≡ r
    of (Ok y) f h =
        let c = behind_counted y.0 y.1 v r h in
        ap (λ n. drop n (behind_number s)) c.1 ∙ ap (drop y.0) (behind_its_number s y.0 y.1 f) ∙ c.0
    of (Err e) f h = cc

-- what is so of each value that is read, is so of what is held
of_held : {A : Type 0} (P : Value → List ℕ → Type 0) (f : A → Value) (m : Reading A) (v : Value) (r : List ℕ) → ((a : A) (q : List ℕ) → m ≡ Ok (a, q) → P (f a) q) → held f m ≡ Ok (v, r) → P v r
of_held P f (Ok x) v r each h = subst (λ (w : Value). P w r) (ap (value_in v) h) (subst (λ (q : List ℕ). P (f x.0) q) (ap (left_of r) h) (each x.0 x.1 refl))
of_held P f (Err e) v r each h = cc

-- what stands behind a value of a wire type
behind_value_of : (kind : ℕ) (s : List ℕ) (v : Value) (r : List ℕ) → value_of kind s ≡ Ok (v, r) → behind_value s v ≡ r
unfolding value_of
behind_value_of kind s v r e = of (kind == 0) (kind == 1) (kind == 2) (kind == 5) ((kind == 3) || (kind == 4)) e
  where
    of : (a b c d g : Bool)
        → (if a then held varint (number s) else if b then held fixed64 (fixed 8 s) else if c then held bytes (behind_count s) else if d then held fixed32 (fixed 4 s) else if g then Err faults.Group else Err faults.WireType) ≡ Ok (v, r)
        → behind_value s v ≡ r
    of true b c d g h = of_held (λ w q. behind_value s w ≡ q) varint (number s) v r (λ a q f. behind_its_number s a q f) h
    of false true c d g h = of_held (λ w q. behind_value s w ≡ q) fixed64 (fixed 8 s) v r (λ a q f. behind_fixed 8 s a q f) h
    of false false true d g h = of_held (λ w q. behind_value s w ≡ q) bytes (behind_count s) v r (λ a q f. behind_its_count s a q f) h
    of false false false true g h = of_held (λ w q. behind_value s w ≡ q) fixed32 (fixed 4 s) v r (λ a q f. behind_fixed 4 s a q f) h
    of false false false false true h = cc
    of false false false false false h = cc

abbrev value_held : Value → Reading Field → Value
value_held d (Ok x) = x.0.value
value_held d (Err e) = d

behind_field_of : (tag : ℕ) (s : List ℕ) (f : Field) (r : List ℕ) → field_of tag s ≡ Ok (f, r) → behind_value s f.value ≡ r
unfolding field_of
behind_field_of tag s f r e = of ((tag / 8 == 0) || nat_lt (2 ^ 29 - 1) (tag / 8)) (value_of (tag % 8) s) refl e
  where
    of : (t : Bool) (m : Reading Value) → value_of (tag % 8) s ≡ m
        → if◌then◌else◌ {A = Reading Field} t (Err faults.FieldNumber) (m >>= λ x. Ok (record { number = tag / 8; value = x.0 }, x.1)) ≡ Ok (f, r) → behind_value s f.value ≡ r
    of true m g h = cc
    of false (Ok y) g h = ap (behind_value s) (sym (ap (value_held f.value) h)) ∙ behind_value_of (tag % 8) s y.0 y.1 g ∙ ap (left_of r) h
    of false (Err e) g h = cc

-- what stands behind the field at the front
pub is_behind : (s : List ℕ) (f : Field) (r : List ℕ) → next_field s ≡ Ok (f, r) → behind_field s f.value ≡ r
unfolding next_field
is_behind s f r e = of (number s) refl e
  where
    of : (m : Reading ℕ) → number s ≡ m → (m >>= λ y. field_of y.0 y.1) ≡ Ok (f, r) → behind_field s f.value ≡ r
    of (Ok y) g h = ap (λ (t : List ℕ). behind_value t f.value) (behind_its_number s y.0 y.1 g) ∙ behind_field_of y.0 y.1 f r h
    of (Err e) g h = cc
