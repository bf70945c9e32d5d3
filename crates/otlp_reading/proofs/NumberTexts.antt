-- Decimal text, as std reads it.
-- For the contracts of `i64_text` and `u64_text`.
use Rattle.std.proofs.Common.{◌≡◌, ◌≢◌, ℕ, zero, suc, ◌<◌, ◌≤◌, ◌^◌, List, length, drop, Bool, true, false, cond, ◌&&◌, Some, None, option_map, Result, Ok, Err, ℤ, pos, negsuc, neg_ℤ, refl, sym, inl, inr, ◌∙◌, arith, option_and_then}
use Rattle.std.specs.Prelude.{nat_lt, slice_index}
use Rattle.std.specs.Int.{w64}
use Rattle.std.specs.Result.{OkIff, result_ok}
use Rattle.std.specs.Str.{all_ascii_digits}
use Rattle.std.specs.Str.Parse.{ParsesUnsigned, ParsesSigned, digits_value, starts_with_minus}
use Rattle.std.proofs.lemmas.Str.Parse.{IsNumeralModel, numerals_by_value, tells_all_ascii_digits, parse_plain, parse_signed_plain, parse_signed_minus}
use Rattle.std.proofs.lemmas.Bool.Decides.{nat_tests}
use Rattle.std.proofs.lemmas.Bool.{cases_eq}
use Rattle.otlp_reading.specs.Kinds.{whole_text, natural_below, signed_within}
use Rattle.otlp_reading.specs.Zero.{zero_only}

pub digits : IsNumeralModel (λ ds. all_ascii_digits ds ≡ true) (digits_value 10)
digits = numerals_by_value _ tells_all_ascii_digits

pub no_minus : (bs : List ℕ) → slice_index bs 0 ≢ 45 → starts_with_minus bs ≡ false
no_minus bs h = grind (arith, nat_tests)

pub minus : (bs : List ℕ) → slice_index bs 0 ≡ 45 → starts_with_minus bs ≡ true
minus bs h = grind (arith, nat_tests)

-- a parse that goes by tests is the tests' answer
tested : {A E : Type 0} (r : Result A E) (ds : Bool) (n v m : ℕ) (a : A) → OkIff r ((ds ≡ true) × (0 < n) × (v < m)) a
    → result_ok r ≡ cond (nat_lt 0 n && ds) (cond (nat_lt v m) (Some a) None) None
tested (Ok x) ds n v m a h = grind (arith, nat_tests)
tested (Err e) ds n v m a h = grind (arith, nat_tests)

below_if : (b : Bool) (v m : ℕ) → option_and_then (natural_below m) (option_map pos (cond b (Some v) None)) ≡ cond b (cond (nat_lt v m) (Some v) None) None
below_if true v m = refl
below_if false v m = refl

within_if : (b : Bool) (v k : ℕ) → option_and_then (signed_within k) (option_map pos (cond b (Some v) None)) ≡ cond b (cond (nat_lt v k) (Some (pos v)) None) None
within_if true v k = refl
within_if false v k = refl

pub u64_plain : {E : Type 0} (bs : List ℕ) (r : Result ℕ E) → ParsesUnsigned 64 10 bs r → slice_index bs 0 ≢ 43 → slice_index bs 0 ≢ 45
    → result_ok r ≡ option_and_then (natural_below (2 ^ 64)) (whole_text bs)
u64_plain bs r h p m =
    tested r (all_ascii_digits bs) (length bs) (digits_value 10 bs) (2 ^ 64) (digits_value 10 bs) (parse_plain digits 64 bs r h p)
    ∙ sym (rw (no_minus bs m) (below_if (nat_lt 0 (length bs) && all_ascii_digits bs) (digits_value 10 bs) (2 ^ 64)))

pub i64_plain : {E : Type 0} (bs : List ℕ) (r : Result ℤ E) → ParsesSigned w64 10 bs r → slice_index bs 0 ≢ 43 → slice_index bs 0 ≢ 45
    → result_ok r ≡ option_and_then (signed_within (2 ^ 63)) (whole_text bs)
i64_plain bs r h p m =
    tested r (all_ascii_digits bs) (length bs) (digits_value 10 bs) (2 ^ 63) (pos (digits_value 10 bs)) (parse_signed_plain digits w64 bs r h p m)
    ∙ sym (rw (no_minus bs m) (within_if (nat_lt 0 (length bs) && all_ascii_digits bs) (digits_value 10 bs) (2 ^ 63)))

minus_tested : {E : Type 0} (r : Result ℤ E) (ds : Bool) (n v : ℕ) → OkIff r ((ds ≡ true) × (0 < n) × (v ≤ 2 ^ 63)) (neg_ℤ (pos v))
    → result_ok r ≡ option_and_then (signed_within (2 ^ 63)) (option_map (λ k. neg_ℤ (pos k)) (cond (nat_lt 0 n && ds) (Some v) None))
minus_tested (Ok x) ds n zero h = grind (arith, nat_tests)
minus_tested (Ok x) ds n (suc v) h = grind (arith, nat_tests)
minus_tested (Err e) ds n zero h = grind (arith, nat_tests)
minus_tested (Err e) ds n (suc v) h = grind (arith, nat_tests)

pub i64_minus : {E : Type 0} (bs : List ℕ) (r : Result ℤ E) → ParsesSigned w64 10 bs r → slice_index bs 0 ≡ 45
    → result_ok r ≡ option_and_then (signed_within (2 ^ 63)) (whole_text bs)
i64_minus bs r h m =
    minus_tested r (all_ascii_digits (drop 1 bs)) (length (drop 1 bs)) (digits_value 10 (drop 1 bs)) (parse_signed_minus digits w64 bs r h m)
    ∙ rw (minus bs m)

zero_negative : (b : Bool) (v : ℕ) → zero_only (cond b (Some (negsuc v)) None) ≡ None
zero_negative true v = refl
zero_negative false v = refl

zero_if : (b : Bool) (v : ℕ) → zero_only (option_and_then (signed_within (2 ^ 63)) (option_map (λ k. neg_ℤ (pos k)) (cond b (Some v) None))) ≡ option_and_then (natural_below (2 ^ 64)) (option_map (λ k. neg_ℤ (pos k)) (cond b (Some v) None))
zero_if true zero = refl
zero_if true (suc v) = zero_negative (nat_lt v (2 ^ 63)) v
zero_if false v = refl

pub u64_minus : (bs : List ℕ) → slice_index bs 0 ≡ 45
    → zero_only (option_and_then (signed_within (2 ^ 63)) (whole_text bs)) ≡ option_and_then (natural_below (2 ^ 64)) (whole_text bs)
u64_minus bs m = rw (minus bs m) (zero_if _ _)

pub i64_any : {E : Type 0} (bs : List ℕ) (r : Result ℤ E) → ParsesSigned w64 10 bs r → slice_index bs 0 ≢ 43
    → result_ok r ≡ option_and_then (signed_within (2 ^ 63)) (whole_text bs)
i64_any bs r h p = elim (cases_eq (slice_index bs 0) 45) [
  | inl m ↦ i64_minus bs r h m
  | inr m ↦ i64_plain bs r h p m
]
