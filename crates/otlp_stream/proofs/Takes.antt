-- Single values among the tokens.
-- For the contracts of `enumeration`, `held_bool`, `held_double`, `held_i64` and others.
use Rattle.std.proofs.Common.{◌≡◌, ℕ, ◌<◌, List, ◌∷◌, drop, length, Bool, Option, Some, None, option_map, option_and_then, refl, sym, ap, ◌∙◌, arith}
use Rattle.json.specs.Token.{Token}
use Rattle.json.specs.Json.{value}
use Rattle.json.proofs.Grammar.{value_is}
use Rattle.serde_json.specs.Data.{Num, Data, null, boolean, number, string}
use Rattle.serde_json.specs.Read.{of_json, number_of, converted}
use Rattle.otlp_stream.specs.Taking.{Takes, TakesAs, present, held}
use Rattle.serde_json.specs.Find.{as_str, as_bool, to_float}
use Rattle.std.proofs.Common.{ℤ, pos, negsuc, ◌^◌, ◌≢◌, true, false, cond, lt-ltb, ne_eqb, eq-eqb, nat_lt, sym}
use Rattle.std.specs.Prelude.{slice_index, SomeIff, IfSome}
use Rattle.std.specs.Float.{Float, binary64, float_is_finite}
use Rattle.fast_float.specs.Text.{Parts, scan, digits_of, nearest, IsInteger}
use Rattle.serde_json.specs.Data.{unsigned, float}
use Rattle.serde_json.specs.Read.{number_from, float_of}
use Rattle.otlp_reading.specs.Kinds.{text, enum, u32, u64, whole, whole_text, natural_below, signed_within, unless_null, i64_value}
use Rattle.otlp_reading.specs.Reading.{double_of, double_of_text}

one_less : (old : List Token) (t : Token) (new : List Token) → old ≡ t ∷ new → length new < length old
one_less old t new e = rw e (omega arith)

pub takes_string : (depth : ℕ) (old new : List Token) (s : List ℕ) → old ≡ Token.string s ∷ new → Takes depth old new (string s)
takes_string depth old new s e = record { reads = ap (converted of_json) (ap (value depth) e ∙ value_is depth _); shorter = one_less old _ new e }

pub takes_null : (depth : ℕ) (old new : List Token) → old ≡ Token.null ∷ new → Takes depth old new null
takes_null depth old new e = record { reads = ap (converted of_json) (ap (value depth) e ∙ value_is depth _); shorter = one_less old _ new e }

pub takes_boolean : (depth : ℕ) (old new : List Token) (b : Bool) → old ≡ Token.boolean b ∷ new → Takes depth old new (boolean b)
takes_boolean depth old new b e = record { reads = ap (converted of_json) (ap (value depth) e ∙ value_is depth _); shorter = one_less old _ new e }

pub takes_number : (depth : ℕ) (old new : List Token) (s : List ℕ) (n : Num) → old ≡ Token.number s ∷ new → number_of s ≡ Some n → Takes depth old new (number n)
takes_number depth old new s n e is = record { reads = ap (converted of_json) (ap (value depth) e ∙ value_is depth _) ∙ rw is; shorter = one_less old _ new e }

pub text_string : (depth : ℕ) (old new : List Token) (s : List ℕ) → old ≡ Token.string s ∷ new → TakesAs (present text) depth old new s
text_string depth old new s e = record { found = string s; takes = takes_string depth old new s e; is = refl }

pub null_default : {A : Type 0} (read : Option Data → Option A) (x : A) → read None ≡ Some x → (depth : ℕ) (old new : List Token) → old ≡ Token.null ∷ new → TakesAs (present read) depth old new x
null_default read x is depth old new e = record { found = null; takes = takes_null depth old new e; is = is }

-- ---- numbers

natural_from : (p : Parts) (n : ℕ) → IsInteger p → digits_of p < 2 ^ 64 → n ≡ digits_of p → number_from false p ≡ Some (unsigned n)
natural_from p n h fits e = rw (lt-ltb _ _ h.0, h.1, h.2, lt-ltb _ _ fits, e)

pub natural_read : (s : List ℕ) (p : Parts) (r : Option ℕ) → p ≡ scan s → slice_index s 0 ≢ 45 → SomeIff r (IsInteger p × (digits_of p < 2 ^ 64)) (digits_of p) → IfSome r (λ n. number_of s ≡ Some (unsigned n))
unfolding number_of
natural_read s p None e plain h = tt
natural_read s p (Some n) e plain h = rw (ne_eqb (slice_index s 0) 45 plain) (ap (number_from false) (sym e) ∙ natural_from p n h.0.0 h.0.1 h.1)

float_is : (sign : Bool) (p : Parts) → float_is_finite (nearest binary64 sign p) ≡ true → float_of sign p ≡ Some (float (nearest binary64 sign p))
float_is sign p e = rw e

chosen : (b : Bool) (x y : Num) (o : Option Num) → o ≡ Some y → (n : Num) × (cond b (Some x) o ≡ Some n)
chosen true x y o e = (x, refl)
chosen false x y o e = (y, e)

pub taken_from : (sign : Bool) (p : Parts) → float_is_finite (nearest binary64 sign p) ≡ true → (n : Num) × (number_from sign p ≡ Some n)
taken_from true p e = chosen _ _ _ (float_of true p) (float_is true p e)
taken_from false p e = chosen _ _ _ (float_of false p) (float_is false p e)

pub taken_negative : (s : List ℕ) (p : Parts) (n : Num) → p ≡ scan (drop 1 s) → slice_index s 0 ≡ 45 → number_from true p ≡ Some n → number_of s ≡ Some n
unfolding number_of
taken_negative s p n e minus h = rw (eq-eqb (slice_index s 0) 45 minus) (ap (number_from true) (sym e) ∙ h)

pub taken_plain : (s : List ℕ) (p : Parts) (n : Num) → p ≡ scan s → slice_index s 0 ≢ 45 → number_from false p ≡ Some n → number_of s ≡ Some n
unfolding number_of
taken_plain s p n e plain h = rw (ne_eqb (slice_index s 0) 45 plain) (ap (number_from false) (sym e) ∙ h)

below : (n m : ℕ) → n < m → natural_below m (pos n) ≡ Some n
below n m h = rw (lt-ltb n m h)

within : (n m : ℕ) → n < m → signed_within m (pos n) ≡ Some (pos n)
within n m h = rw (lt-ltb n m h)

pub u64_number : (depth : ℕ) (old new : List Token) (s : List ℕ) (n : ℕ) → old ≡ Token.number s ∷ new → number_of s ≡ Some (unsigned n) → n < 2 ^ 64 → TakesAs (present u64) depth old new n
u64_number depth old new s n e is fits = record { found = number (unsigned n); takes = takes_number depth old new s (unsigned n) e is; is = below n (2 ^ 64) fits }

pub u64_string : (depth : ℕ) (old new : List Token) (s : List ℕ) (n : ℕ) → old ≡ Token.string s ∷ new → option_and_then (natural_below (2 ^ 64)) (whole_text s) ≡ Some n → TakesAs (present u64) depth old new n
u64_string depth old new s n e is = record { found = string s; takes = takes_string depth old new s e; is = is }

pub enum_number : (depth : ℕ) (old new : List Token) (s : List ℕ) (n : ℕ) → old ≡ Token.number s ∷ new → number_of s ≡ Some (unsigned n) → n < 2 ^ 31 → TakesAs (present enum) depth old new (pos n)
enum_number depth old new s n e is fits = record { found = number (unsigned n); takes = takes_number depth old new s (unsigned n) e is; is = within n (2 ^ 31) fits }

fit : (m n : ℕ) (b : Bool) → cond b (Some m) None ≡ Some n → n < 2 ^ 32 → cond (nat_lt m (2 ^ 32)) (Some m) None ≡ Some n
fit m n true e h = let same : m ≡ n = cc in rw (lt-ltb m (2 ^ 32) (omega arith)) e
fit m n false e h = absurd (cc)

smaller : (o : Option ℤ) (n : ℕ) → option_and_then (natural_below (2 ^ 64)) o ≡ Some n → n < 2 ^ 32 → option_and_then (natural_below (2 ^ 32)) o ≡ Some n
smaller None n e h = absurd (cc)
smaller (Some (pos m)) n e h = fit m n (nat_lt m (2 ^ 64)) e h
smaller (Some (negsuc m)) n e h = absurd (cc)

narrower : (o : Option Data) (n : ℕ) → u64 o ≡ Some n → n < 2 ^ 32 → u32 o ≡ Some n
narrower None n e h = e
narrower (Some d) n e h = smaller (whole d) n e h

pub u32_of_u64 : (depth : ℕ) (old new : List Token) (n : ℕ) → TakesAs (present u64) depth old new n → n < 2 ^ 32 → TakesAs (present u32) depth old new n
u32_of_u64 depth old new n t fits = record { found = t.found; takes = t.takes; is = narrower (unless_null t.found) n t.is fits }

-- ---- under a value key

pub held_string : (depth : ℕ) (old new : List Token) (s : List ℕ) → old ≡ Token.string s ∷ new → TakesAs (held as_str) depth old new s
held_string depth old new s e = record { found = string s; takes = takes_string depth old new s e; is = refl }

pub held_boolean : (depth : ℕ) (old new : List Token) (b : Bool) → old ≡ Token.boolean b ∷ new → TakesAs (held as_bool) depth old new b
held_boolean depth old new b e = record { found = boolean b; takes = takes_boolean depth old new b e; is = refl }

pub held_i64_string : (depth : ℕ) (old new : List Token) (s : List ℕ) (z : ℤ) → old ≡ Token.string s ∷ new → option_and_then (signed_within (2 ^ 63)) (whole_text s) ≡ Some z → TakesAs (held i64_value) depth old new z
held_i64_string depth old new s z e is = record { found = string s; takes = takes_string depth old new s e; is = is }

pub held_i64_number : (depth : ℕ) (old new : List Token) (s : List ℕ) (n : ℕ) → old ≡ Token.number s ∷ new → number_of s ≡ Some (unsigned n) → n < 2 ^ 63 → TakesAs (held i64_value) depth old new (pos n)
held_i64_number depth old new s n e is fits = record { found = number (unsigned n); takes = takes_number depth old new s (unsigned n) e is; is = within n (2 ^ 63) fits }

pub held_double_string : (depth : ℕ) (old new : List Token) (s : List ℕ) (x : Float) → old ≡ Token.string s ∷ new → double_of_text s ≡ Some x → TakesAs (held double_of) depth old new x
held_double_string depth old new s x e is = record { found = string s; takes = takes_string depth old new s e; is = is }

number_read : (o : Option Num) (x : Float) → option_map to_float o ≡ Some x → (n : Num) × (o ≡ Some n) × (Some (to_float n) ≡ Some x)
number_read None x e = absurd (cc)
number_read (Some n) x e = (n, refl, e)

pub held_double_number : (depth : ℕ) (old new : List Token) (s : List ℕ) (x : Float) → old ≡ Token.number s ∷ new → option_map to_float (number_of s) ≡ Some x → TakesAs (held double_of) depth old new x
held_double_number depth old new s x e is =
    let n = number_read (number_of s) x is in
    record { found = number n.0; takes = takes_number depth old new s n.0 e n.1; is = n.2 }
