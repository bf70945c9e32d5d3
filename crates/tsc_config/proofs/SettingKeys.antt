-- What stands at a key without a fault is what the key's value is read from.
-- For `policies_are_of_their_keys`.
use Rattle.std.proofs.Common.{◌≡◌, ℕ, ◌≤◌, ℤ, pos, negsuc, Bool, true, false, ◌⊎◌, inl, inr, refl, ap, sym, subst, ◌∙◌, ◌||◌, arith, codes, List, [], ◌∷◌, Option, None, Some, if◌then◌else◌, int_le, nat_le, min, ◌*◌, ◌&&◌}
use Rattle.std.proofs.lemmas.Bool.Decides.{nat_tests}
use Rattle.std.proofs.lemmas.Slice.Eq.{bytes_eq-Decides}
use Rattle.std.specs.Option.{unwrap_or}
use Rattle.std.specs.Str.{bytes_eq}
use Rattle.toml.specs.Data.{Data, as_str, string, integer, float, boolean, array, Items, no_items, item, Members, get_member}
use lib.Ieee.{eq}
use Rattle.config_faults.specs.Percentages.{nearest_count, over_ten_thousand, ten_thousandths}
use Rattle.tsc_config.proofs.Settings.{neither, natural, numbered}
use Rattle.config_faults.specs.PolicyTypes.{type_name, all_types}
use Rattle.config_faults.specs.Keys.{type_among, type_named, code_named, code_of}
use Rattle.config_faults.specs.Faults.{optional, required, natural_fault, text_fault, named_fault, items_fault, array_fault, is_error_mode, error_mode_fault, code_fault, percentage_fault, truth_fault, whole_fault, least}
use Rattle.tsc_config.specs.PolicyOrder.{found_before}
use Rattle.tsc_config.specs.Values.{natural_of, codes_of, item_codes, texts_of, item_texts, text_of, truth_of, whole_of, texts_wanted, error_mode_of, salt_by, percentage_at, number_or}
use Rattle.ottl_text.specs.declared.expression.ErrorMode.TheVariants as mode_is
use Rattle.tsc_config.specs.PolicyKeys.{AreTexts, AreTextsAt, IsErrorModeAt, IsWanted, IsCode, AreCodes, IsSaltAt, IsPercentage, IsNatural, IsNaturalOrZero}
use Rattle.tsc_config.specs.Settings.{IsNumberAt}
use Rattle.config_faults.specs.declared.fault.ConfigFault.{ConfigFault}
use Rattle.config_faults.specs.declared.fault.ConfigFault.TheVariants.{OutOfRange}
use Rattle.config_faults.specs.declared.policy_types.PolicyType.{PolicyType}

-- ---- what a text names

-- the first name that a text is, or a later one
first : {A : Type 0} (P : A → Type 0) (text name : List ℕ) (value found : A) (rest : Option A) → (text ≡ name → P value) → (rest ≡ Some found → P found)
    → (if bytes_eq text name then Some value else rest) ≡ Some found → P found
first {A} P text name value found rest here there e = go (bytes_eq text name) refl e
  where
    go : (r : Bool) → bytes_eq text name ≡ r → (if r then Some value else rest) ≡ Some found → P found
    go true t e = let same : value ≡ found = cc in subst P same (here ((bytes_eq-Decides text name).0 t))
    go false t e = there e

no_name : {A : Type 0} (P : A → Type 0) (found : A) → None ≡ Some found → P found
no_name P found e = absurd (cc e)

abbrev IsNamed : List ℕ → PolicyType → Type 0
IsNamed text kind = text ≡ type_name kind

type_is_among : (kinds : List PolicyType) (text : List ℕ) (kind : PolicyType) → type_among kinds text ≡ Some kind → text ≡ type_name kind
type_is_among [] text kind e = no_name (IsNamed text) kind e
type_is_among (first_kind ∷ rest) text kind e = first (IsNamed text) text (type_name first_kind) first_kind kind _ (λ q. q) (type_is_among rest text kind) e

pub type_is_named : (text : List ℕ) (kind : PolicyType) → type_named text ≡ Some kind → text ≡ type_name kind
type_is_named text kind e = type_is_among all_types text kind e

code_is_named : (text : List ℕ) (code : ℤ) → code_named text ≡ Some code → IsCode (string text) code
unfolding code_named
code_is_named text code e =
    first (IsCode (string text)) text (codes "UNSET") (pos 0) code _ (λ q. inl (ap string q, refl))
    (first (IsCode (string text)) text (codes "OK") (pos 1) code _ (λ q. inr (inl (ap string q, refl)))
    (first (IsCode (string text)) text (codes "ERROR") (pos 2) code None (λ q. inr (inr (ap string q, refl))) (no_name (IsCode (string text)) code))) e

-- ---- one key

pub text_keys : (at : Option Data) → required text_fault at ≡ None → at ≡ Some (string (text_of at))
text_keys (Some (string text)) e = refl
text_keys None e = cc
text_keys (Some _) e = cc

allowed : (r : Bool) → (if r then None else Some OutOfRange) ≡ None → r ≡ true
allowed true e = refl
allowed false e = cc

pub natural_keys : (at : Option Data) → required natural_fault at ≡ None → (at ≡ Some (integer (pos (natural_of at)))) × (natural_of at ≤ 9223372036854775807)
natural_keys None e = cc
natural_keys (Some (integer (pos n))) e = (refl, grind (arith, nat_tests, allowed (int_le (pos 0) (pos n) && int_le (pos n) (pos 9223372036854775807)) e))
natural_keys (Some (integer (negsuc n))) e = cc
natural_keys (Some _) e = cc

pub whole_keys : (default : ℤ) (at : Option Data) → optional whole_fault at ≡ None → ((at ≡ None) × (whole_of default at ≡ default)) ⊎ (at ≡ Some (integer (whole_of default at)))
whole_keys default None e = inl (refl, refl)
whole_keys default (Some (integer n)) e = inr refl
whole_keys default (Some _) e = cc

pub truth_keys : (at : Option Data) → optional truth_fault at ≡ None → ((at ≡ None) × (truth_of at ≡ false)) ⊎ (at ≡ Some (boolean (truth_of at)))
truth_keys None e = inl (refl, refl)
truth_keys (Some (boolean b)) e = inr refl
truth_keys (Some _) e = cc

pub required_truth : (at : Option Data) → required truth_fault at ≡ None → at ≡ Some (boolean (truth_of at))
required_truth (Some (boolean b)) e = refl
required_truth None e = cc
required_truth (Some _) e = cc

pub salt_keys : (settings : Members) (at : Option Data) → get_member (codes "hash_salt") settings ≡ at → optional text_fault at ≡ None → IsSaltAt settings (codes "hash_salt") (salt_by (text_of at))
salt_keys settings None a e = inl (a, refl)
salt_keys settings (Some (string [])) a e = inr (inl (a, refl))
salt_keys settings (Some (string (first ∷ rest))) a e = inr (inr a)
salt_keys settings (Some _) a e = absurd (cc e)

pub percentage_keys : (settings : Members) (at : Option Data) → get_member (codes "sampling_percentage") settings ≡ at → required percentage_fault at ≡ None
    → IsPercentage settings (codes "sampling_percentage") (percentage_at at)
unfolding ten_thousandths
percentage_keys settings (Some (integer (pos n))) a e = of (nat_le n 100) refl e
  where
    of : (r : Bool) → nat_le n 100 ≡ r → named_fault (if r then Some (n * 10000) else None) ≡ None
        → IsPercentage settings (codes "sampling_percentage") (unwrap_or (if r then Some (n * 10000) else None) 0)
    of true t f = inl (n, a, grind (arith, nat_tests), refl)
    of false t f = absurd (cc f)
percentage_keys settings (Some (float x)) a e = of (nat_le (nearest_count x) 1000000) (eq (over_ten_thousand (nearest_count x)) x) refl refl e
  where
    of : (r q : Bool) → nat_le (nearest_count x) 1000000 ≡ r → eq (over_ten_thousand (nearest_count x)) x ≡ q → named_fault (if r && q then Some (nearest_count x) else None) ≡ None
        → IsPercentage settings (codes "sampling_percentage") (unwrap_or (if r && q then Some (nearest_count x) else None) 0)
    of true true t u f = inr (x, a, grind (arith, nat_tests), u)
    of true false t u f = absurd (cc f)
    of false q t u f = absurd (cc f)
percentage_keys settings (Some (integer (negsuc n))) a e = absurd (cc e)
percentage_keys settings None a e = absurd (cc e)
percentage_keys settings (Some _) a e = absurd (cc e)

are_texts : (items : Items) → items_fault text_fault items ≡ None → AreTexts items (item_texts items)
are_texts no_items e = refl
are_texts (item value rest) e = of value (neither (text_fault value) (items_fault text_fault rest) e).0 (are_texts rest (neither (text_fault value) (items_fault text_fault rest) e).1)
  where
    of : (value : Data) → text_fault value ≡ None → AreTexts rest (item_texts rest) → AreTexts (item value rest) (found_before (as_str value) (item_texts rest))
    of (string text) f later = (refl, later)
    of _ f later = absurd (cc f)

-- the array at a key, of whose items none has a fault
array_keys : (f : Data → Option ConfigFault) (at : Option Data) → required (array_fault f) at ≡ None → (items : Items) × (at ≡ Some (array items)) × (items_fault f items ≡ None)
array_keys f (Some (array items)) e = (items, refl, e)
array_keys f None e = cc
array_keys f (Some _) e = cc

pub optional_texts : (settings : Members) (key : List ℕ) (at : Option Data) → get_member key settings ≡ at → optional (array_fault text_fault) at ≡ None → AreTextsAt settings key (texts_of at)
optional_texts settings key None a e = inl (a, refl)
optional_texts settings key (Some (array items)) a e = inr (items, a, are_texts items e)
optional_texts settings key (Some _) a e = absurd (cc e)

first_mode : (a b : Bool) → (a || b) ≡ true → b ≡ false → a ≡ true
first_mode true b e n = refl
first_mode false b e n = let wrong : true ≡ false = sym e ∙ n in cc

pub mode_keys : (settings : Members) (at : Option Data) → get_member (codes "error_mode") settings ≡ at → optional error_mode_fault at ≡ None → IsErrorModeAt settings (error_mode_of at)
mode_keys settings None a e = inl (a, refl)
mode_keys settings (Some (string bytes)) a f = of (bytes_eq bytes (codes "silent")) (bytes_eq bytes (codes "propagate")) refl refl
  where
    of : (s r : Bool) → bytes_eq bytes (codes "silent") ≡ s → bytes_eq bytes (codes "propagate") ≡ r → IsErrorModeAt settings (if s then mode_is.Silent else if r then mode_is.Propagate else mode_is.Ignore)
    of true r t u = let same : bytes ≡ codes "silent" = (bytes_eq-Decides bytes (codes "silent")).0 t in inr (inr (inl (rw (← same) a, refl)))
    of false true t u = let same : bytes ≡ codes "propagate" = (bytes_eq-Decides bytes (codes "propagate")).0 u in inr (inr (inr (rw (← same) a, refl)))
    of false false t u =
        let ignored : bytes_eq bytes (codes "ignore") ≡ true = first_mode _ _ (allowed (is_error_mode bytes) f) (ap (λ b. b || bytes_eq bytes (codes "propagate")) t ∙ u) in
        let same : bytes ≡ codes "ignore" = (bytes_eq-Decides bytes (codes "ignore")).0 ignored in
        inr (inl (rw (← same) a, refl))
mode_keys settings (Some _) a e = absurd (cc e)

pub texts_keys : (at : Option Data) → required (array_fault text_fault) at ≡ None → (items : Items) × (at ≡ Some (array items)) × AreTexts items (texts_of at)
texts_keys at e = let a = array_keys text_fault at e in
    let P : Option Data → Type 0 = λ at. AreTexts a.0 (texts_of at) in (a.0, a.1, subst P (sym a.1) (are_texts a.0 a.2))

are_codes : (items : Items) → items_fault code_fault items ≡ None → AreCodes items (item_codes items)
are_codes no_items e = refl
are_codes (item value rest) e = of value (neither (code_fault value) (items_fault code_fault rest) e).0 (are_codes rest (neither (code_fault value) (items_fault code_fault rest) e).1)
  where
    at_text : (text : List ℕ) (found : Option ℤ) → code_named text ≡ found → named_fault found ≡ None → AreCodes rest (item_codes rest)
        → AreCodes (item (string text) rest) (found_before found (item_codes rest))
    at_text text (Some code) n f later = (code_is_named text code n, later)
    at_text text None n f later = absurd (cc f)

    of : (value : Data) → code_fault value ≡ None → AreCodes rest (item_codes rest) → AreCodes (item value rest) (found_before (code_of value) (item_codes rest))
    of (string text) f later = at_text text (code_named text) refl f later
    of _ f later = absurd (cc f)

pub codes_keys : (at : Option Data) → required (array_fault code_fault) at ≡ None → (items : Items) × (at ≡ Some (array items)) × AreCodes items (codes_of at)
codes_keys at e = let a = array_keys code_fault at e in
    let P : Option Data → Type 0 = λ at. AreCodes a.0 (codes_of at) in (a.0, a.1, subst P (sym a.1) (are_codes a.0 a.2))

-- what is wanted of a text, by the truth value at the key that tells whether the values are regular expressions
pub wanted_keys : (settings : Members) (values : List (List ℕ)) (at : Option Data) → get_member (codes "enabled_regex_matching") settings ≡ at → optional truth_fault at ≡ None
    → (items : Items) × (get_member (codes "values") settings ≡ Some (array items)) × AreTexts items values
    → IsWanted settings (texts_wanted (truth_of at) values) (codes "string_attribute")
wanted_keys settings values None a e t = (refl, inl (a, refl), t)
wanted_keys settings values (Some (boolean true)) a e t = (refl, a, t)
wanted_keys settings values (Some (boolean false)) a e t = (refl, inr a, t)
wanted_keys settings values (Some _) a e t = absurd (cc e)

-- two numbers at keys, of which the second may be missing
pub two_naturals : (settings : Members) (low high : List ℕ) → least (required natural_fault (get_member low settings)) (least (optional natural_fault (get_member high settings)) None) ≡ None
    → IsNatural settings low (natural_of (get_member low settings)) × IsNaturalOrZero settings high (natural_of (get_member high settings))
two_naturals settings low high e =
    let first = neither (required natural_fault (get_member low settings)) (least (optional natural_fault (get_member high settings)) None) e in
    let second = neither (optional natural_fault (get_member high settings)) None first.1 in
    (natural_keys (get_member low settings) first.0, natural 9223372036854775807 (get_member high settings) second.0)

-- what comes back to a bucket of bytes with each second, and how many it holds
pub bucket_keys : (settings : Members)
    → least (required natural_fault (get_member (codes "bytes_per_second") settings)) (least (optional natural_fault (get_member (codes "burst_capacity") settings)) None) ≡ None
    → IsNatural settings (codes "bytes_per_second") (natural_of (get_member (codes "bytes_per_second") settings))
    × IsNumberAt settings (codes "burst_capacity") (min (natural_of (get_member (codes "bytes_per_second") settings) * 2) 9223372036854775807) 0 9223372036854775807
    (number_or (min (natural_of (get_member (codes "bytes_per_second") settings) * 2) 9223372036854775807) (get_member (codes "burst_capacity") settings))
bucket_keys settings e =
    let rate = neither (required natural_fault (get_member (codes "bytes_per_second") settings)) (least (optional natural_fault (get_member (codes "burst_capacity") settings)) None) e in
    let burst = neither (optional natural_fault (get_member (codes "burst_capacity") settings)) None rate.1 in
    (natural_keys (get_member (codes "bytes_per_second") settings) rate.0, numbered _ 0 9223372036854775807 (get_member (codes "burst_capacity") settings) burst.0)
