-- A decimal's text is a plain numeral of that worth in each of its four layouts: its digits among zeros, parted by a
-- point. For the clause `number` of `text_of`.
use Rattle.std.proofs.Common.{◌≡◌, ℕ, suc, ◌+◌, ◌-◌, ◌*◌, ◌^◌, ◌<◌, ◌≤◌, ◌⊎◌, Bool, true, false, cond, nat_lt, List, [], ◌∷◌, ◌++◌, length, get_or, take, drop, inl, inr, refl, sym, ap, ◌∙◌, subst, arith, true≢false, append-nil, append_assoc, length-append, length-take, length-drop, take-append-drop, lt-ltb, le-ltb, pow-add}
use Rattle.std.proofs.lemmas.Bool.{cases_lt, ltb-true, ltb-false}
use Rattle.std.proofs.lemmas.Fmt.{decimal_is_IsNumeral, decimal_nonempty}
use Rattle.std.proofs.lemmas.List.{length-replicate, replicate-append-replicate, get_or_append_left, get_or-take, drop_all}
use Rattle.std.specs.Fmt.{decimal}
use Rattle.std.specs.Str.Parse.{digits_value, AllDigits}
use Rattle.fast_float.specs.Text.{Parts, exponent_text, text_of}
use Rattle.fast_float.proofs.DigitsLemmas.{digits_value-append}
use Rattle.fast_float.proofs.Extremes.{tens_eq}
use Rattle.fast_float.proofs.Rows.{AllDigits-append}
use Rattle.ryu.specs.Plain.{IsPlain, IsWorth}
use Rattle.ryu.proofs.Texts.{zeros, AllDigits-zeros, value_zeros}
use Rattle.shortest_float.specs.Layout.{with_point, with_zeros, one_before_point, exponent, has_exponent, layout}

-- the text is a plain numeral worth digits * 10 ^ (power - 342)
abbrev pub IsPlainText : List ℕ → ℕ → ℕ → Type 0
IsPlainText text digits power = (p : Parts) × (text ≡ text_of p) × IsPlain p × IsWorth p digits (power + 58)

both_are : (xs ys : List ℕ) → AllDigits 10 (xs ++ ys) → AllDigits 10 xs × AllDigits 10 ys
both_are [] ys all = (tt, all)
both_are (x ∷ xs) ys all = let rest = both_are xs ys all.1 in ((all.0, rest.0), rest.1)

-- a digit above 0 comes first, or none behind the first
abbrev IsLed : List ℕ → Type 0
IsLed whole = (48 < get_or whole 0 0) ⊎ (length whole ≡ 1)

first_zero : (whole : List ℕ) → IsLed whole → get_or whole 0 0 ≡ 48 → length whole ≡ 1
first_zero whole (inl above) zero = absurd (omega (arith, above, zero))
first_zero whole (inr one) zero = one

-- what may stand behind the whole part: a fraction, an exponent or both
record IsTail (point negative : Bool) (fraction marks : List ℕ) : Type 0 where
  digits : AllDigits 10 marks
  some : point ≡ true → 0 < length fraction
  none : point ≡ false → (fraction ≡ []) × (0 < length marks)
  signed : marks ≡ [] → negative ≡ false

module _ (text : List ℕ) (all : AllDigits 10 text) where
  -- zeros on both sides of the digits
  abbrev padded : ℕ → ℕ → List ℕ
  padded ahead behind = zeros ahead ++ (text ++ zeros behind)

  padded_digits : (ahead behind : ℕ) → AllDigits 10 (padded ahead behind)
  padded_digits ahead behind = AllDigits-append _ _ (AllDigits-zeros ahead) (AllDigits-append _ _ all (AllDigits-zeros behind))

  padded_value : (ahead behind : ℕ) → digits_value 10 (padded ahead behind) ≡ digits_value 10 text * 10 ^ behind
  padded_value ahead behind = digits_value-append (zeros ahead) (text ++ zeros behind) ∙ rw (value_zeros, digits_value-append text (zeros behind), value_zeros, length-replicate {A = ℕ} behind 48) (omega arith)

  -- parted anywhere, they are a numeral of the worth that the point and the exponent give them
  plain : (whole fraction marks : List ℕ) (point negative : Bool) (ahead behind power : ℕ) → whole ++ fraction ≡ padded ahead behind → 0 < length whole → IsLed whole
      → IsTail point negative fraction marks
      → behind + cond negative 0 (digits_value 10 marks) + (400 - (power + 58)) ≡ power + 58 - 400 + (length fraction + cond negative (digits_value 10 marks) 0)
      → IsPlainText (whole ++ (cond point (46 ∷ fraction) [] ++ exponent_text negative marks)) (digits_value 10 text) power
  plain whole fraction marks point negative ahead behind power is some first tail places =
      let parted = both_are whole fraction (subst (AllDigits 10) (sym is) (padded_digits ahead behind)) in
      let up = cond negative 0 (digits_value 10 marks) in
      let down = length fraction + cond negative (digits_value 10 marks) 0 in
      let value : digits_value 10 (whole ++ fraction) * 10 ^ up ≡ digits_value 10 text * 10 ^ (behind + up) =
      ap (λ l. digits_value 10 l * 10 ^ up) is ∙ ap (λ n. n * 10 ^ up) (padded_value ahead behind) ∙ omega (arith, ap (λ n. digits_value 10 text * n) (sym (pow-add 10 behind up))) in (
        record {
          whole = whole;
          point = point;
          fraction = fraction;
          exponent_negative = negative;
          exponent = marks;
          len = length (whole ++ (cond point (46 ∷ fraction) [] ++ exponent_text negative marks));
        },
        refl,
        record {
          well_formed = record {
            whole_digits = parted.0;
            fraction_digits = parted.1;
            exponent_digits = tail.digits;
            no_point = λ e. (tail.none e).0;
            no_exponent = λ e. tail.signed e;
            len_is = refl;
          };
          whole = some;
          no_leading_zero = first_zero whole first;
          fraction = tail.some;
          marked = λ e. (tail.none e).1;
        },
        ap (λ n. n * 10 ^ (400 - (power + 58))) value ∙ tens_eq (digits_value 10 text) (behind + up) (400 - (power + 58)) (power + 58 - 400) down places,
      )

  -- with a fraction and no exponent
  pointed : (whole fraction : List ℕ) (ahead behind power : ℕ) → whole ++ fraction ≡ padded ahead behind → 0 < length whole → IsLed whole → 0 < length fraction
      → behind + (400 - (power + 58)) ≡ power + 58 - 400 + length fraction → IsPlainText (whole ++ 46 ∷ fraction) (digits_value 10 text) power
  pointed whole fraction ahead behind power is some first more places =
      let tail : IsTail true false fraction [] = record { digits = tt; some = λ _. more; none = λ e. absurd (true≢false e); signed = λ _. refl } in
      subst (λ l. IsPlainText (whole ++ 46 ∷ l) (digits_value 10 text) power) (append-nil fraction) (plain whole fraction [] true false ahead behind power is some first tail (omega (arith, places)))

-- `0.0`: a zero on each side of no digit
pub zero_text : IsPlainText (48 ∷ 46 ∷ 48 ∷ []) 0 342
zero_text = pointed [] tt (48 ∷ []) (48 ∷ []) 1 1 342 refl (omega arith) (inr refl) (omega arith) refl

module _ (text : List ℕ) (power : ℕ) (all : AllDigits 10 text) (some : 0 < length text) (lead : 48 < get_or text 0 0) where
  abbrev digits : ℕ
  digits = digits_value 10 text

  led : (n : ℕ) → 0 < n → IsLed (take n text)
  led n more = inl (omega (arith, get_or-take n text 0 0 more, lead))

  cut : (n : ℕ) → take n text ++ drop n text ≡ padded text all 0 0
  cut n = take-append-drop n text ∙ sym (append-nil text)

  before_point : 342 < power + length text → IsPlainText (with_point text (power + length text - 342)) digits power
  before_point inside = let before = power + length text - 342 in elim (cases_lt before (length text)) [ inl l ↦ rw (lt-ltb before (length text) l) (within before l refl) | inr g ↦ rw (le-ltb before (length text) g) (beyond (before - length text) (omega (arith, g, inside))) ]
    where
      within : (n : ℕ) → n < length text → n ≡ power + length text - 342 → IsPlainText (take n text ++ 46 ∷ drop n text) digits power
      within n l is =
          pointed text all (take n text) (drop n text) 0 0 power (cut n) (omega (arith, length-take n text, l, is, inside)) (led n (omega (arith, is, inside))) (omega (arith, length-drop n text, l))
          (omega (arith, length-drop n text, l, is, inside))

      beyond : (k : ℕ) → power ≡ 342 + k → IsPlainText ((text ++ zeros k) ++ 46 ∷ 48 ∷ []) digits power
      beyond k is =
          let long : 0 < length (text ++ zeros k) = omega (arith, length-append text (zeros k), some) in
          let one_more : (text ++ zeros k) ++ 48 ∷ [] ≡ text ++ zeros (k + 1) = append_assoc text (zeros k) (48 ∷ []) ∙ ap (λ l. text ++ l) (replicate-append-replicate k 1 48) in
          pointed text all (text ++ zeros k) (48 ∷ []) 0 (k + 1) power one_more long (inl (omega (arith, get_or_append_left text (zeros k) 0 0 some, lead))) (omega arith) (omega (arith, is))

  behind_point : (k : ℕ) → power + length text + k ≡ 342 → IsPlainText (with_zeros text k) digits power
  behind_point k sum =
      let long : length (zeros k ++ text) ≡ k + length text = length-append (zeros k) text ∙ ap (λ n. n + length text) (length-replicate {A = ℕ} k 48) in
      let ahead : 48 ∷ (zeros k ++ text) ≡ zeros (k + 1) ++ (text ++ []) = let next : suc k ≡ k + 1 = omega arith in ap (λ l. zeros (suc k) ++ l) (sym (append-nil text)) ∙ ap (λ n. zeros n ++ (text ++ [])) next in
      pointed text all (48 ∷ []) (zeros k ++ text) (k + 1) 0 power ahead (omega arith) (inr refl) (omega (arith, long, some)) (omega (arith, long, sum))

  -- one digit, and the others behind a point
  with_exponent : (size : ℕ) (negative more : Bool) → size < 1000 → nat_lt 1 (length text) ≡ more → cond negative 0 size + (400 - (power + 58)) ≡ power + 58 - 400 + (length text - 1 + cond negative size 0)
      → IsPlainText ((take 1 text ++ cond more (46 ∷ drop 1 text) []) ++ 101 ∷ (cond negative (45 ∷ []) [] ++ decimal size)) digits power
  with_exponent size negative more small is places =
      let numeral = decimal_is_IsNumeral size (omega (arith, small)) in
      let marks = decimal size in
      let nonempty : 0 < length marks = decimal_nonempty size (omega (arith, small)) in
      let tail : IsTail more negative (drop 1 text) marks =
      record {
        digits = numeral.0.1;
        some = λ e. omega (arith, length-drop 1 text, ltb-true 1 (length text) (is ∙ e));
        none = λ e. (drop_all 1 text (ltb-false 1 (length text) (is ∙ e)), nonempty);
        signed = λ e. absurd (omega (arith, ap length e, nonempty));
      } in
      let value : 0 + cond negative 0 (digits_value 10 marks) + (400 - (power + 58)) ≡ power + 58 - 400 + (length (drop 1 text) + cond negative (digits_value 10 marks) 0) =
      rw (numeral.1, length-drop 1 text) (omega (arith, places)) in
      let form = plain text all (take 1 text) (drop 1 text) marks more negative 0 0 power (cut 1) (omega (arith, length-take 1 text, some)) (led 1 (omega arith)) tail value in
      subst (λ l. IsPlainText l digits power) (sym (append_assoc (take 1 text) (cond more (46 ∷ drop 1 text) []) _) ∙ ap (λ l. (take 1 text ++ cond more (46 ∷ drop 1 text) []) ++ l) (exponent_is negative marks nonempty)) form
    where
      exponent_is : (negative : Bool) (marks : List ℕ) → 0 < length marks → exponent_text negative marks ≡ 101 ∷ (cond negative (45 ∷ []) [] ++ marks)
      exponent_is negative [] none = absurd (omega arith)
      exponent_is true (d ∷ ds) more = refl
      exponent_is false (d ∷ ds) more = refl

  far_away : power ≤ 650 → length text ≤ 18 → IsPlainText (one_before_point text ++ exponent (power + length text)) digits power
  far_away top few =
      let place = power + length text in
      elim (cases_lt place 343) [
        | inl l ↦ rw (lt-ltb place 343 l) (with_exponent (343 - place) true (nat_lt 1 (length text)) (omega arith) refl (omega (arith, l, some)))
        | inr g ↦ rw (le-ltb place 343 g) (with_exponent (place - 343) false (nat_lt 1 (length text)) (omega (arith, top, few)) refl (omega (arith, g, some)))
      ]

  pub layout_form : power ≤ 650 → length text ≤ 18 → IsPlainText (layout text power) digits power
  unfolding layout
  layout_form top few = by_place (has_exponent (power + length text)) (nat_lt 342 (power + length text)) refl
    where
      by_place : (far inside : Bool) → nat_lt 342 (power + length text) ≡ inside
          → IsPlainText (cond far (one_before_point text ++ exponent (power + length text)) (cond inside (with_point text (power + length text - 342)) (with_zeros text (342 - (power + length text))))) digits power
      by_place true inside is = far_away top few
      by_place false true is = before_point (ltb-true 342 (power + length text) is)
      by_place false false is = behind_point (342 - (power + length text)) (omega (arith, ltb-false 342 (power + length text) is))
