-- Literals read back what they print.
-- For the law of laws::prints_as_itself.
use Rattle.std.proofs.Common.{◌≡◌, ℕ, suc, ◌^◌, ◌<◌, ℤ, pos, negsuc, Bool, true, false, ◌&&◌, List, [], ◌∷◌, ◌++◌, length, nat_lt, Ok, refl, sym, ap, ◌∙◌, arith, true≢false, ne_eqb, lt-ltb, append_assoc}
use Rattle.std.proofs.lemmas.Bool.Decides.{nat_tests}
use Rattle.std.proofs.lemmas.Fmt.{decimal_is_IsNumeral}
use Rattle.std.proofs.lemmas.Str.Parse.{digit_from_value}
use Rattle.std.proofs.lemmas.List.Sums.{list_all-from_AllPass}
use Rattle.std.specs.Prelude.{◌==◌}
use Rattle.std.specs.Char.{is_ascii_digit, digit_value}
use Rattle.std.specs.List.{list_all}
use Rattle.std.specs.Fmt.{decimal, signed_decimal, sign_text}
use Rattle.std.specs.Str.Parse.{AllDigits, IsNumeral, digits_value, without_leading_sign, signed_digits_value}
use Rattle.std.specs.Float.{Float}
use Rattle.std.specs.Float.Numeral.{exponent_text}
use Rattle.hex.specs.Hex.{IsBytes, encode_lower, is_hex_digit}
use Rattle.hex.proofs.HexLemmas.{decode_of-encode_lower, decode_of-ok}
use Rattle.ottl_lengths.specs.Lengths.{is_hex}
use Rattle.ottl_text.specs.Literals.{int_of, float_of, bytes_of, are_digits, fits}
use Rattle.ottl_text.specs.Tokens.{int, float, bytes, next_piece}
use Rattle.ottl_print.specs.Texts.{float_text}
use Rattle.ottl_print.proofs.Pieces.{Passes, Free, int_piece}
use Rattle.ottl_print.proofs.Marks.{float_piece, bytes_piece}

both : (a b : Bool) → a ≡ true → b ≡ true → (a && b) ≡ true
both true b e f = f
both false b e f = e

pub split : (a b : Bool) → (a && b) ≡ true → (a ≡ true) × (b ≡ true)
split true b e = (refl, e)
split false b e = absurd (true≢false (sym e))

pub passes_from : (p : ℕ → Bool) (xs : List ℕ) → list_all p xs ≡ true → Passes p xs
passes_from p [] e = tt
passes_from p (x ∷ xs) e = let h = split (p x) (list_all p xs) e in (h.0, passes_from p xs h.1)

-- ---- whole numbers
a_digit : (c : ℕ) → digit_value c < 10 → is_ascii_digit c ≡ true
a_digit c h = let range = digit_from_value c h in grind (arith, nat_tests, range)

pub passes_digits : (ds : List ℕ) → AllDigits 10 ds → Passes is_ascii_digit ds
passes_digits [] h = tt
passes_digits (d ∷ ds) h = (a_digit d h.0, passes_digits ds h.1)

digits_test : (ds : List ℕ) → AllDigits 10 ds → list_all (λ c. nat_lt (digit_value c) 10) ds ≡ true
digits_test [] h = refl
digits_test (d ∷ ds) h = both _ _ (lt-ltb (digit_value d) 10 h.0) (digits_test ds h.1)

are_digits_from : (ds : List ℕ) → IsNumeral 10 ds → are_digits ds ≡ true
are_digits_from ds h = both _ _ (lt-ltb 0 (length ds) h.0) (digits_test ds h.1)

int_by_value : (s ds : List ℕ) (v : ℤ) → without_leading_sign s ≡ ds → are_digits ds ≡ true → signed_digits_value 10 s ≡ v → fits v ≡ true → int_of s ≡ Ok v
unfolding int_of
int_by_value s ds v e digits value fit = rw (value, e, digits, fit) refl

-- the text of a whole number: a minus or none, and digits
pub record IsWhole (z : ℤ) : Type 0 where
  pub negative : Bool
  pub first : ℕ
  pub others : List ℕ
  pub is : signed_decimal z ≡ sign_text negative ++ (first ∷ others)
  pub digits : Passes is_ascii_digit (first ∷ others)
  pub again : int_of (signed_decimal z) ≡ Ok z

plain_whole : (n : ℕ) (ds : List ℕ) → ds ≡ decimal n → n < 2 ^ 63 → IsNumeral 10 ds → digits_value 10 ds ≡ n → IsWhole (pos n)
plain_whole n [] is small h v = absurd (omega (arith, h.0))
plain_whole n (d ∷ ds) is small h v =
    let pass = passes_digits (d ∷ ds) h.1 in
    let no_minus : (d == 45) ≡ false = ne_eqb d 45 (λ e. true≢false (sym pass.0 ∙ ap is_ascii_digit e)) in
    let no_plus : (d == 43) ≡ false = ne_eqb d 43 (λ e. true≢false (sym pass.0 ∙ ap is_ascii_digit e)) in
    let unsigned : without_leading_sign (d ∷ ds) ≡ d ∷ ds = rw (no_minus, no_plus) refl in
    let value : signed_digits_value 10 (d ∷ ds) ≡ pos n = rw (no_minus, no_plus) (ap pos v) in
    let fit : fits (pos n) ≡ true = lt-ltb n (2 ^ 63) small in
    record {
      negative = false;
      first = d;
      others = ds;
      is = sym is;
      digits = pass;
      again = ap int_of (sym is) ∙ int_by_value (d ∷ ds) (d ∷ ds) (pos n) unsigned (are_digits_from (d ∷ ds) h) value fit;
    }

minus_whole : (n : ℕ) (ds : List ℕ) → ds ≡ decimal (suc n) → n < 2 ^ 63 → IsNumeral 10 ds → digits_value 10 ds ≡ suc n → IsWhole (negsuc n)
minus_whole n [] is small h v = absurd (omega (arith, h.0))
minus_whole n (d ∷ ds) is small h v =
    let value : signed_digits_value 10 (45 ∷ d ∷ ds) ≡ negsuc n = ap (λ k. Rattle.std.specs.Prelude.neg_ℤ (pos k)) v in
    let fit : fits (negsuc n) ≡ true = lt-ltb n (2 ^ 63) small in
    record {
      negative = true;
      first = d;
      others = ds;
      is = ap (λ l. 45 ∷ l) (sym is);
      digits = passes_digits (d ∷ ds) h.1;
      again = ap (λ l. int_of (45 ∷ l)) (sym is) ∙ int_by_value (45 ∷ d ∷ ds) (d ∷ ds) (negsuc n) refl (are_digits_from (d ∷ ds) h) value fit;
    }

below : (n : ℕ) → nat_lt n (2 ^ 63) ≡ true → n < 2 ^ 63
below n e = grind (arith, nat_tests, e)

pub whole_number : (z : ℤ) → fits z ≡ true → IsWhole z
whole_number (pos n) e = let small = below n e in let h = decimal_is_IsNumeral n (omega (arith, small)) in plain_whole n (decimal n) refl small h.0 h.1
whole_number (negsuc n) e = let small = below n e in let h = decimal_is_IsNumeral (suc n) (omega (arith, small)) in minus_whole n (decimal (suc n)) refl small h.0 h.1

pub int_read : (z : ℤ) (rest : List ℕ) → IsWhole z → Free rest → next_piece (signed_decimal z ++ rest) ≡ Ok (int (signed_decimal z), rest)
int_read z rest w free =
    ap (λ l. next_piece (l ++ rest)) w.is ∙ ap next_piece (append_assoc (sign_text w.negative) (w.first ∷ w.others) rest) ∙ int_piece w.negative w.first w.others rest w.digits free
    ∙ ap (λ l. Ok (int l, rest)) (sym w.is)

-- ---- floats
-- the text of a float: a minus or none, digits, a point, digits, an exponent or none; it reads as the float
pub record IsFloat (x : Float) : Type 0 where
  pub negative : Bool
  pub first : ℕ
  pub others : List ℕ
  pub fraction : List ℕ
  pub minus : Bool
  pub marks : List ℕ
  pub is : float_text x ≡ (sign_text negative ++ (first ∷ others)) ++ 46 ∷ (fraction ++ exponent_text minus marks)
  pub digits : Passes is_ascii_digit (first ∷ others)
  pub digits_behind : Passes is_ascii_digit fraction
  pub some_behind : 0 < length fraction
  pub digits_of_exponent : Passes is_ascii_digit marks
  pub again : float_of (float_text x) ≡ Ok x

pub float_read : (x : Float) (rest : List ℕ) → IsFloat x → Free rest → next_piece (float_text x ++ rest) ≡ Ok (float (float_text x), rest)
float_read x rest w free =
    let A = sign_text w.negative ++ (w.first ∷ w.others) in
    let ex = exponent_text w.minus w.marks in
    ap (λ l. next_piece (l ++ rest)) w.is ∙ ap next_piece (append_assoc A (46 ∷ (w.fraction ++ ex)) rest ∙ ap (λ l. A ++ 46 ∷ l) (append_assoc w.fraction ex rest))
    ∙ float_piece w.negative w.first w.others w.fraction w.minus w.marks rest w.digits w.digits_behind w.some_behind w.digits_of_exponent free
    ∙ ap (λ l. Ok (float l, rest)) (sym w.is)

-- ---- bytes
hex_test : (c : ℕ) → is_hex_digit c ≡ true → is_hex c ≡ true
hex_test c e = grind (arith, nat_tests, e)

pub hex_passes : (hs : List ℕ) → list_all is_hex_digit hs ≡ true → Passes is_hex hs
hex_passes [] e = tt
hex_passes (c ∷ cs) e = let h = split (is_hex_digit c) (list_all is_hex_digit cs) e in (hex_test c h.0, hex_passes cs h.1)

pub bytes_read : (s rest : List ℕ) → IsBytes s → 0 < length s → Free rest → next_piece (48 ∷ 120 ∷ (encode_lower s ++ rest)) ≡ Ok (bytes (encode_lower s), rest)
bytes_read s rest small some free =
    let h = decode_of-ok (encode_lower s) s (decode_of-encode_lower s small) in
    bytes_piece (encode_lower s) rest (hex_passes (encode_lower s) (list_all-from_AllPass is_hex_digit (encode_lower s) h.1)) (omega (arith, h.2, some)) free

pub bytes_back : (s : List ℕ) → IsBytes s → bytes_of (encode_lower s) ≡ Ok s
unfolding bytes_of
bytes_back s small = rw (decode_of-encode_lower s small) refl
