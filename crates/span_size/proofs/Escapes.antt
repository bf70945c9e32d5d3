-- How long a text is with its escapes.
-- For the clauses of `escaped_len`, `key`, `string` and `id`.
use Rattle.std.proofs.Common.{◌≡◌, ℕ, zero, suc, ◌+◌, ◌*◌, ◌/◌, ◌%◌, ◌<◌, ◌==◌, Bool, true, ◌&&◌, length, get_or, slice_index, take, List, [], ◌∷◌, inl, inr, refl, sym, ap, ◌∙◌, length-append, arith, ◌-◌, drop, subst, ◌≤◌, ◌++◌}
use Rattle.std.specs.Bool.{OnTrue}
use Rattle.std.proofs.Math.Seq.{take-add}
use Rattle.json.specs.Written.{PlainBetween}
use Rattle.json.proofs.Printed.Plain.{escape_on_plain}
use Rattle.std.proofs.lemmas.Bool.{and_parts, cases_lt, eqb-true}
use Rattle.std.proofs.lemmas.List.{take_all}
use Rattle.std.proofs.lemmas.List.Concat.{flat_map-append}
use Rattle.json.specs.Token.{key, string}
use Rattle.json.specs.Print.{escape, escape_byte, quoted, token_text}
use Rattle.hex.specs.Hex.{encode_with, encode_lower, lower_digits}
use Rattle.span_size.specs.Counting.{capped}

-- the bytes of a text with its escapes
abbrev pub escaped : List ℕ → ℕ
escaped s = length (escape s)

escaped-append : (xs ys : List ℕ) → escaped (xs ++ ys) ≡ escaped xs + escaped ys
escaped-append xs ys = ap length (flat_map-append escape_byte xs ys) ∙ length-append (escape xs) (escape ys)

-- the part from i up to j more
pub escaped-part : (s : List ℕ) (i j : ℕ) → i ≤ j → escaped (take j s) ≡ escaped (take i s) + escaped (take (j - i) (drop i s))
escaped-part s i j h =
    let back : j ≡ i + (j - i) = omega arith in
    ap (λ n. escaped (take n s)) back ∙ ap escaped (take-add i (j - i) s) ∙ escaped-append (take i s) (take (j - i) (drop i s))

-- the part from i on is the last
pub escaped-rest : (s : List ℕ) (i : ℕ) → i ≤ length s → escaped s ≡ escaped (take i s) + escaped (take (length s - i) (drop i s))
escaped-rest s i h = ap escaped (sym (take_all (length s) s (omega arith))) ∙ escaped-part s i (length s) h

-- a block of n bytes of which none needs an escape
pub plain-block : (b : Bool) (d : List ℕ) (n : ℕ) → n ≡ length d → OnTrue b (PlainBetween d 0 n) → OnTrue b (escape d ≡ d)
plain-block b d n e h = escape_on_plain b d (subst (λ (m : ℕ). OnTrue b (PlainBetween d 0 m)) e h)

length-quoted : (s : List ℕ) → length (quoted s) ≡ escaped s + 2
length-quoted s = let e = length-append (escape s) (34 ∷ []) in omega (arith, e)

-- a text and its quotes are counted
pub string-size : (s : List ℕ) (text size : ℕ) → text ≡ capped (escaped s) → size ≡ capped (text + 2) → size ≡ capped (length (token_text (string s)))
string-size s text size e h = let q : length (token_text (string s)) ≡ escaped s + 2 = length-quoted s in omega (arith, q)

-- a name, its quotes and the colon are counted
pub key-size : (s : List ℕ) (text size : ℕ) → text ≡ capped (escaped s) → size ≡ capped (text + 3) → size ≡ capped (length (token_text (key s)))
key-size s text size e h =
    let colon : length (token_text (key s)) ≡ length (quoted s) + 1 = length-append (quoted s) (58 ∷ []) in
    let q = length-quoted s in
    omega (arith, colon, q)

-- ---- hex digits

abbrev is_plain_digit : ℕ → Bool
is_plain_digit d = length (escape_byte (slice_index lower_digits d)) == 1

abbrev are_plain_digits : ℕ → Bool
are_plain_digits zero = true
are_plain_digits (suc n) = is_plain_digit n && are_plain_digits n

plain-digit : (n d : ℕ) → are_plain_digits n ≡ true → d < n → length (escape_byte (slice_index lower_digits d)) ≡ 1
plain-digit zero d h lt = absurd (omega arith)
plain-digit (suc n) d h lt =
    let parts = and_parts (is_plain_digit n) (are_plain_digits n) h in
    elim (cases_lt d n) [
      | inl below ↦ plain-digit n d parts.1 below
      | inr top ↦ let e : d ≡ n = omega arith in rw e (eqb-true (length (escape_byte (slice_index lower_digits n))) 1 parts.0)
    ]

all-plain : are_plain_digits 16 ≡ true
unfolding escape_byte
all-plain = refl

-- no digit of an id's text has an escape
pub escaped-hex : (bytes : List ℕ) → ((i : ℕ) → get_or bytes i 0 < 256) → escaped (encode_lower bytes) ≡ 2 * length bytes
unfolding encode_with
escaped-hex [] h = refl
escaped-hex (b ∷ rest) h =
    let fits : b < 256 = h 0 in
    let high = plain-digit 16 (b / 16) all-plain (omega arith) in
    let low = plain-digit 16 (b % 16) all-plain (omega arith) in
    let more = escaped-hex rest (λ i. h (suc i)) in
    let parts = length-append (escape_byte (slice_index lower_digits (b / 16))) (escape (slice_index lower_digits (b % 16) ∷ encode_lower rest)) in
    let others = length-append (escape_byte (slice_index lower_digits (b % 16))) (escape (encode_lower rest)) in
    omega (arith, high, low, more, parts, others)
