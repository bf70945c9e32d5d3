-- Texts with their escapes, letter by letter.
-- For texts::put_escaped, texts::put_letter and texts::put_ascii_byte.
use Rattle.std.proofs.Common.{◌≡◌, ℕ, suc, inl, inr, ◌+◌, ◌/◌, ◌%◌, ◌<◌, ◌≤◌, Bool, true, false, cond, List, [], ◌∷◌, ◌++◌, nat_lt, encode_utf8, IsAscii, refl, sym, ap, ◌∙◌, arith, append_assoc}
use lib.Utf8.{encode}
use Rattle.std.specs.Prelude.{◌==◌}
use Rattle.std.proofs.lemmas.Bool.{cases_lt}
use Rattle.std.proofs.lemmas.Bool.Decides.{nat_tests}
use Rattle.std.proofs.lemmas.Str.{encode_ascii}
use Rattle.ottl_print.specs.Texts.{letter_of, escaped_byte, escaped}

pub one_byte : (c : ℕ) → c < 128 → encode_utf8 c ≡ c ∷ []
one_byte c small = encode_ascii c small

pub ascii_first : (c : ℕ) (s : List ℕ) → IsAscii (c ∷ s) → c < 128
ascii_first c s h = h 0

pub ascii_rest : (c : ℕ) (s : List ℕ) → IsAscii (c ∷ s) → IsAscii s
ascii_rest c s h = λ i. h (suc i)

pub escaped_append : (s t : List ℕ) → escaped (s ++ t) ≡ escaped s ++ escaped t
escaped_append [] t = refl
escaped_append (c ∷ s) t = ap (λ l. escaped_byte c ++ l) (escaped_append s t) ∙ sym (append_assoc (escaped_byte c) (escaped s) (escaped t))

-- a letter that is put, and what is left
pub step : (now before whole s letter rest : List ℕ) → now ≡ before ++ escaped letter → s ≡ letter ++ rest → before ++ escaped s ≡ whole → now ++ escaped rest ≡ whole
step now before whole s letter rest put parts held =
    ap (λ l. l ++ escaped rest) put ∙ append_assoc before (escaped letter) (escaped rest) ∙ ap (λ l. before ++ l) (sym (ap escaped parts ∙ escaped_append letter rest)) ∙ held

-- bytes of longer letters stay
high_none : (c : ℕ) → 128 ≤ c → letter_of c ≡ 0
high_none c high =
    let a : (c == 34) ≡ false = grind (arith, nat_tests, high) in
    let b : (c == 92) ≡ false = grind (arith, nat_tests, high) in
    let d : (c == 7) ≡ false = grind (arith, nat_tests, high) in
    let e : (c == 8) ≡ false = grind (arith, nat_tests, high) in
    let f : (c == 12) ≡ false = grind (arith, nat_tests, high) in
    let g : (c == 10) ≡ false = grind (arith, nat_tests, high) in
    let h : (c == 13) ≡ false = grind (arith, nat_tests, high) in
    let i : (c == 9) ≡ false = grind (arith, nat_tests, high) in
    let j : (c == 11) ≡ false = grind (arith, nat_tests, high) in
    rw (a, b, d, e, f, g, h, i, j) refl

none_stays : (c : ℕ) → letter_of c ≡ 0 → escaped_byte c ≡ c ∷ []
none_stays c none = rw none refl

high_stays : (c : ℕ) → 128 ≤ c → escaped_byte c ≡ c ∷ []
high_stays c high = none_stays c (high_none c high)

-- a letter that needs no backslash
pub stays : (c : ℕ) → letter_of c ≡ 0 → escaped (encode_utf8 c) ≡ encode_utf8 c
unfolding encode
stays c none = go (nat_lt c 128) (nat_lt c 2048) (nat_lt c 65536)
  where
    two : (a b : ℕ) → 128 ≤ a → 128 ≤ b → escaped (a ∷ b ∷ []) ≡ a ∷ b ∷ []
    two a b h k = rw (high_stays a h, high_stays b k) refl

    three : (a b d : ℕ) → 128 ≤ a → 128 ≤ b → 128 ≤ d → escaped (a ∷ b ∷ d ∷ []) ≡ a ∷ b ∷ d ∷ []
    three a b d h k l = rw (high_stays a h, two b d k l) refl

    four : (a b d e : ℕ) → 128 ≤ a → 128 ≤ b → 128 ≤ d → 128 ≤ e → escaped (a ∷ b ∷ d ∷ e ∷ []) ≡ a ∷ b ∷ d ∷ e ∷ []
    four a b d e h k l m = rw (high_stays a h, three b d e k l m) refl

    go : (x y z : Bool)
        → escaped (cond x (c ∷ []) (cond y ((192 + c / 64) ∷ (128 + c % 64) ∷ []) (cond z ((224 + c / 4096) ∷ (128 + (c / 64) % 64) ∷ (128 + c % 64) ∷ []) ((240 + c / 262144) ∷ (128 + (c / 4096) % 64) ∷ (128 + (c / 64) % 64) ∷ (128 + c % 64) ∷ []))))
        ≡ cond x (c ∷ []) (cond y ((192 + c / 64) ∷ (128 + c % 64) ∷ []) (cond z ((224 + c / 4096) ∷ (128 + (c / 64) % 64) ∷ (128 + c % 64) ∷ []) ((240 + c / 262144) ∷ (128 + (c / 4096) % 64) ∷ (128 + (c / 64) % 64) ∷ (128 + c % 64) ∷ [])))
    go true y z = rw (none_stays c none) refl
    go false true z = two (192 + c / 64) (128 + c % 64) (omega arith) (omega arith)
    go false false true = three (224 + c / 4096) (128 + (c / 64) % 64) (128 + c % 64) (omega arith) (omega arith) (omega arith)
    go false false false = four (240 + c / 262144) (128 + (c / 4096) % 64) (128 + (c / 64) % 64) (128 + c % 64) (omega arith) (omega arith) (omega arith) (omega arith)

letter_small : (c : ℕ) → letter_of c < 128
letter_small c =
    less (c == 34) 34 _ (omega arith)
    (less (c == 92) 92 _ (omega arith)
    (less (c == 7) 97 _ (omega arith)
    (less (c == 8) 98 _ (omega arith)
    (less (c == 12) 102 _ (omega arith) (less (c == 10) 110 _ (omega arith) (less (c == 13) 114 _ (omega arith) (less (c == 9) 116 _ (omega arith) (less (c == 11) 118 _ (omega arith) (omega arith)))))))))
  where
    less : (b : Bool) (m n : ℕ) → m < 128 → n < 128 → cond b m n < 128
    less true m n h k = h
    less false m n h k = k

-- a letter behind a backslash
pub turned : (c : ℕ) → (letter_of c ≡ 0 → ⊥) → escaped (encode_utf8 c) ≡ 92 ∷ encode_utf8 (letter_of c)
turned c some = elim (cases_lt c 128) [
  | inl small ↦ rw (encode_ascii c small, encode_ascii (letter_of c) (letter_small c)) (behind (letter_of c == 0) refl)
  | inr high ↦ absurd (some (high_none c high))
]
  where
    behind : (b : Bool) → (letter_of c == 0) ≡ b → cond b (c ∷ []) (92 ∷ letter_of c ∷ []) ++ [] ≡ 92 ∷ letter_of c ∷ []
    behind true e = absurd (some (grind (arith, nat_tests, e)))
    behind false e = refl
