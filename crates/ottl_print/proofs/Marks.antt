-- Floats, bytes, texts, operators, parentheses and commas, in front of what ends them.
-- For the law of laws::prints_as_itself.
use Rattle.std.proofs.Common.{◌≡◌, ℕ, ◌+◌, ◌<◌, ◌⊎◌, inl, inr, Bool, true, false, cond, List, [], ◌∷◌, ◌++◌, length, get_or, take, drop, nat_lt, Ok, Option, Some, None, codes, refl, sym, ap, ◌∙◌, subst, arith, true≢false, eqb-true, lt-ltb, append_assoc, append-nil, length-append}
use Rattle.std.proofs.lemmas.Bool.Decides.{nat_tests}
use Rattle.std.proofs.Math.Seq.{take-append_seam, drop-append_seam}
use Rattle.std.specs.Prelude.{◌==◌}
use Rattle.std.specs.Char.{is_ascii_digit}
use Rattle.std.specs.Fmt.{sign_text}
use Rattle.std.specs.Float.Numeral.{exponent_text}
use Rattle.ottl_lengths.specs.Lengths.{is_of_word, is_hex, sign_len, digits_len, bytes_len, int_len, exponent_len, float_len, word_len, quote_at, quote_from}
use Rattle.ottl_text.specs.declared.expression.Binary.{Binary}
use Rattle.ottl_text.specs.declared.expression.Binary.TheVariants as two
use Rattle.ottl_text.specs.Literals.{escape_of, unescape, text_of, in_utf8}
use Rattle.ottl_text.specs.Names.{operator_of}
use Rattle.ottl_text.specs.Tokens.{Piece, word, sign, operator, float, bytes, text, quoted, unnumbered, marked, piece_at, next_piece}
use Rattle.ottl_print.specs.Names.{is_operator, binary_name}
use Rattle.ottl_print.specs.Texts.{letter_of, escaped}
use Rattle.ottl_print.proofs.Pieces.{Stops, Passes, Free, run, not_empty, signed_long, seam, exponent_long, exponent_stops, float_long, float_front, digits_long, no_bytes, number_no_bytes, digit_blank, drop_seam, some_length}

-- ---- floats
module _ (A fs ex rest : List ℕ) where
  -- behind the whole part
  abbrev numeral : List ℕ
  numeral = A ++ 46 ∷ (fs ++ ex)

  abbrev whole : List ℕ
  whole = A ++ 46 ∷ (fs ++ (ex ++ rest))

  joined_again : numeral ++ rest ≡ whole
  joined_again = append_assoc A (46 ∷ (fs ++ ex)) rest ∙ ap (λ l. A ++ 46 ∷ l) (append_assoc fs ex rest)

  float_parts : (length whole == 0) ≡ false → bytes_len whole ≡ 0 → sign_len whole + digits_len (drop (sign_len whole) whole) ≡ length A → Passes is_ascii_digit fs → 0 < length fs
      → Stops is_ascii_digit (ex ++ rest) → exponent_len (ex ++ rest) ≡ length ex → piece_at whole ≡ Ok (float numeral, rest)
  float_parts some none start pass more stop tail =
      let point : (get_or whole (length A) 0 == 46) ≡ true = ap (λ c. c == 46) (seam A (46 ∷ (fs ++ (ex ++ rest)))) in
      let behind_point : drop (length A + 1) whole ≡ fs ++ (ex ++ rest) =
      ap (drop (length A + 1)) (sym (append_assoc A (46 ∷ []) (fs ++ (ex ++ rest)))) ∙ drop_seam (A ++ 46 ∷ []) (fs ++ (ex ++ rest)) (length A + 1) (omega (arith, length-append A (46 ∷ []))) in
      let count : digits_len (drop (length A + 1) whole) ≡ length fs = ap digits_len behind_point ∙ digits_long fs (ex ++ rest) pass stop in
      let behind_digits : drop (length A + 1 + length fs) whole ≡ ex ++ rest =
      ap (drop (length A + 1 + length fs)) (sym (append_assoc A (46 ∷ fs) (ex ++ rest))) ∙ drop_seam (A ++ 46 ∷ fs) (ex ++ rest) (length A + 1 + length fs) (omega (arith, length-append A (46 ∷ fs))) in
      let end : exponent_len (drop (length A + 1 + length fs) whole) ≡ length ex = ap exponent_len behind_digits ∙ tail in
      let long : float_len whole ≡ length numeral =
      float_long whole (length A) (length fs) (length ex) start point count (lt-ltb 0 (length fs) more) end ∙ omega (arith, length-append A (46 ∷ (fs ++ ex)), length-append fs ex) in
      let filled : nat_lt 0 (length numeral) ≡ true = lt-ltb 0 (length numeral) (omega (arith, length-append A (46 ∷ (fs ++ ex)))) in
      float_front whole numeral rest some none long filled (ap (take (length numeral)) (sym joined_again) ∙ take-append_seam numeral rest) (ap (drop (length numeral)) (sym joined_again) ∙ drop-append_seam numeral rest)

pub float_piece : (negative : Bool) (d : ℕ) (ds fs : List ℕ) (minus : Bool) (marks rest : List ℕ) → Passes is_ascii_digit (d ∷ ds) → Passes is_ascii_digit fs → 0 < length fs → Passes is_ascii_digit marks → Free rest
    → next_piece ((sign_text negative ++ (d ∷ ds)) ++ 46 ∷ (fs ++ (exponent_text minus marks ++ rest))) ≡ Ok (float ((sign_text negative ++ (d ∷ ds)) ++ 46 ∷ (fs ++ exponent_text minus marks)), rest)
unfolding next_piece
float_piece true d ds fs minus marks rest pass parts more power free =
    let ex = exponent_text minus marks in
    let R = 46 ∷ (fs ++ (ex ++ rest)) in
    let h = signed_long true d ds R pass refl in
    float_parts (45 ∷ d ∷ ds) fs ex rest (not_empty 45 ((d ∷ ds) ++ R)) (no_bytes 45 ((d ∷ ds) ++ R) refl) (omega (arith, h.0, h.1)) parts more (exponent_stops minus marks rest free) (exponent_long minus marks rest power free)
float_piece false d ds fs minus marks rest pass parts more power free =
    let ex = exponent_text minus marks in
    let R = 46 ∷ (fs ++ (ex ++ rest)) in
    let h = signed_long false d ds R pass refl in
    ap piece_at (digit_blank d (ds ++ R) pass.0)
    ∙ float_parts (d ∷ ds) fs ex rest (not_empty d (ds ++ R)) (number_no_bytes d ds R pass.1 refl) (omega (arith, h.0, h.1)) parts more (exponent_stops minus marks rest free) (exponent_long minus marks rest power free)

-- ---- bytes
no_hex : (c : ℕ) → is_of_word c ≡ false → is_hex c ≡ false
no_hex c e = grind (arith, nat_tests, e)

free_hex : (rest : List ℕ) → Free rest → Stops is_hex rest
free_hex [] free = tt
free_hex (c ∷ cs) free = no_hex c free

bytes_front : (s hs rest : List ℕ) (n : ℕ) → (length s == 0) ≡ false → bytes_len s ≡ n → nat_lt 0 n ≡ true → take n s ≡ 48 ∷ 120 ∷ hs → drop n s ≡ rest → piece_at s ≡ Ok (bytes hs, rest)
unfolding piece_at
bytes_front s hs rest n e b some t d = rw (e, b, some, t, d) refl

pub bytes_piece : (hs rest : List ℕ) → Passes is_hex hs → 0 < length hs → Free rest → next_piece (48 ∷ 120 ∷ (hs ++ rest)) ≡ Ok (bytes hs, rest)
unfolding next_piece bytes_len
bytes_piece hs rest pass more free =
    let count = run is_hex hs rest pass (free_hex rest free) in
    bytes_front (48 ∷ 120 ∷ (hs ++ rest)) hs rest (length (48 ∷ 120 ∷ hs)) (not_empty 48 (120 ∷ (hs ++ rest))) (rw (count, lt-ltb 0 (length hs) more) (omega arith)) (some_length 48 (120 ∷ hs))
    (take-append_seam (48 ∷ 120 ∷ hs) rest) (drop-append_seam (48 ∷ 120 ∷ hs) rest)

-- ---- texts
-- a byte with no letter stands for itself; another is the escape of its letter
abbrev View : ℕ → Type 0
View c = ((letter_of c ≡ 0) × ((c == 34) ≡ false) × ((c == 92) ≡ false) × ((c == 10) ≡ false)) ⊎ (((letter_of c == 0) ≡ false) × (escape_of (letter_of c) ≡ c) × ((c == 0) ≡ false))

is_it : (c k : ℕ) → (c ≡ k) ⊎ ((c == k) ≡ false)
is_it c k = go (c == k) refl
  where
    go : (b : Bool) → (c == k) ≡ b → (c ≡ k) ⊎ ((c == k) ≡ false)
    go true e = inl (eqb-true c k e)
    go false e = inr e

is_one : (k : ℕ) → ((letter_of k == 0) ≡ false) × (escape_of (letter_of k) ≡ k) × ((k == 0) ≡ false) → (c : ℕ) → c ≡ k → View c
is_one k v c e = inr (subst (λ k. ((letter_of k == 0) ≡ false) × (escape_of (letter_of k) ≡ k) × ((k == 0) ≡ false)) (sym e) v)

view : (c : ℕ) → View c
view c =
    elim (is_it c 34) [
      | inl e ↦ is_one 34 (refl, refl, refl) c e
      | inr e34 ↦
          elim (is_it c 92) [
            | inl e ↦ is_one 92 (refl, refl, refl) c e
            | inr e92 ↦
                elim (is_it c 7) [
                  | inl e ↦ is_one 7 (refl, refl, refl) c e
                  | inr e7 ↦
                      elim (is_it c 8) [
                        | inl e ↦ is_one 8 (refl, refl, refl) c e
                        | inr e8 ↦
                            elim (is_it c 12) [
                              | inl e ↦ is_one 12 (refl, refl, refl) c e
                              | inr e12 ↦
                                  elim (is_it c 10) [
                                    | inl e ↦ is_one 10 (refl, refl, refl) c e
                                    | inr e10 ↦
                                        elim (is_it c 13) [
                                          | inl e ↦ is_one 13 (refl, refl, refl) c e
                                          | inr e13 ↦
                                              elim (is_it c 9) [
                                                | inl e ↦ is_one 9 (refl, refl, refl) c e
                                                | inr e9 ↦
                                                    elim (is_it c 11) [
                                                      | inl e ↦ is_one 11 (refl, refl, refl) c e
                                                      | inr e11 ↦
                                                          inl (rw (e34, e92, e7, e8, e12, e10, e13, e9, e11) refl, e34, e92, e10)
                                                    ]
                                              ]
                                        ]
                                  ]
                            ]
                      ]
                ]
          ]
    ]

quote_behind : (cs rest : List ℕ) (place : ℕ) → quote_from false place (escaped cs ++ 34 ∷ rest) ≡ place + length (escaped cs)
quote_behind [] rest place = omega arith
quote_behind (c ∷ cs) rest place = elim (view c) [
  | inl v ↦ rw (v.0, v.1, v.2) (quote_behind cs rest (place + 1) ∙ omega arith)
  | inr v ↦ rw v.0 (quote_behind cs rest (place + 1 + 1) ∙ omega arith)
]

unescape_escaped : (cs done : List ℕ) → unescape (false, done) (escaped cs) ≡ Ok (done ++ cs)
unescape_escaped [] done = ap Ok (sym (append-nil done))
unescape_escaped (c ∷ cs) done = elim (view c) [
  | inl v ↦ rw (v.0, v.2, v.3) (unescape_escaped cs (done ++ c ∷ []) ∙ ap Ok (append_assoc done (c ∷ []) cs))
  | inr v ↦ rw (v.0, v.1, v.2) (unescape_escaped cs (done ++ c ∷ []) ∙ ap Ok (append_assoc done (c ∷ []) cs))
]

pub text_back : (s : List ℕ) → in_utf8 s ≡ Ok s → text_of (escaped s) ≡ Ok s
unfolding text_of
text_back s e = rw (unescape_escaped s []) e

text_front : (t w rest : List ℕ) → quoted t ≡ Ok (text w, rest) → next_piece (34 ∷ t) ≡ Ok (text w, rest)
unfolding next_piece piece_at bytes_len float_len int_len word_len digits_len unnumbered
text_front t w rest e = rw (not_empty 34 t) e

quoted_is : (w rest : List ℕ) → quote_at (w ++ 34 ∷ rest) ≡ length w → quoted (w ++ 34 ∷ rest) ≡ Ok (text w, rest)
unfolding quoted
quoted_is w rest e =
    let inside : nat_lt (length w) (length (w ++ 34 ∷ rest)) ≡ true = lt-ltb (length w) (length (w ++ 34 ∷ rest)) (omega (arith, length-append w (34 ∷ rest))) in
    let behind_quote : drop (length w + 1) (w ++ 34 ∷ rest) ≡ rest = ap (drop (length w + 1)) (sym (append_assoc w (34 ∷ []) rest)) ∙ drop_seam (w ++ 34 ∷ []) rest (length w + 1) (omega (arith, length-append w (34 ∷ []))) in
    rw (e, inside, take-append_seam w (34 ∷ rest), behind_quote) refl

pub text_piece : (s rest : List ℕ) → next_piece (34 ∷ (escaped s ++ 34 ∷ rest)) ≡ Ok (text (escaped s), rest)
unfolding quote_at
text_piece s rest = text_front (escaped s ++ 34 ∷ rest) (escaped s) rest (quoted_is (escaped s) rest (quote_behind s rest 0 ∙ omega arith))

-- ---- signs and operators
none_either : (b : Bool) → cond {A = Option Binary} b None None ≡ None
none_either true = refl
none_either false = refl

pub sign_40 : (s : List ℕ) → next_piece (40 ∷ s) ≡ Ok (sign 40, s)
unfolding next_piece piece_at bytes_len float_len int_len word_len digits_len unnumbered marked
sign_40 s = rw (not_empty 40 s, none_either (get_or s 0 0 == 61)) refl

pub sign_41 : (s : List ℕ) → next_piece (41 ∷ s) ≡ Ok (sign 41, s)
unfolding next_piece piece_at bytes_len float_len int_len word_len digits_len unnumbered marked
sign_41 s = rw (not_empty 41 s, none_either (get_or s 0 0 == 61)) refl

pub sign_44 : (s : List ℕ) → next_piece (44 ∷ s) ≡ Ok (sign 44, s)
unfolding next_piece piece_at bytes_len float_len int_len word_len digits_len unnumbered marked
sign_44 s = rw (not_empty 44 s, none_either (get_or s 0 0 == 61)) refl

pub sign_91 : (s : List ℕ) → next_piece (91 ∷ s) ≡ Ok (sign 91, s)
unfolding next_piece piece_at bytes_len float_len int_len word_len digits_len unnumbered marked
sign_91 s = rw (not_empty 91 s, none_either (get_or s 0 0 == 61)) refl

pub sign_93 : (s : List ℕ) → next_piece (93 ∷ s) ≡ Ok (sign 93, s)
unfolding next_piece piece_at bytes_len float_len int_len word_len digits_len unnumbered marked
sign_93 s = rw (not_empty 93 s, none_either (get_or s 0 0 == 61)) refl

-- the piece that an operator is
abbrev pub piece_of_operator : Binary → Piece
piece_of_operator two.Or = word (codes "or")
piece_of_operator two.And = word (codes "and")
piece_of_operator b = operator b

pub operator_piece : (b : Binary) (s : List ℕ) → is_operator b ≡ true → next_piece (32 ∷ (binary_name b ++ 32 ∷ s)) ≡ Ok (piece_of_operator b, 32 ∷ s)
unfolding next_piece piece_at bytes_len float_len int_len word_len digits_len unnumbered marked
operator_piece two.Or s e = rw (not_empty 111 (114 ∷ 32 ∷ s)) refl
operator_piece two.And s e = rw (not_empty 97 (110 ∷ 100 ∷ 32 ∷ s)) refl
operator_piece two.Equal s e = rw (not_empty 61 (61 ∷ 32 ∷ s)) refl
operator_piece two.NotEqual s e = rw (not_empty 33 (61 ∷ 32 ∷ s)) refl
operator_piece two.Less s e = rw (not_empty 60 (32 ∷ s)) refl
operator_piece two.AtMost s e = rw (not_empty 60 (61 ∷ 32 ∷ s)) refl
operator_piece two.Greater s e = rw (not_empty 62 (32 ∷ s)) refl
operator_piece two.AtLeast s e = rw (not_empty 62 (61 ∷ 32 ∷ s)) refl
operator_piece two.Add s e = rw (not_empty 43 (32 ∷ s)) refl
operator_piece two.Subtract s e = rw (not_empty 45 (32 ∷ s)) refl
operator_piece two.Multiply s e = rw (not_empty 42 (32 ∷ s)) refl
operator_piece two.Divide s e = rw (not_empty 47 (32 ∷ s)) refl
operator_piece two.HasPrefix s e = absurd (true≢false (sym e))
operator_piece two.HasSuffix s e = absurd (true≢false (sym e))

pub operator_again : (b : Binary) → is_operator b ≡ true → operator_of (piece_of_operator b) ≡ Some b
operator_again two.Or e = refl
operator_again two.And e = refl
operator_again two.Equal e = refl
operator_again two.NotEqual e = refl
operator_again two.Less e = refl
operator_again two.AtMost e = refl
operator_again two.Greater e = refl
operator_again two.AtLeast e = refl
operator_again two.Add e = refl
operator_again two.Subtract e = refl
operator_again two.Multiply e = refl
operator_again two.Divide e = refl
operator_again two.HasPrefix e = absurd (true≢false (sym e))
operator_again two.HasSuffix e = absurd (true≢false (sym e))
