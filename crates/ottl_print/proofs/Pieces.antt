-- Pieces of a text, in front of what ends them.
-- For the law of laws::prints_as_itself.
use Rattle.std.proofs.Common.{◌≡◌, ℕ, suc, ◌+◌, Bool, true, false, cond, ◌&&◌, List, [], ◌∷◌, ◌++◌, length, get_or, take, drop, nat_lt, Ok, refl, sym, ap, ◌∙◌, arith, true≢false, ne_eqb, lt-ltb, append_assoc}
use Rattle.std.proofs.lemmas.Bool.Decides.{nat_tests}
use Rattle.std.proofs.lemmas.List.Sums.{take_while-cons}
use Rattle.std.proofs.Math.Seq.{take-append_seam, drop-append_seam}
use Rattle.std.specs.Prelude.{◌==◌}
use Rattle.std.specs.Char.{is_ascii_digit}
use Rattle.std.specs.Fmt.{sign_text}
use Rattle.std.specs.Float.Numeral.{exponent_text}
use Rattle.ottl_lengths.specs.Lengths.{is_letter, is_of_word, is_hex, front_len, skip_blank, sign_len, digits_len, bytes_len, int_len, exponent_len, float_len, word_len}
use Rattle.ottl_text.specs.Tokens.{word, int, float, unnumbered, piece_at, next_piece}

abbrev pub Stops : (ℕ → Bool) → List ℕ → Type 0
Stops p [] = Unit {0}
Stops p (c ∷ cs) = p c ≡ false

abbrev pub Passes : (ℕ → Bool) → List ℕ → Type 0
Passes p [] = Unit {0}
Passes p (c ∷ cs) = (p c ≡ true) × Passes p cs

-- nothing goes on that was a name or a number
abbrev pub Free : List ℕ → Type 0
Free rest = Stops is_of_word rest

pub run : (p : ℕ → Bool) (xs rest : List ℕ) → Passes p xs → Stops p rest → front_len p (xs ++ rest) ≡ length xs
run p [] [] pass stop = refl
run p [] (c ∷ cs) pass stop = rw (take_while-cons p c cs, stop) refl
run p (x ∷ xs) rest pass stop = rw (take_while-cons p x (xs ++ rest), pass.0) (ap suc (run p xs rest pass.1 stop))

pub not_empty : (c : ℕ) (s : List ℕ) → (length (c ∷ s) == 0) ≡ false
not_empty c s = ne_eqb (length (c ∷ s)) 0 (λ e. omega (arith, e))

pub some_length : (c : ℕ) (s : List ℕ) → nat_lt 0 (length (c ∷ s)) ≡ true
some_length c s = lt-ltb 0 (length (c ∷ s)) (omega arith)

-- bytes that a test tells apart are different
unlike : (p : ℕ → Bool) (c k : ℕ) → p c ≡ true → p k ≡ false → (c == k) ≡ false
unlike p c k is is_not = ne_eqb c k (λ e. true≢false (sym is ∙ ap p e ∙ is_not))

pub differs : (c k : ℕ) → is_of_word k ≡ true → is_of_word c ≡ false → (c == k) ≡ false
differs c k is other = ne_eqb c k (λ e. true≢false (sym is ∙ ap is_of_word (sym e) ∙ other))

digit_of_word : (c : ℕ) → is_ascii_digit c ≡ true → is_of_word c ≡ true
digit_of_word c e = rw e (grind (arith, nat_tests))

pub no_digit : (c : ℕ) → is_of_word c ≡ false → is_ascii_digit c ≡ false
no_digit c e = by_test (is_ascii_digit c) refl
  where
    by_test : (b : Bool) → is_ascii_digit c ≡ b → b ≡ false
    by_test false is = refl
    by_test true is = let found : is_of_word c ≡ true = digit_of_word c is in absurd (true≢false (sym found ∙ e))

pub free_digits : (rest : List ℕ) → Free rest → Stops is_ascii_digit rest
free_digits [] free = tt
free_digits (c ∷ cs) free = no_digit c free

-- what a text begins with that ends a name or a number
pub free_first : (k : ℕ) (rest : List ℕ) → is_of_word k ≡ true → (0 == k) ≡ false → Free rest → (get_or rest 0 0 == k) ≡ false
free_first k [] is above free = above
free_first k (c ∷ cs) is above free = differs c k is free

pub seam : (xs rest : List ℕ) → get_or (xs ++ rest) (length xs) 0 ≡ get_or rest 0 0
seam [] rest = refl
seam (x ∷ xs) rest = seam xs rest

and_false : (a b c : Bool) → b ≡ false → (a && b && c) ≡ false
and_false true b c e = rw e refl
and_false false b c e = refl

-- ---- the piece at the front, by the lengths
word_front : (s w rest : List ℕ) → (length s == 0) ≡ false → bytes_len s ≡ 0 → float_len s ≡ 0 → int_len s ≡ 0 → word_len s ≡ length w → nat_lt 0 (length w) ≡ true
    → take (length w) s ≡ w → drop (length w) s ≡ rest → piece_at s ≡ Ok (word w, rest)
unfolding piece_at unnumbered
word_front s w rest e b f i n some t d = rw (e, b, f, i, n, some, t, d) refl

int_front : (s w rest : List ℕ) → (length s == 0) ≡ false → bytes_len s ≡ 0 → float_len s ≡ 0 → int_len s ≡ length w → nat_lt 0 (length w) ≡ true
    → take (length w) s ≡ w → drop (length w) s ≡ rest → piece_at s ≡ Ok (int w, rest)
unfolding piece_at
int_front s w rest e b f n some t d = rw (e, b, f, n, some, t, d) refl

pub float_front : (s w rest : List ℕ) → (length s == 0) ≡ false → bytes_len s ≡ 0 → float_len s ≡ length w → nat_lt 0 (length w) ≡ true
    → take (length w) s ≡ w → drop (length w) s ≡ rest → piece_at s ≡ Ok (float w, rest)
unfolding piece_at
float_front s w rest e b n some t d = rw (e, b, n, some, t, d) refl

-- ---- names
pub no_bytes : (c : ℕ) (s : List ℕ) → (c == 48) ≡ false → bytes_len (c ∷ s) ≡ 0
unfolding bytes_len
no_bytes c s e = rw e refl

no_sign : (c : ℕ) (s : List ℕ) → (c == 45) ≡ false → (c == 43) ≡ false → sign_len (c ∷ s) ≡ 0
no_sign c s e f = rw (e, f) refl

no_digits : (c : ℕ) (s : List ℕ) → is_ascii_digit c ≡ false → digits_len (c ∷ s) ≡ 0
unfolding digits_len
no_digits c s e = rw (take_while-cons is_ascii_digit c s, e) refl

float_none : (s : List ℕ) (whole : ℕ) → sign_len s + digits_len (drop (sign_len s) s) ≡ whole → (get_or s whole 0 == 46) ≡ false → float_len s ≡ 0
unfolding float_len
float_none s whole e f = rw (e, f) refl

int_none : (s : List ℕ) → digits_len (drop (sign_len s) s) ≡ 0 → int_len s ≡ 0
unfolding int_len
int_none s e = rw e refl

letter_no_digit : (c : ℕ) → is_letter c ≡ true → is_ascii_digit c ≡ false
letter_no_digit c e = grind (arith, nat_tests, e)

letter_of_word : (c : ℕ) → is_letter c ≡ true → is_of_word c ≡ true
letter_of_word c e = rw e refl

letter_blank : (c : ℕ) (s : List ℕ) → is_letter c ≡ true → skip_blank (c ∷ s) ≡ c ∷ s
letter_blank c s e = rw (unlike is_letter c 32 e refl, unlike is_letter c 9 e refl, unlike is_letter c 10 e refl, unlike is_letter c 12 e refl, unlike is_letter c 13 e refl) refl

pick : (b : Bool) (n : ℕ) → b ≡ true → cond b n 0 ≡ n
pick true n e = refl
pick false n e = absurd (true≢false (sym e))

word_long : (c : ℕ) (cs rest : List ℕ) → is_letter c ≡ true → Passes is_of_word cs → Free rest → word_len (c ∷ (cs ++ rest)) ≡ length (c ∷ cs)
unfolding word_len
word_long c cs rest e pass free = pick (is_letter c) (front_len is_of_word (c ∷ (cs ++ rest))) e ∙ run is_of_word (c ∷ cs) rest (letter_of_word c e, pass) free

pub word_piece : (c : ℕ) (cs rest : List ℕ) → is_letter c ≡ true → Passes is_of_word cs → Free rest → next_piece ((c ∷ cs) ++ rest) ≡ Ok (word (c ∷ cs), rest)
unfolding next_piece
word_piece c cs rest e pass free =
    let s = c ∷ (cs ++ rest) in
    let none = letter_no_digit c e in
    let unsigned = no_sign c (cs ++ rest) (unlike is_letter c 45 e refl) (unlike is_letter c 43 e refl) in
    let nothing : digits_len (drop (sign_len s) s) ≡ 0 = ap (λ n. digits_len (drop n s)) unsigned ∙ no_digits c (cs ++ rest) none in
    let start : sign_len s + digits_len (drop (sign_len s) s) ≡ 0 = omega (arith, unsigned, nothing) in
    ap piece_at (letter_blank c (cs ++ rest) e)
    ∙ word_front s (c ∷ cs) rest (not_empty c (cs ++ rest)) (no_bytes c (cs ++ rest) (unlike is_letter c 48 e refl))
    (float_none s 0 start (unlike is_letter c 46 e refl)) (int_none s nothing) (word_long c cs rest e pass free) (some_length c cs) (take-append_seam (c ∷ cs) rest) (drop-append_seam (c ∷ cs) rest)

-- ---- numbers
pub digit_blank : (c : ℕ) (s : List ℕ) → is_ascii_digit c ≡ true → skip_blank (c ∷ s) ≡ c ∷ s
digit_blank c s e = rw (unlike is_ascii_digit c 32 e refl, unlike is_ascii_digit c 9 e refl, unlike is_ascii_digit c 10 e refl, unlike is_ascii_digit c 12 e refl, unlike is_ascii_digit c 13 e refl) refl

second : (ds rest : List ℕ) → Passes is_ascii_digit ds → (get_or rest 0 0 == 120) ≡ false → (get_or (ds ++ rest) 0 0 == 120) ≡ false
second [] rest pass e = e
second (d ∷ ds) rest pass e = unlike is_ascii_digit d 120 pass.0 refl

-- no digits behind `0x`, where digits go on with no `x`
pub number_no_bytes : (d : ℕ) (ds rest : List ℕ) → Passes is_ascii_digit ds → (get_or rest 0 0 == 120) ≡ false → bytes_len (d ∷ (ds ++ rest)) ≡ 0
unfolding bytes_len
number_no_bytes d ds rest pass e =
    rw (and_false (d == 48) (get_or (ds ++ rest) 0 0 == 120) (nat_lt 0 (front_len is_hex (drop 2 (d ∷ (ds ++ rest))))) (second ds rest pass e)) refl

digits_sign : (d : ℕ) (s : List ℕ) → is_ascii_digit d ≡ true → sign_len (d ∷ s) ≡ 0
digits_sign d s e = no_sign d s (unlike is_ascii_digit d 45 e refl) (unlike is_ascii_digit d 43 e refl)

pub digits_long : (ds rest : List ℕ) → Passes is_ascii_digit ds → Stops is_ascii_digit rest → digits_len (ds ++ rest) ≡ length ds
unfolding digits_len
digits_long ds rest pass stop = run is_ascii_digit ds rest pass stop

-- how far a sign and digits reach
pub signed_long : (negative : Bool) (d : ℕ) (ds rest : List ℕ) → Passes is_ascii_digit (d ∷ ds) → Stops is_ascii_digit rest
    → (sign_len (sign_text negative ++ (d ∷ (ds ++ rest))) ≡ length (sign_text negative)) × (digits_len (drop (sign_len (sign_text negative ++ (d ∷ (ds ++ rest)))) (sign_text negative ++ (d ∷ (ds ++ rest)))) ≡ length (d ∷ ds))
signed_long true d ds rest pass stop = (refl, digits_long (d ∷ ds) rest pass stop)
signed_long false d ds rest pass stop =
    let none = digits_sign d (ds ++ rest) pass.0 in (none, ap (λ n. digits_len (drop n (d ∷ (ds ++ rest)))) none ∙ digits_long (d ∷ ds) rest pass stop)

int_long : (negative : Bool) (d : ℕ) (ds rest : List ℕ) → Passes is_ascii_digit (d ∷ ds) → Stops is_ascii_digit rest → int_len (sign_text negative ++ (d ∷ (ds ++ rest))) ≡ length (sign_text negative ++ (d ∷ ds))
unfolding int_len
int_long negative d ds rest pass stop =
    let h = signed_long negative d ds rest pass stop in rw (h.1, h.0, some_length d ds) (sum negative)
  where
    sum : (negative : Bool) → length (sign_text negative) + length (d ∷ ds) ≡ length (sign_text negative ++ (d ∷ ds))
    sum true = omega arith
    sum false = omega arith

pub int_piece : (negative : Bool) (d : ℕ) (ds rest : List ℕ) → Passes is_ascii_digit (d ∷ ds) → Free rest → next_piece (sign_text negative ++ ((d ∷ ds) ++ rest)) ≡ Ok (int (sign_text negative ++ (d ∷ ds)), rest)
unfolding next_piece
int_piece false d ds rest pass free =
    let s = d ∷ (ds ++ rest) in
    let stop = free_digits rest free in
    let h = signed_long false d ds rest pass stop in
    let whole : sign_len s + digits_len (drop (sign_len s) s) ≡ length (d ∷ ds) = omega (arith, h.0, h.1) in
    let no_point : (get_or s (length (d ∷ ds)) 0 == 46) ≡ false = ap (λ c. c == 46) (seam (d ∷ ds) rest) ∙ free_first 46 rest refl refl free in
    ap piece_at (digit_blank d (ds ++ rest) pass.0)
    ∙ int_front s (d ∷ ds) rest (not_empty d (ds ++ rest)) (number_no_bytes d ds rest pass.1 (free_first 120 rest refl refl free)) (float_none s (length (d ∷ ds)) whole no_point)
    (int_long false d ds rest pass stop) (some_length d ds) (take-append_seam (d ∷ ds) rest) (drop-append_seam (d ∷ ds) rest)
int_piece true d ds rest pass free =
    let s = 45 ∷ (d ∷ (ds ++ rest)) in
    let stop = free_digits rest free in
    let h = signed_long true d ds rest pass stop in
    let whole : sign_len s + digits_len (drop (sign_len s) s) ≡ length (45 ∷ d ∷ ds) = omega (arith, h.0, h.1) in
    let no_point : (get_or s (length (45 ∷ d ∷ ds)) 0 == 46) ≡ false = ap (λ c. c == 46) (seam (45 ∷ d ∷ ds) rest) ∙ free_first 46 rest refl refl free in
    int_front s (45 ∷ d ∷ ds) rest (not_empty 45 (d ∷ (ds ++ rest))) (no_bytes 45 (d ∷ (ds ++ rest)) refl) (float_none s (length (45 ∷ d ∷ ds)) whole no_point)
    (int_long true d ds rest pass stop) (some_length 45 (d ∷ ds)) (take-append_seam (45 ∷ d ∷ ds) rest) (drop-append_seam (45 ∷ d ∷ ds) rest)

-- ---- floats
exponent_none : (rest : List ℕ) → Free rest → exponent_len rest ≡ 0
unfolding exponent_len
exponent_none rest free = rw (free_first 101 rest refl refl free, free_first 69 rest refl refl free) refl

pub exponent_long : (negative : Bool) (marks rest : List ℕ) → Passes is_ascii_digit marks → Free rest → exponent_len (exponent_text negative marks ++ rest) ≡ length (exponent_text negative marks)
unfolding exponent_len
exponent_long negative [] rest pass free = exponent_none rest free
exponent_long negative (d ∷ ds) rest pass free =
    let inside : int_len ((sign_text negative ++ (d ∷ ds)) ++ rest) ≡ length (sign_text negative ++ (d ∷ ds)) =
    ap int_len (append_assoc (sign_text negative) (d ∷ ds) rest) ∙ int_long negative d ds rest pass (free_digits rest free) in
    rw (inside, nonempty negative) (omega arith)
  where
    nonempty : (negative : Bool) → nat_lt 0 (length (sign_text negative ++ (d ∷ ds))) ≡ true
    nonempty true = some_length 45 (d ∷ ds)
    nonempty false = some_length d ds

pub exponent_stops : (negative : Bool) (marks rest : List ℕ) → Free rest → Stops is_ascii_digit (exponent_text negative marks ++ rest)
exponent_stops negative [] rest free = free_digits rest free
exponent_stops negative (d ∷ ds) rest free = refl

-- by the places of its parts
pub float_long : (s : List ℕ) (whole digits tail : ℕ) → sign_len s + digits_len (drop (sign_len s) s) ≡ whole → (get_or s whole 0 == 46) ≡ true → digits_len (drop (whole + 1) s) ≡ digits → nat_lt 0 digits ≡ true
    → exponent_len (drop (whole + 1 + digits) s) ≡ tail → float_len s ≡ whole + 1 + digits + tail
unfolding float_len
float_long s whole digits tail e point d some x = rw (e, point, d, some, x) refl

pub drop_seam : (xs rest : List ℕ) (n : ℕ) → n ≡ length xs → drop n (xs ++ rest) ≡ rest
drop_seam xs rest n e = rw e (drop-append_seam xs rest)
