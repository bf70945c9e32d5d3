-- A line says an instruction exactly where it is its words.
-- For the law `lines_are_their_words`.
use Rattle.std.proofs.Common.{◌≡◌, ℕ, suc, ◌+◌, ◌<◌, ◌≤◌, ◌^◌, ◌==◌, ◌&&◌, nat_lt, nat_le, Bool, true, false, not, cond, List, [], ◌∷◌, ◌++◌, length, take, drop, Option, None, Some, option_map, option_and_then, codes, refl, sym, ap, ◌∙◌, true≢false, bytes_eq, arith}
use Rattle.std.proofs.lemmas.Bool.Decides.{nat_tests}
use Rattle.std.proofs.lemmas.Slice.Eq.{bytes_eq-Decides}
use Rattle.std.specs.Char.{is_ascii_digit}
use Rattle.std.specs.List.{list_all, position_or_len}
use Rattle.std.specs.Str.Parse.{digits_value}
use Rattle.tsc_script.specs.Instructions.{Instruction, receive, tick, close, is_close, split_word, decimal_number, tick_of, receive_of, words_of, instruction_of}
use Rattle.tsc_script.specs.LineLaws.{Says, IsReceive, IsTick, LinesAreTheirWords}

abbrev is_space : ℕ → Bool
is_space byte = byte == 32

-- ---- the first word, and the rest, by the text's bytes one after the other

abbrev Word : Type 0
Word = List ℕ × List ℕ

abbrev with_byte : ℕ → Option Word → Option Word
with_byte x o = option_map (λ (p : Word). (x ∷ p.0, p.1)) o

abbrev split : List ℕ → Option Word
split [] = None
split (x ∷ xs) = cond (is_space x) (Some ([], xs)) (with_byte x (split xs))

abbrev cut_at : List ℕ → ℕ → Option Word
cut_at text n = option_map (λ at. (take at text, drop (at + 1) text)) (cond (nat_lt n (length text)) (Some n) None)

cut-later : (b : Bool) (x : ℕ) (xs : List ℕ) (n : ℕ) → nat_lt n (length xs) ≡ b → cut_at (x ∷ xs) (suc n) ≡ with_byte x (cut_at xs n)
cut-later true x xs n e =
    let more : nat_lt (suc n) (length (x ∷ xs)) ≡ true = grind (arith, nat_tests) in
    let later : suc n + 1 ≡ suc (n + 1) = omega arith in
    rw (more, e) (ap (λ (k : ℕ). Some (x ∷ take n xs, drop k (x ∷ xs))) later)
cut-later false x xs n e =
    let more : nat_lt (suc n) (length (x ∷ xs)) ≡ false = grind (arith, nat_tests) in
    rw (more, e)

one-more : (n : ℕ) → 1 + n ≡ suc n
one-more n = omega arith

cut-here : (x : ℕ) (xs : List ℕ) → cut_at (x ∷ xs) 0 ≡ Some ([], xs)
cut-here x xs = let within : nat_lt 0 (length (x ∷ xs)) ≡ true = grind (arith, nat_tests) in rw within

split-is : (text : List ℕ) → split_word text ≡ split text
split-is [] = refl
split-is (x ∷ xs) = (elim (is_space x) as (λ b. cut_at (x ∷ xs) (cond (not b) (1 + position_or_len is_space xs) 0) ≡ cond b (Some ([], xs)) (with_byte x (split xs))) [
  | true ↦ cut-here x xs
  | false ↦ ap (cut_at (x ∷ xs)) (one-more (position_or_len is_space xs)) ∙ cut-later (nat_lt (position_or_len is_space xs) (length xs)) x xs (position_or_len is_space xs) refl ∙ ap (with_byte x) (split-is xs)
])

-- no byte is a space
abbrev NoSpace : List ℕ → Type 0
NoSpace [] = Unit {0}
NoSpace (x ∷ xs) = (is_space x ≡ false) × NoSpace xs

-- the text is a word without a space, a space and the rest
abbrev IsSplit : List ℕ → Word → Type 0
IsSplit text p = (text ≡ p.0 ++ 32 ∷ p.1) × NoSpace p.0

byte-is : (x : ℕ) → is_space x ≡ true → x ≡ 32
byte-is x h = grind (arith, nat_tests)

some-is : {A : Type 0} (a b : A) → Some a ≡ Some b → a ≡ b
some-is a b h = cc h

later-split : (x : ℕ) (xs : List ℕ) (o : Option Word) (p : Word) → is_space x ≡ false → ((q : Word) → o ≡ Some q → IsSplit xs q) → with_byte x o ≡ Some p → IsSplit (x ∷ xs) p
later-split x xs None p other rest h = cc h
later-split x xs (Some q) p other rest h =
    let whole = rest q refl in
    let same : (x ∷ q.0, q.1) ≡ p = some-is _ _ h in
    rw (sym same) (ap (λ (ys : List ℕ). x ∷ ys) whole.0, (other, whole.1))

here-split : (b : Bool) (x : ℕ) (xs : List ℕ) (p : Word) → is_space x ≡ b → ((q : Word) → split xs ≡ Some q → IsSplit xs q) → cond b (Some ([], xs)) (with_byte x (split xs)) ≡ Some p → IsSplit (x ∷ xs) p
here-split true x xs p e rest h =
    let same : ([], xs) ≡ p = some-is _ _ h in
    rw (sym same) (ap (λ (y : ℕ). y ∷ xs) (byte-is x e), tt)
here-split false x xs p e rest h = later-split x xs (split xs) p e rest h

split-parts : (text : List ℕ) (p : Word) → split text ≡ Some p → IsSplit text p
split-parts [] p h = cc h
split-parts (x ∷ xs) p h = here-split (is_space x) x xs p refl (split-parts xs) h

split-back : (a rest : List ℕ) → NoSpace a → split (a ++ 32 ∷ rest) ≡ Some (a, rest)
split-back [] rest h = refl
split-back (x ∷ a) rest h = rw (h.0, split-back a rest h.1)

-- so is what the definition splits
words-of : (text : List ℕ) (p : Word) → split_word text ≡ Some p → IsSplit text p
words-of text p h = split-parts text p (sym (split-is text) ∙ h)

pub words-back : (a rest : List ℕ) → NoSpace a → split_word (a ++ 32 ∷ rest) ≡ Some (a, rest)
words-back a rest h = split-is (a ++ 32 ∷ rest) ∙ split-back a rest h

-- ---- numbers

both : (a b : Bool) → (a && b) ≡ true → (a ≡ true) × (b ≡ true)
both true b h = (refl, h)
both false b h = cc h

digit-no-space : (x : ℕ) → is_ascii_digit x ≡ true → is_space x ≡ false
digit-no-space x h = grind (arith, nat_tests)

digits-no-space : (a : List ℕ) → list_all is_ascii_digit a ≡ true → NoSpace a
digits-no-space [] h = tt
digits-no-space (x ∷ a) h = let parts = both (is_ascii_digit x) (list_all is_ascii_digit a) h in (digit-no-space x parts.0, digits-no-space a parts.1)

is-number : (b : Bool) (n m : ℕ) → cond b (Some n) None ≡ Some m → (b ≡ true) × (n ≡ m)
is-number true n m h = (refl, some-is n m h)
is-number false n m h = cc h

says-of : (text : List ℕ) (n : ℕ) → decimal_number text ≡ Some n → Says text n
says-of text n h =
    let some = nat_lt 0 (length text) in
    let few = nat_le (length text) 20 in
    let digits = list_all is_ascii_digit text in
    let fits = nat_lt (digits_value 10 text) (2 ^ 64) in
    let is = is-number (some && few && digits && fits) (digits_value 10 text) n h in
    let one = both (some && few && digits) fits is.0 in
    let two = both (some && few) digits one.0 in
    let three = both some few two.0 in
    record {
      some = grind (arith, nat_tests, three.0);
      few = grind (arith, nat_tests, three.1);
      digits = two.1;
      value = is.1;
      fits = grind (arith, nat_tests, one.1, is.1);
    }

number-back : (text : List ℕ) (n : ℕ) → Says text n → decimal_number text ≡ Some n
number-back text n h =
    let some : nat_lt 0 (length text) ≡ true = grind (arith, nat_tests, h.some) in
    let few : nat_le (length text) 20 ≡ true = grind (arith, nat_tests, h.few) in
    let fits : nat_lt n (2 ^ 64) ≡ true = grind (arith, nat_tests, h.fits) in
    rw (some, few, h.digits, h.value, fits)

-- ---- what an answer came from

and-then-some : {A B : Type 0} (f : A → Option B) (o : Option A) (b : B) → option_and_then f o ≡ Some b → (a : A) × (o ≡ Some a) × (f a ≡ Some b)
and-then-some f None b h = cc h
and-then-some f (Some a) b h = (a, refl, h)

map-some : {A B : Type 0} (f : A → B) (o : Option A) (b : B) → option_map f o ≡ Some b → (a : A) × (o ≡ Some a) × (f a ≡ b)
map-some f None b h = cc h
map-some f (Some a) b h = (a, refl, some-is (f a) b h)

-- ---- instructions

abbrev connection_in : Instruction → ℕ
connection_in (receive connection moment json) = connection
connection_in (tick moment) = 0
connection_in close = 0

abbrev moment_in : Instruction → ℕ
moment_in (receive connection moment json) = moment
moment_in (tick moment) = moment
moment_in close = 0

abbrev json_in : Instruction → List ℕ
json_in (receive connection moment json) = json
json_in (tick moment) = []
json_in close = []

abbrev is_tick : Instruction → Bool
is_tick (receive connection moment json) = false
is_tick (tick moment) = true
is_tick close = false

short-line : (line : List ℕ) → length line ≤ 4194368 → instruction_of line ≡ cond (bytes_eq line (codes "close")) (Some close) (words_of line)
unfolding instruction_of
short-line line h = let short : nat_lt 4194368 (length line) ≡ false = grind (arith, nat_tests) in rw short

long-line : (line : List ℕ) → 4194368 < length line → instruction_of line ≡ None
unfolding instruction_of
long-line line h = let long : nat_lt 4194368 (length line) ≡ true = grind (arith, nat_tests) in rw long

-- an instruction other than `close` is that of the words
not-close : (b : Bool) (o : Option Instruction) (i : Instruction) → is_close i ≡ false → cond b (Some close) o ≡ Some i → o ≡ Some i
not-close true o i other h = let same : close ≡ i = some-is close i h in absurd (true≢false (ap is_close same ∙ other))
not-close false o i other h = h

abbrev by_word : Word → Option Instruction
by_word p = cond (bytes_eq p.0 (codes "tick")) (tick_of p.1) (cond (bytes_eq p.0 (codes "recv")) (receive_of p.1) None)

abbrev with_numbers : Word → Word → Option Instruction
with_numbers first second = option_and_then (λ connection. option_map (λ moment. receive connection moment second.1) (decimal_number second.0)) (decimal_number first.0)

abbrev received : Word → Option Instruction
received first = option_and_then (with_numbers first) (split_word first.1)

-- what a request's words are
record Request (text : List ℕ) (i : Instruction) : Type 0 where
  first : Word
  second : Word
  connection : ℕ
  moment : ℕ
  front : split_word text ≡ Some first
  behind : split_word first.1 ≡ Some second
  of_connection : decimal_number first.0 ≡ Some connection
  of_moment : decimal_number second.0 ≡ Some moment
  is : receive connection moment second.1 ≡ i

request-of : (text : List ℕ) (i : Instruction) → receive_of text ≡ Some i → Request text i
request-of text i h =
    let one = and-then-some received (split_word text) i h in
    let two = and-then-some (with_numbers one.0) (split_word one.0.1) i one.2 in
    let three = and-then-some (λ connection. option_map (λ moment. receive connection moment two.0.1) (decimal_number two.0.0)) (decimal_number one.0.0) i two.2 in
    let four = map-some (λ moment. receive three.0 moment two.0.1) (decimal_number two.0.0) i three.2 in
    record { first = one.0; second = two.0; connection = three.0; moment = four.0; front = one.1; behind = two.1; of_connection = three.1; of_moment = four.1; is = four.2 }

ticks-at : (text : List ℕ) (i : Instruction) → tick_of text ≡ Some i → is_tick i ≡ true
ticks-at text i h = let it = map-some tick (decimal_number text) i h in ap is_tick (sym it.2)

-- which word it was
receive-word : (a b : Bool) (text : List ℕ) (i : Instruction) → is_tick i ≡ false → cond a (tick_of text) (cond b (receive_of text) None) ≡ Some i → (b ≡ true) × (receive_of text ≡ Some i)
receive-word true b text i other h = absurd (true≢false (sym (ticks-at text i h) ∙ other))
receive-word false true text i other h = (refl, h)
receive-word false false text i other h = cc h

tick-word : (a b : Bool) (text : List ℕ) (i : Instruction) → is_tick i ≡ true → cond a (tick_of text) (cond b (receive_of text) None) ≡ Some i → (a ≡ true) × (tick_of text ≡ Some i)
tick-word true b text i ticks h = (refl, h)
tick-word false true text i ticks h = let r = request-of text i h in absurd (true≢false (sym ticks ∙ ap is_tick (sym r.is)))
tick-word false false text i ticks h = cc h

no-word : (a b : Bool) (text : List ℕ) → cond a (tick_of text) (cond b (receive_of text) None) ≡ Some close → ⊥
no-word true b text h = true≢false (sym (ticks-at text close h))
no-word false true text h = let r = request-of text close h in true≢false (sym (ap is_close r.is))
no-word false false text h = cc h

same-text : (a b : List ℕ) → bytes_eq a b ≡ true → a ≡ b
same-text a b h = (bytes_eq-Decides a b).0 h

-- ---- a request

receive-of : (line json : List ℕ) (c m : ℕ) → length line ≤ 4194368 → instruction_of line ≡ Some (receive c m json) → IsReceive line c m json
receive-of line json c m short h =
    let i = receive c m json in
    let words = not-close (bytes_eq line (codes "close")) (words_of line) i refl (sym (short-line line short) ∙ h) in
    let p = and-then-some by_word (split_word line) i words in
    let word = receive-word (bytes_eq p.0.0 (codes "tick")) (bytes_eq p.0.0 (codes "recv")) p.0.1 i refl p.2 in
    let r = request-of p.0.1 i word.1 in
    let named : p.0.0 ≡ codes "recv" = same-text p.0.0 (codes "recv") word.0 in
    let text : line ≡ p.0.0 ++ 32 ∷ p.0.1 = (words-of line p.0 p.1).0 in
    let behind : p.0.1 ≡ r.first.0 ++ 32 ∷ r.first.1 = (words-of p.0.1 r.first r.front).0 in
    let last : r.first.1 ≡ r.second.0 ++ 32 ∷ json = (words-of r.first.1 r.second r.behind).0 ∙ ap (λ (ys : List ℕ). r.second.0 ++ 32 ∷ ys) (ap json_in r.is) in (
      r.first.0,
      r.second.0,
      says-of r.first.0 c (r.of_connection ∙ ap Some (ap connection_in r.is)),
      says-of r.second.0 m (r.of_moment ∙ ap Some (ap moment_in r.is)),
      text ∙ ap (λ (ys : List ℕ). ys ++ 32 ∷ p.0.1) named ∙ ap (λ (ys : List ℕ). codes "recv " ++ ys) (behind ∙ ap (λ (ys : List ℕ). r.first.0 ++ 32 ∷ ys) last),
    )

first-differs : (x : ℕ) (rest : List ℕ) → x ∷ rest ≡ codes "close" → (x == 99) ≡ false → ⊥
first-differs x rest same other = let head : x ≡ 99 = cc same in grind (arith, nat_tests)

other-line : (line rest : List ℕ) (x : ℕ) (b : Bool) → bytes_eq line (codes "close") ≡ b → line ≡ x ∷ rest → (x == 99) ≡ false → b ≡ false
other-line line rest x true e is other = absurd (first-differs x rest (sym is ∙ same-text line (codes "close") e) other)
other-line line rest x false e is other = refl

-- no `close`, so the words say it
by-words : (line rest : List ℕ) (x : ℕ) (i : Instruction) → length line ≤ 4194368 → line ≡ x ∷ rest → (x == 99) ≡ false → words_of line ≡ Some i → instruction_of line ≡ Some i
by-words line rest x i short is other words =
    short-line line short ∙ ap (λ (b : Bool). cond b (Some close) (words_of line)) (other-line line rest x (bytes_eq line (codes "close")) refl is other) ∙ words

receive-back : (line json : List ℕ) (c m : ℕ) → length line ≤ 4194368 → IsReceive line c m json → instruction_of line ≡ Some (receive c m json)
receive-back line json c m short h =
    let a = h.0 in
    let b = h.1 in
    let front : split_word line ≡ Some (codes "recv", a ++ 32 ∷ (b ++ 32 ∷ json)) = ap split_word h.4 ∙ words-back (codes "recv") (a ++ 32 ∷ (b ++ 32 ∷ json)) (refl, (refl, (refl, (refl, tt)))) in
    let second : split_word (a ++ 32 ∷ (b ++ 32 ∷ json)) ≡ Some (a, b ++ 32 ∷ json) = words-back a (b ++ 32 ∷ json) (digits-no-space a h.2.digits) in
    let third : split_word (b ++ 32 ∷ json) ≡ Some (b, json) = words-back b json (digits-no-space b h.3.digits) in
    let words : words_of line ≡ Some (receive c m json)
    = ap (option_and_then by_word) front ∙ ap (option_and_then received) second ∙ ap (option_and_then (with_numbers (a, b ++ 32 ∷ json))) third ∙ rw (number-back a c h.2, number-back b m h.3) in
    by-words line (codes "ecv " ++ (a ++ 32 ∷ (b ++ 32 ∷ json))) 114 (receive c m json) short h.4 refl words

-- ---- a tick

tick-of : (line : List ℕ) (m : ℕ) → length line ≤ 4194368 → instruction_of line ≡ Some (tick m) → IsTick line m
tick-of line m short h =
    let words = not-close (bytes_eq line (codes "close")) (words_of line) (tick m) refl (sym (short-line line short) ∙ h) in
    let p = and-then-some by_word (split_word line) (tick m) words in
    let word = tick-word (bytes_eq p.0.0 (codes "tick")) (bytes_eq p.0.0 (codes "recv")) p.0.1 (tick m) refl p.2 in
    let moment = map-some tick (decimal_number p.0.1) (tick m) word.1 in
    let named : p.0.0 ≡ codes "tick" = same-text p.0.0 (codes "tick") word.0 in
    (p.0.1, says-of p.0.1 m (moment.1 ∙ ap Some (ap moment_in moment.2)), (words-of line p.0 p.1).0 ∙ ap (λ (ys : List ℕ). ys ++ 32 ∷ p.0.1) named)

tick-back : (line : List ℕ) (m : ℕ) → length line ≤ 4194368 → IsTick line m → instruction_of line ≡ Some (tick m)
tick-back line m short h =
    let front : split_word line ≡ Some (codes "tick", h.0) = ap split_word h.2 ∙ words-back (codes "tick") h.0 (refl, (refl, (refl, (refl, tt)))) in
    let words : words_of line ≡ Some (tick m) = ap (option_and_then by_word) front ∙ rw (number-back h.0 m h.1) in
    by-words line (codes "ick " ++ h.0) 116 (tick m) short h.2 refl words

-- ---- a close

close-at : (b : Bool) (line : List ℕ) → bytes_eq line (codes "close") ≡ b → cond b (Some close) (words_of line) ≡ Some close → line ≡ codes "close"
close-at true line e h = same-text line (codes "close") e
close-at false line e h =
    let p = and-then-some by_word (split_word line) close h in
    absurd (no-word (bytes_eq p.0.0 (codes "tick")) (bytes_eq p.0.0 (codes "recv")) p.0.1 p.2)

pub their_words : LinesAreTheirWords
their_words = record {
  receives = λ line json c m short. (receive-of line json c m short, receive-back line json c m short);
  ticks = λ line m short. (tick-of line m short, tick-back line m short);
  closes = λ line short. (λ h. close-at (bytes_eq line (codes "close")) line refl (sym (short-line line short) ∙ h), λ is. rw is (short-line (codes "close") (omega arith)));
  too_long = long-line;
}
