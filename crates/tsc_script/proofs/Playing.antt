-- Laws of what a script says.
-- For the contracts of `play_last` and `play_script`.
use Rattle.std.proofs.Common.{◌≡◌, ◌≢◌, ℕ, ◌+◌, ◌<◌, ◌≤◌, Bool, List, [], ◌∷◌, ◌++◌, None, Some, Option, Ok, Err, Result, length, refl, sym, ap, ◌∙◌, append_assoc, arith, cond, length-append, true, false}
use Rattle.std.specs.Prelude.{nat_lt, ◌==◌}
use Rattle.tsc_script.specs.Causes.{line_feeds}
use Rattle.tsc_script.specs.Lines.{HasNoLineFeed, lines_of, onto_first}
use Rattle.tsc_script.specs.Instructions.{Instruction, receive, tick, close, instruction_of}
use Rattle.tsc_script.specs.Script.{with_first, after_line, instructions_from, instructions_of, with_all_first}
use Rattle.tsc_script.specs.declared.limits.TheConstants.{MAX_LINE_BYTES}

-- a byte that is no line feed goes onto the first line
onto : (x : ℕ) (xs : List ℕ) → x ≢ 10 → lines_of (x ∷ xs) ≡ onto_first x (lines_of xs)
onto x xs p = let e : (x == 10) ≡ false = grind arith in rw e refl

-- a line that ended is the first one
pub lines_of-ended : (line rest : List ℕ) → HasNoLineFeed line → lines_of (line ++ 10 ∷ rest) ≡ line ∷ lines_of rest
lines_of-ended [] rest p = refl
lines_of-ended (x ∷ xs) rest p = onto x (xs ++ 10 ∷ rest) p.0 ∙ ap (onto_first x) (lines_of-ended xs rest p.1)

onto_begins : (x : ℕ) (lines : List (List ℕ)) → (more : List ℕ) × (others : List (List ℕ)) × (onto_first x lines ≡ (x ∷ more) ∷ others)
onto_begins x [] = ([], [], refl)
onto_begins x (l ∷ ls) = (l, ls, refl)

-- bytes with no line feed begin the first line
pub lines_of-begun : (x : ℕ) (xs rest : List ℕ) → HasNoLineFeed (x ∷ xs) → (more : List ℕ) × (lines : List (List ℕ)) × (lines_of ((x ∷ xs) ++ rest) ≡ ((x ∷ xs) ++ more) ∷ lines)
lines_of-begun x [] rest p =
    let h = onto_begins x (lines_of rest) in
    (h.0, h.1, onto x rest p.0 ∙ h.2)
lines_of-begun x (y ∷ ys) rest p =
    let h = lines_of-begun y ys rest p.1 in
    (h.0, h.1, onto x ((y ∷ ys) ++ rest) p.0 ∙ ap (onto_first x) h.2)

one : (x : ℕ) (xs : List ℕ) → HasNoLineFeed (x ∷ xs) → lines_of (x ∷ xs) ≡ (x ∷ xs) ∷ []
one x [] p = onto x [] p.0
one x (y ∷ ys) p = onto x (y ∷ ys) p.0 ∙ ap (onto_first x) (one y ys p.1)

-- of the bytes that were read the first say what was played, one line each, and the others are left
pub record Follows (read left : List ℕ) (number : ℕ) (done : List Instruction) : Type 0 where
  pub used : List ℕ
  pub counted : number ≡ 1 + length done
  pub feeds : number ≡ 1 + line_feeds used
  pub split : read ≡ used ++ left
  pub rest : (more : List ℕ) → instructions_of (used ++ more) ≡ with_all_first done (instructions_from number (lines_of more))

-- nothing was played
pub Follows-none : Follows [] [] 1 []
Follows-none = record { used = []; counted = refl; feeds = refl; split = refl; rest = λ more. refl }

-- more was read
pub Follows-more : (read left : List ℕ) (n : ℕ) (done : List Instruction) (more new : List ℕ) → Follows read left n done → left ++ more ≡ new → Follows (read ++ more) new n done
Follows-more read left n done more new f e = record {
  used = f.used;
  counted = f.counted;
  feeds = f.feeds;
  split = ap (λ (l : List ℕ). l ++ more) f.split ∙ append_assoc f.used left more ∙ ap (λ (l : List ℕ). f.used ++ l) e;
  rest = f.rest;
}

pub count-append : (xs ys : List ℕ) → line_feeds (xs ++ ys) ≡ line_feeds xs + line_feeds ys
count-append [] ys = omega arith
count-append (x ∷ xs) ys = omega (arith, count-append xs ys)

pub no-feeds : (xs : List ℕ) → HasNoLineFeed xs → line_feeds xs ≡ 0
no-feeds [] h = refl
no-feeds (x ∷ xs) h = let e : (x == 10) ≡ false = grind (arith, h.0) in rw e (omega (arith, no-feeds xs h.1))

pub feeds-length : (xs : List ℕ) → line_feeds xs ≤ length xs
feeds-length [] = omega arith
feeds-length (x ∷ xs) =
    let one : cond (x == 10) 1 0 ≤ 1 = elim (x == 10) as (λ (b : Bool). cond b 1 0 ≤ 1) [ true ↦ omega arith | false ↦ omega arith ] in
    omega (arith, one, feeds-length xs)

with_all_first-push : (done : List Instruction) (x : Instruction) (r : Result (List Instruction) ℕ) → with_all_first (done ++ x ∷ []) r ≡ with_all_first done (with_first x r)
with_all_first-push [] x r = refl
with_all_first-push (y ∷ ys) x r = ap (with_first y) (with_all_first-push ys x r)

pub with_all_first-ok : (done more : List Instruction) → with_all_first done (Ok more) ≡ Ok (done ++ more)
with_all_first-ok [] more = refl
with_all_first-ok (y ∷ ys) more = ap (with_first y) (with_all_first-ok ys more)

pub with_all_first-err : (done : List Instruction) (n : ℕ) → with_all_first done (Err n) ≡ Err n
with_all_first-err [] n = refl
with_all_first-err (y ∷ ys) n = ap (with_first y) (with_all_first-err ys n)

after_line-goes_on : (n : ℕ) (x : Instruction) (lines : List (List ℕ)) (rest : Result (List Instruction) ℕ) → x ≢ close → after_line n (Some x) lines rest ≡ with_first x rest
after_line-goes_on n (receive a b c) lines rest p = refl
after_line-goes_on n (tick a) lines rest p = refl
after_line-goes_on n close lines rest p = absurd (p refl)

after_line-closes : (n : ℕ) (lines : List (List ℕ)) (rest : Result (List Instruction) ℕ) → lines ≢ [] → after_line n (Some close) lines rest ≡ Err (n + 1)
after_line-closes n [] rest p = absurd (p refl)
after_line-closes n (l ∷ ls) rest p = refl

onto_first-some : (x : ℕ) (lines : List (List ℕ)) → onto_first x lines ≢ []
onto_first-some x [] = λ e. cc
onto_first-some x (l ∷ ls) = λ e. cc

-- text has a line
some_line : (text : List ℕ) → text ≢ [] → lines_of text ≢ []
some_line [] p = absurd (p refl)
some_line (x ∷ xs) p = elim (x == 10) as (λ b. (cond b ([] ∷ lines_of xs) (onto_first x (lines_of xs))) ≢ []) [ true ↦ (λ e. cc) | false ↦ onto_first-some x (lines_of xs) ]

-- a further line
pub Follows-line : (read left : List ℕ) (n : ℕ) (done : List Instruction) (line : List ℕ) (x : Instruction) → Follows read (line ++ 10 ∷ left) n done
    → HasNoLineFeed line → instruction_of line ≡ Some x → x ≢ close → Follows read left (n + 1) (done ++ x ∷ [])
Follows-line read left n done line x f p e ne = record {
  used = f.used ++ (line ++ 10 ∷ []);
  counted = omega (arith, f.counted, length-append done (x ∷ []));
  feeds = let one : line_feeds (10 ∷ []) ≡ 1 = refl in
      omega (arith, f.feeds, count-append f.used (line ++ 10 ∷ []), count-append line (10 ∷ []), no-feeds line p, one);
  split = f.split ∙ ap (λ (l : List ℕ). f.used ++ l) (sym (append_assoc line (10 ∷ []) left)) ∙ sym (append_assoc f.used (line ++ 10 ∷ []) left);
  rest = λ more.
      ap instructions_of (append_assoc f.used (line ++ 10 ∷ []) more ∙ ap (λ l. f.used ++ l) (append_assoc line (10 ∷ []) more))
      ∙ f.rest (line ++ 10 ∷ more)
      ∙ ap (λ ls. with_all_first done (instructions_from n ls)) (lines_of-ended line more p)
      ∙ ap (λ i. with_all_first done (after_line n i (lines_of more) (instructions_from (n + 1) (lines_of more)))) e
      ∙ ap (with_all_first done) (after_line-goes_on n x (lines_of more) (instructions_from (n + 1) (lines_of more)) ne)
      ∙ sym (with_all_first-push done x (instructions_from (n + 1) (lines_of more)));
}

-- a refusal among the lines that are left is one of the script
pub Follows-refused : (read left : List ℕ) (n m : ℕ) (done : List Instruction) (more : List ℕ) → Follows read left n done
    → instructions_from n (lines_of (left ++ more)) ≡ Err m → instructions_of (read ++ more) ≡ Err m
Follows-refused read left n m done more f h =
    ap (λ (l : List ℕ). instructions_of (l ++ more)) f.split ∙ ap instructions_of (append_assoc f.used left more) ∙ f.rest (left ++ more)
    ∙ ap (with_all_first done) h ∙ with_all_first-err done m

-- an ended line that says nothing
pub ended-refused : (n : ℕ) (line left : List ℕ) → HasNoLineFeed line → instruction_of line ≡ None
    → instructions_from n (lines_of (line ++ 10 ∷ left)) ≡ Err n
ended-refused n line left p e =
    ap (instructions_from n) (lines_of-ended line left p) ∙ ap (λ i. after_line n i (lines_of left) (instructions_from (n + 1) (lines_of left))) e

-- a line after a close
pub closed-refused : (n : ℕ) (line left : List ℕ) → HasNoLineFeed line → instruction_of line ≡ Some close → left ≢ []
    → instructions_from n (lines_of (line ++ 10 ∷ left)) ≡ Err (n + 1)
closed-refused n line left p e ne =
    ap (instructions_from n) (lines_of-ended line left p)
    ∙ ap (λ i. after_line n i (lines_of left) (instructions_from (n + 1) (lines_of left))) e
    ∙ after_line-closes n (lines_of left) _ (some_line left ne)

-- a line that is too long says nothing
too_long : (line : List ℕ) → MAX_LINE_BYTES < length line → instruction_of line ≡ None
unfolding instruction_of
too_long line h = let e : nat_lt MAX_LINE_BYTES (length line) ≡ true = grind arith in rw e refl

begun-refused : (n : ℕ) (text rest : List ℕ) → HasNoLineFeed text → MAX_LINE_BYTES < length text → instructions_from n (lines_of (text ++ rest)) ≡ Err n
begun-refused n [] rest p h = absurd (omega arith)
begun-refused n (x ∷ xs) rest p h =
    let b = lines_of-begun x xs rest p in
    let long : MAX_LINE_BYTES < length ((x ∷ xs) ++ b.0) = omega (arith, h, length-append (x ∷ xs) b.0) in
    ap (instructions_from n) b.2 ∙ ap (λ i. after_line n i b.1 (instructions_from (n + 1) b.1)) (too_long ((x ∷ xs) ++ b.0) long)

-- text that is too long for a line
pub long-refused : (n : ℕ) (text left : List ℕ) → HasNoLineFeed text → MAX_LINE_BYTES < length text → instructions_from n (lines_of (text ++ left)) ≡ Err n
long-refused n text left p h = begun-refused n text left p h

-- the whole script
pub Follows-last : (read left : List ℕ) (n : ℕ) (done more : List Instruction) → Follows read left n done
    → instructions_from n (lines_of left) ≡ Ok more → instructions_of read ≡ Ok (done ++ more)
Follows-last read left n done more f e = ap instructions_of f.split ∙ f.rest left ∙ ap (with_all_first done) e ∙ with_all_first-ok done more

pub closed-whole : (n : ℕ) (line : List ℕ) → HasNoLineFeed line → instruction_of line ≡ Some close → instructions_from n (lines_of (line ++ 10 ∷ [])) ≡ Ok (close ∷ [])
closed-whole n line p e = ap (instructions_from n) (lines_of-ended line [] p) ∙ ap (λ i. after_line n i [] (instructions_from (n + 1) [])) e

pub last_line : (n : ℕ) (x : ℕ) (xs : List ℕ) → HasNoLineFeed (x ∷ xs) → instructions_from n (lines_of (x ∷ xs)) ≡ after_line n (instruction_of (x ∷ xs)) [] (Ok (close ∷ []))
last_line n x xs p = ap (instructions_from n) (one x xs p)

some_first : (text : List ℕ) → 0 < length text → (x : ℕ) × (xs : List ℕ) × (text ≡ x ∷ xs)
some_first [] h = absurd (omega arith)
some_first (x ∷ xs) h = (x, xs, refl)

last_says : (n : ℕ) (line : List ℕ) → 0 < length line → HasNoLineFeed line → instructions_from n (lines_of line) ≡ after_line n (instruction_of line) [] (Ok (close ∷ []))
last_says n [] h p = absurd (omega arith)
last_says n (x ∷ xs) h p = last_line n x xs p

-- the text behind the last line feed
pub last-none : (n : ℕ) (line : List ℕ) → 0 < length line → HasNoLineFeed line → instruction_of line ≡ None → instructions_from n (lines_of line) ≡ Err n
last-none n line h p e = last_says n line h p ∙ ap (λ i. after_line n i [] (Ok (close ∷ []))) e

pub last-closes : (n : ℕ) (line : List ℕ) → 0 < length line → HasNoLineFeed line → instruction_of line ≡ Some close → instructions_from n (lines_of line) ≡ Ok (close ∷ [])
last-closes n line h p e = last_says n line h p ∙ ap (λ i. after_line n i [] (Ok (close ∷ []))) e

pub last-goes_on : (n : ℕ) (line : List ℕ) (x : Instruction) → 0 < length line → HasNoLineFeed line → instruction_of line ≡ Some x → x ≢ close
    → instructions_from n (lines_of line) ≡ Ok (x ∷ close ∷ [])
last-goes_on n line x h p e ne =
    last_says n line h p ∙ ap (λ i. after_line n i [] (Ok (close ∷ []))) e ∙ after_line-goes_on n x [] (Ok (close ∷ [])) ne

-- a refusal among lines is of one of them
after_line-at_least : (n m : ℕ) (i : Option Instruction) (lines : List (List ℕ)) (rest : Result (List Instruction) ℕ)
    → ((k : ℕ) → rest ≡ Err k → n ≤ k) → after_line n i lines rest ≡ Err m → n ≤ m
after_line-at_least n m None lines rest h e = let same : n ≡ m = cc in omega (arith, same)
after_line-at_least n m (Some close) [] rest h e = cc
after_line-at_least n m (Some close) (line ∷ lines) rest h e = let same : n + 1 ≡ m = cc in omega (arith, same)
after_line-at_least n m (Some (receive a b c)) lines (Ok done) h e = cc
after_line-at_least n m (Some (receive a b c)) lines (Err k) h e = let same : k ≡ m = cc in omega (arith, same, h k refl)
after_line-at_least n m (Some (tick a)) lines (Ok done) h e = cc
after_line-at_least n m (Some (tick a)) lines (Err k) h e = let same : k ≡ m = cc in omega (arith, same, h k refl)

pub from-at_least : (n m : ℕ) (lines : List (List ℕ)) → instructions_from n lines ≡ Err m → n ≤ m
from-at_least n m [] e = cc
from-at_least n m (line ∷ lines) e =
    after_line-at_least n m (instruction_of line) lines (instructions_from (n + 1) lines) (λ k f. let far = from-at_least (n + 1) k lines f in omega (arith, far)) e

pub with_all_first-refused : (done : List Instruction) (r : Result (List Instruction) ℕ) (m : ℕ) → with_all_first done r ≡ Err m → r ≡ Err m
with_all_first-refused [] r m e = e
with_all_first-refused (x ∷ xs) r m e = with_all_first-refused xs r m (first (with_all_first xs r) e)
  where
    first : (k : Result (List Instruction) ℕ) → with_first x k ≡ Err m → k ≡ Err m
    first (Ok l) h = cc
    first (Err j) h = h

-- none of the lines that were played is refused, whatever follows
pub Follows-none_refused : (read left : List ℕ) (n : ℕ) (done : List Instruction) → Follows read left n done
    → (more : List ℕ) (refused : ℕ) → instructions_of (read ++ more) ≡ Err refused → n ≤ refused
Follows-none_refused read left n done f more refused e =
    let here = sym (f.rest (left ++ more)) ∙ ap instructions_of (sym (append_assoc f.used left more) ∙ ap (λ (l : List ℕ). l ++ more) (sym f.split)) ∙ e in
    from-at_least n refused (lines_of (left ++ more)) (with_all_first-refused done (instructions_from n (lines_of (left ++ more))) refused here)

-- a refusal behind a close is of the next line
pub closed-at_least : (n m : ℕ) (line left : List ℕ) → HasNoLineFeed line → instruction_of line ≡ Some close
    → instructions_from n (lines_of (line ++ 10 ∷ left)) ≡ Err m → n + 1 ≤ m
closed-at_least n m line left p e r =
    after (lines_of left) (instructions_from (n + 1) (lines_of left))
    (sym (ap (instructions_from n) (lines_of-ended line left p) ∙ ap (λ i. after_line n i (lines_of left) (instructions_from (n + 1) (lines_of left))) e) ∙ r)
  where
    after : (lines : List (List ℕ)) (rest : Result (List Instruction) ℕ) → after_line n (Some close) lines rest ≡ Err m → n + 1 ≤ m
    after [] rest h = cc
    after (l ∷ ls) rest h = let same : n + 1 ≡ m = cc in omega (arith, same)
