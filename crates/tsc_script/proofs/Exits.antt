-- How the reading and playing of a script ends.
-- For the contract of `play_script`.
use Rattle.std.proofs.Common.{◌≡◌, ◌≢◌, ℕ, ◌+◌, ◌≤◌, ◌<◌, List, [], ◌∷◌, ◌++◌, None, Some, Option, Ok, Err, Result, OnOk, IfErr, IfSome, refl, sym, ap, subst, ◌∙◌, append-nil, append_assoc, length, length-append, arith, inl, inr}
use Rattle.std.specs.Io.KnownBytes.{Consumes, IsAtEnd}
use Rattle.tsc_script.specs.declared.limits.TheConstants.{MAX_LINE_BYTES}
use Rattle.tsc_script.specs.declared.stop.ScriptStop.{ScriptStop}
use Rattle.tsc_script.specs.declared.stop.ScriptStop.TheVariants.{NoMemory, Refused, Fault, Down}
use Rattle.tsc_script.specs.Lines.{HasNoLineFeed, lines_of}
use Rattle.tsc_script.specs.Instructions.{Instruction, close, instruction_of}
use Rattle.tsc_script.specs.Script.{instructions_from, instructions_of, with_all_first}
use Rattle.tsc_script.specs.Stops.{IfRefused, MatchRefusedDown}
use Rattle.tsc_script.specs.Reads.{SourceTurn, ended, bytes_given, GoOn, LastGave, IsCutShort}
use Rattle.tsc_script.specs.Causes.{line_feeds, IsCutAt, IsCausedBy}
use Rattle.tsc_script.specs.ToRead.{CountsReads, Closing}
use Rattle.tsc_script.specs.Progress.{Begins, Closes, Ends, StopsAt, StopsAfter}
use Rattle.tsc_script.proofs.Reading.{HasNoLineFeed-append}
use Rattle.tsc_script.proofs.Turns.{given-append, LastGave-append, Spends-append, cut_short}
use Rattle.tsc_script.proofs.Playing.{Follows, Follows-more, Follows-refused, Follows-last, Follows-none_refused, count-append, no-feeds, feeds-length, ended-refused, long-refused, closed-refused, closed-whole, closed-at_least, with_all_first-ok, with_all_first-err, with_all_first-refused}

-- further reads
pub follows_on : (xs ys : List SourceTurn) (left new : List ℕ) (n : ℕ) (done : List Instruction) → Follows (bytes_given xs) left n done
    → left ++ bytes_given ys ≡ new → Follows (bytes_given (xs ++ ys)) new n done
follows_on xs ys left new n done f e =
    subst (λ (read : List ℕ). Follows read new n done) (sym (given-append xs ys)) (Follows-more (bytes_given xs) left n done (bytes_given ys) new f e)

-- a close and what was read behind it
pub follows_close : (xs ys : List SourceTurn) (line left : List ℕ) (n : ℕ) (done : List Instruction) → Follows (bytes_given xs) (line ++ 10 ∷ left) n done
    → Follows (bytes_given (xs ++ ys)) (line ++ 10 ∷ (left ++ bytes_given ys)) n done
follows_close xs ys line left n done f = follows_on xs ys (line ++ 10 ∷ left) (line ++ 10 ∷ (left ++ bytes_given ys)) n done f (append_assoc line (10 ∷ left) (bytes_given ys))

-- so many reads as were counted from the start
pub few : (reads : ℕ) (turns : List SourceTurn) → CountsReads 0 reads turns → length turns ≤ 4294967296
few reads turns c = let bound = c.few (omega arith) in omega (arith, c.made, bound)

-- ---- the known bytes

-- a refusal whatever follows
pub told-refused : (start known : Option (List ℕ)) (read : List ℕ) (m : ℕ) → Consumes start known read
    → ((more : List ℕ) → instructions_of (read ++ more) ≡ Err m) → IfSome start (λ script. instructions_of script ≡ Err m)
told-refused None known read m c h = tt
told-refused (Some s) None read m c h = absurd c
told-refused (Some s) (Some y) read m c h = ap instructions_of c ∙ h y

-- a refusal at the end
told-last : (start known : Option (List ℕ)) (read : List ℕ) (m : ℕ) → Consumes start known read → IsAtEnd known
    → instructions_of read ≡ Err m → IfSome start (λ script. instructions_of script ≡ Err m)
told-last None known read m c end h = tt
told-last (Some s) None read m c end h = absurd c
told-last (Some s) (Some y) read m c end h = ap instructions_of (c ∙ ap (λ (l : List ℕ). read ++ l) end ∙ append-nil read) ∙ h

pub IfRefused-weaker : (stop : ScriptStop) (P Q : ℕ → Type 0) → ((n : ℕ) → P n → Q n) → IfRefused stop P → IfRefused stop Q
IfRefused-weaker NoMemory P Q f p = tt
IfRefused-weaker (Refused n) P Q f p = f n p
IfRefused-weaker (Fault n) P Q f p = tt
IfRefused-weaker Down P Q f p = tt

-- ---- a line is refused

-- a line that says nothing
pub line_refused : (turns : List SourceTurn) (line left : List ℕ) (n : ℕ) (done : List Instruction) → Follows (bytes_given turns) (line ++ 10 ∷ left) n done
    → HasNoLineFeed line → instruction_of line ≡ None → (more : List ℕ) → instructions_of (bytes_given turns ++ more) ≡ Err n
line_refused turns line left n done f p e more =
    Follows-refused (bytes_given turns) (line ++ 10 ∷ left) n n done more f
    (ap (λ (l : List ℕ). instructions_from n (lines_of l)) (append_assoc line (10 ∷ left) more) ∙ ended-refused n line (left ++ more) p e)

-- a line that is too long
pub long_line_refused : (turns : List SourceTurn) (line part left : List ℕ) (n : ℕ) (done : List Instruction) → Follows (bytes_given turns) ((line ++ part) ++ left) n done
    → HasNoLineFeed line → HasNoLineFeed part → MAX_LINE_BYTES < length line + length part → (more : List ℕ) → instructions_of (bytes_given turns ++ more) ≡ Err n
long_line_refused turns line part left n done f p q long more =
    let far : MAX_LINE_BYTES < length (line ++ part) = omega (arith, long, length-append line part) in
    Follows-refused (bytes_given turns) ((line ++ part) ++ left) n n done more f
    (ap (λ (l : List ℕ). instructions_from n (lines_of l)) (append_assoc (line ++ part) left more) ∙ long-refused n (line ++ part) (left ++ more) (HasNoLineFeed-append line part p q) far)

some_left : (left more : List ℕ) → left ≢ [] → left ++ more ≢ []
some_left [] more h = absurd (h refl)
some_left (x ∷ xs) more h = λ e. cc

-- a line behind a close
closed_refused : (turns : List SourceTurn) (line left : List ℕ) (n : ℕ) (done : List Instruction) → Follows (bytes_given turns) (line ++ 10 ∷ left) n done
    → HasNoLineFeed line → instruction_of line ≡ Some close → left ≢ [] → (more : List ℕ) → instructions_of (bytes_given turns ++ more) ≡ Err (n + 1)
closed_refused turns line left n done f p e ne more =
    Follows-refused (bytes_given turns) (line ++ 10 ∷ left) n (n + 1) done more f
    (ap (λ (l : List ℕ). instructions_from n (lines_of l)) (append_assoc line (10 ∷ left) more) ∙ closed-refused n line (left ++ more) p e (some_left left more ne))

-- ---- the reads are cut short

-- within a line
pub cut_line : (turns : List SourceTurn) (line : List ℕ) (n : ℕ) (done : List Instruction) → Follows (bytes_given turns) line n done → HasNoLineFeed line
    → IsCutShort turns → IsCutAt n turns
cut_line turns line n done f p cut = record {
  within = omega (arith, f.feeds, ap line_feeds f.split, count-append f.used line, no-feeds line p);
  none_refused = Follows-none_refused (bytes_given turns) line n done f;
  cut_short = cut;
}

-- behind a close
cut_close : (turns : List SourceTurn) (line left : List ℕ) (n : ℕ) (done : List Instruction) → Follows (bytes_given turns) (line ++ 10 ∷ left) n done
    → HasNoLineFeed line → instruction_of line ≡ Some close → HasNoLineFeed left → IsCutShort turns → IsCutAt (n + 1) turns
cut_close turns line left n done f p e q cut = record {
  within =
      let one : line_feeds (10 ∷ left) ≡ 1 + line_feeds left = refl in
      omega (arith, f.feeds, ap line_feeds f.split, count-append f.used (line ++ 10 ∷ left), count-append line (10 ∷ left), no-feeds line p, no-feeds left q, one);
  none_refused = λ more refused r.
      let here : with_all_first done (instructions_from n (lines_of ((line ++ 10 ∷ left) ++ more))) ≡ Err refused =
      sym (f.rest ((line ++ 10 ∷ left) ++ more)) ∙ ap instructions_of (sym (append_assoc f.used (line ++ 10 ∷ left) more) ∙ ap (λ (l : List ℕ). l ++ more) (sym f.split)) ∙ r in
      let there = with_all_first-refused done (instructions_from n (lines_of ((line ++ 10 ∷ left) ++ more))) refused here in
      closed-at_least n refused line (left ++ more) p e (ap (λ (l : List ℕ). instructions_from n (lines_of l)) (sym (append_assoc line (10 ∷ left) more)) ∙ there);
  cut_short = cut;
}

-- ---- how far the script was read

module _ (start known : Option (List ℕ)) (read : List ℕ) (c : Consumes start known read) where
  -- the lines that were played, and what was read behind them
  pub begins : (left : List ℕ) (n : ℕ) (done : List Instruction) → Follows read left n done → Begins start known done
  begins left n done f = record {
    used = f.used;
    ahead = left;
    consumed = subst (Consumes start known) f.split c;
    says_first = λ more. f.rest more ∙ ap (λ k. with_all_first done (instructions_from k (lines_of more))) f.counted;
  }

  -- the script stops at the line that is read now
  pub stops_at : (Played : List Instruction → Type 0) (left : List ℕ) (n : ℕ) (done : List Instruction)
      → Follows read left n done → Played done → StopsAt Played start known n
  stops_at Played left n done f p = inl (done, begins left n done f, f.counted, p)

  -- a close was read
  pub closes : (line left : List ℕ) (n : ℕ) (done : List Instruction) → Follows read (line ++ 10 ∷ left) n done
      → HasNoLineFeed line → instruction_of line ≡ Some close → Closes start known done
  closes line left n done f p e = record {
    used = f.used ++ (line ++ 10 ∷ []);
    ahead = left;
    consumed = subst (Consumes start known)
        (f.split ∙ ap (λ (l : List ℕ). f.used ++ l) (sym (append_assoc line (10 ∷ []) left)) ∙ sym (append_assoc f.used (line ++ 10 ∷ []) left)) c;
    closes = f.rest (line ++ 10 ∷ []) ∙ ap (with_all_first done) (closed-whole n line p e) ∙ with_all_first-ok done (close ∷ []);
    ended = λ more ne.
        let far : n + 1 ≡ 2 + length done = omega (arith, f.counted) in
        ap instructions_of (append_assoc f.used (line ++ 10 ∷ []) more)
        ∙ f.rest ((line ++ 10 ∷ []) ++ more)
        ∙ ap (λ (l : List ℕ). with_all_first done (instructions_from n (lines_of l))) (append_assoc line (10 ∷ []) more)
        ∙ ap (with_all_first done) (closed-refused n line more p e ne)
        ∙ with_all_first-err done (n + 1)
        ∙ ap Err far;
  }

  -- behind a close: how it stopped
  pub closed-stopped : (Played Fell : List Instruction → Type 0) (r : Result (Unit {0}) ScriptStop) (line left : List ℕ) (n reads : ℕ) (done : List Instruction) (ys : List SourceTurn)
      → Follows read (line ++ 10 ∷ left) n done → HasNoLineFeed line → instruction_of line ≡ Some close
      → Played (done ++ close ∷ []) → Closing r (n + 1) left reads ys → IfErr r (StopsAfter Played Fell start known)
  closed-stopped Played Fell (Ok u) line left n reads done ys f p e played h = tt
  closed-stopped Played Fell (Err NoMemory) line left n reads done ys f p e played h = absurd h
  closed-stopped Played Fell (Err (Refused m)) line left n reads done ys f p e played h = inr (done, closes line left n done f p e, omega (arith, h.0, f.counted), played)
  closed-stopped Played Fell (Err (Fault m)) line left n reads done ys f p e played h = inr (done, closes line left n done f p e, omega (arith, h.0, f.counted), played)
  closed-stopped Played Fell (Err Down) line left n reads done ys f p e played h = absurd h

  -- a close was the last line
  pub close-whole : (Played : List Instruction → Type 0) (r : Result (Unit {0}) ScriptStop) (line left : List ℕ) (n reads : ℕ) (done : List Instruction) (ys : List SourceTurn)
      → Follows read (line ++ 10 ∷ left) n done → HasNoLineFeed line → instruction_of line ≡ Some close
      → Played (done ++ close ∷ []) → Closing r (n + 1) left reads ys → OnOk r (IsAtEnd known)
      → OnOk r ((instructions : List Instruction) × Ends start known instructions × Played instructions)
  close-whole Played (Err s) line left n reads done ys f p e played h end = tt
  close-whole Played (Ok u) line left n reads done ys f p e played h end = (
    done ++ close ∷ [],
    record {
      script = read;
      consumed = c;
      at_end = end;
      says_all = Follows-last read (line ++ 10 ∷ left) n done (close ∷ []) f (ap (λ (l : List ℕ). instructions_from n (lines_of (line ++ 10 ∷ l))) h.1 ∙ closed-whole n line p e);
    },
    played,
  )

  -- all was read, and the text behind the last line feed was played
  ends : (n : ℕ) (done more : List Instruction) (line : List ℕ) → Follows read line n done → IsAtEnd known
      → instructions_from n (lines_of line) ≡ Ok (more ++ close ∷ []) → Ends start known ((done ++ more) ++ close ∷ [])
  ends n done more line f end e = record {
    script = read;
    consumed = c;
    at_end = end;
    says_all = Follows-last read line n done (more ++ close ∷ []) f e ∙ ap Ok (sym (append_assoc done more (close ∷ [])));
  }

  pub input-whole : (Played : List Instruction → Type 0) (r : Result (Unit {0}) ScriptStop) (n : ℕ) (done : List Instruction) (line : List ℕ)
      → Follows read line n done → IsAtEnd known
      → OnOk r ((more : List Instruction) × (instructions_from n (lines_of line) ≡ Ok (more ++ close ∷ [])) × Played ((done ++ more) ++ close ∷ []))
      → OnOk r ((instructions : List Instruction) × Ends start known instructions × Played instructions)
  input-whole Played (Err s) n done line f end h = tt
  input-whole Played (Ok u) n done line f end h = ((done ++ h.0) ++ close ∷ [], ends n done h.0 line f end h.1, h.2)

  last_refused : (n : ℕ) (done : List Instruction) (line : List ℕ) → Follows read line n done → instructions_from n (lines_of line) ≡ Err n → instructions_of read ≡ Err n
  last_refused n done line f e = ap instructions_of f.split ∙ f.rest line ∙ ap (with_all_first done) e ∙ with_all_first-err done n

  pub input-refused : (r : Result (Unit {0}) ScriptStop) (n : ℕ) (done : List Instruction) (line : List ℕ) → Follows read line n done → IsAtEnd known
      → IfErr r (λ stop. IfRefused stop (λ at. (at ≡ n) × (instructions_from n (lines_of line) ≡ Err n)))
      → IfErr r (λ stop. IfRefused stop (λ number. IfSome start (λ script. instructions_of script ≡ Err number)))
  input-refused (Ok u) n done line f end h = tt
  input-refused (Err s) n done line f end h =
      IfRefused-weaker s (λ at. (at ≡ n) × (instructions_from n (lines_of line) ≡ Err n)) (λ number. IfSome start (λ script. instructions_of script ≡ Err number))
      (λ m k. rw k.0 (told-last start known read n c end (last_refused n done line f k.1))) h

  pub input-stopped : (Played Fell : List Instruction → Type 0) (Same : Type 0) (r : Result (Unit {0}) ScriptStop) (n : ℕ) (done : List Instruction) (line : List ℕ)
      → Follows read line n done → IsAtEnd known → (Same → Played done)
      → IfErr r (λ stop. IfRefused stop (λ at. (at ≡ n) × (instructions_from n (lines_of line) ≡ Err n)))
      → IfErr r (λ stop. MatchRefusedDown stop Same
      ((more : List Instruction) × (instructions_from n (lines_of line) ≡ Ok (more ++ close ∷ [])) × Played ((done ++ more) ++ close ∷ [])))
      → IfErr r (StopsAfter Played Fell start known)
  input-stopped Played Fell Same (Ok u) n done line f end p k h = tt
  input-stopped Played Fell Same (Err NoMemory) n done line f end p k h = absurd h
  input-stopped Played Fell Same (Err (Refused m)) n done line f end p k h = inl (done, begins line n done f, k.0 ∙ f.counted, p h)
  input-stopped Played Fell Same (Err (Fault m)) n done line f end p k h = absurd h
  input-stopped Played Fell Same (Err Down) n done line f end p k h = (done ++ h.0, h.2, inr (inr (ends n done h.0 line f end h.1)))

  -- behind a close: the line there is refused
  pub close-refused : (r : Result (Unit {0}) ScriptStop) (turns : List SourceTurn) → read ≡ bytes_given turns → (line left : List ℕ) (n reads : ℕ) (done : List Instruction) (ys : List SourceTurn)
      → Follows (bytes_given turns) (line ++ 10 ∷ left) n done → HasNoLineFeed line → instruction_of line ≡ Some close → Closing r (n + 1) left reads ys
      → IfErr r (λ stop. IfRefused stop (λ number. IfSome start (λ script. instructions_of script ≡ Err number)))
  close-refused (Ok u) turns is line left n reads done ys f p e h = tt
  close-refused (Err NoMemory) turns is line left n reads done ys f p e h = tt
  close-refused (Err (Refused m)) turns is line left n reads done ys f p e h =
      rw h.0 (told-refused start known read (n + 1) c (λ more. ap (λ (l : List ℕ). instructions_of (l ++ more)) is ∙ closed_refused turns line left n done f p e h.1 more))
  close-refused (Err (Fault m)) turns is line left n reads done ys f p e h = tt
  close-refused (Err Down) turns is line left n reads done ys f p e h = tt

-- ---- why it ended

-- behind a close
pub close-caused : (r : Result (Unit {0}) ScriptStop) (xs ys : List SourceTurn) (line left : List ℕ) (n reads : ℕ) (done : List Instruction)
    → Follows (bytes_given (xs ++ ys)) (line ++ 10 ∷ left) n done → HasNoLineFeed line → instruction_of line ≡ Some close
    → GoOn xs → CountsReads 0 reads (xs ++ ys) → Closing r (n + 1) left reads ys → IsCausedBy r (xs ++ ys)
close-caused (Ok u) xs ys line left n reads done f p e goes counts h = LastGave-append ended xs ys goes h.0
close-caused (Err NoMemory) xs ys line left n reads done f p e goes counts h = absurd h
close-caused (Err (Refused m)) xs ys line left n reads done f p e goes counts h = λ more _. rw h.0 (closed_refused (xs ++ ys) line left n done f p e h.1 more)
close-caused (Err (Fault m)) xs ys line left n reads done f p e goes counts h =
    subst (λ (k : ℕ). IsCutAt k (xs ++ ys)) (sym h.0)
    (cut_close (xs ++ ys) line left n done f p e h.2 (cut_short reads (xs ++ ys) counts (Spends-append reads xs ys goes h.1)))
close-caused (Err Down) xs ys line left n reads done f p e goes counts h = absurd h

-- at the input's end
pub input-caused : (r : Result (Unit {0}) ScriptStop) (Same More : Type 0) (turns : List SourceTurn) (n : ℕ) (done : List Instruction) (line : List ℕ)
    → Follows (bytes_given turns) line n done → LastGave ended turns
    → IfErr r (λ stop. IfRefused stop (λ at. (at ≡ n) × (instructions_from n (lines_of line) ≡ Err n)))
    → IfErr r (λ stop. MatchRefusedDown stop Same More) → IsCausedBy r turns
input-caused (Ok u) Same More turns n done line f last k h = last
input-caused (Err NoMemory) Same More turns n done line f last k h = absurd h
input-caused (Err (Refused m)) Same More turns n done line f last k h = λ more none.
    ap (λ (l : List ℕ). instructions_of (bytes_given turns ++ l)) (none last) ∙ ap instructions_of (append-nil (bytes_given turns))
    ∙ ap instructions_of f.split ∙ f.rest line ∙ ap (with_all_first done) k.1 ∙ with_all_first-err done n ∙ ap Err (sym k.0)
input-caused (Err (Fault m)) Same More turns n done line f last k h = absurd h
input-caused (Err Down) Same More turns n done line f last k h = tt

-- 2^32 reads give fewer lines than there are numbers for
pub too_many : (turns : List SourceTurn) (left : List ℕ) (n reads : ℕ) (done : List Instruction) → Follows (bytes_given turns) left n done → CountsReads 0 reads turns → n < 18446744073709551615
too_many turns left n reads done f counts =
    let bound = few reads turns counts in
    omega (arith, bound, counts.short, f.feeds, ap length f.split, length-append f.used left, feeds-length f.used)

-- what was played last follows what was played before
pub played_last : {M : Type 0} (leads : M → List Instruction → M → Type 0) (first : M) (r : Result (Unit {0}) ScriptStop) (old new : M) (n : ℕ) (done : List Instruction) (line : List ℕ)
    → leads first done old
    → OnOk r ((more : List Instruction) × (instructions_from n (lines_of line) ≡ Ok (more ++ close ∷ []))
    × ((start : M) (done : List Instruction) → leads start done old → leads start ((done ++ more) ++ close ∷ []) new))
    → OnOk r ((more : List Instruction) × (instructions_from n (lines_of line) ≡ Ok (more ++ close ∷ [])) × leads first ((done ++ more) ++ close ∷ []) new)
played_last leads first (Ok u) old new n done line p h = (h.0, h.1, h.2 first done p)
played_last leads first (Err s) old new n done line p h = tt

matched : {M : Type 0} (leads : M → List Instruction → M → Type 0) (first : M) (s : ScriptStop) (old new : M) (n : ℕ) (done : List Instruction) (line : List ℕ)
    → leads first done old
    → MatchRefusedDown s (new ≡ old) ((more : List Instruction) × (instructions_from n (lines_of line) ≡ Ok (more ++ close ∷ []))
    × ((start : M) (done : List Instruction) → leads start done old → leads start ((done ++ more) ++ close ∷ []) new))
    → MatchRefusedDown s (new ≡ old) ((more : List Instruction) × (instructions_from n (lines_of line) ≡ Ok (more ++ close ∷ [])) × leads first ((done ++ more) ++ close ∷ []) new)
matched leads first NoMemory old new n done line p h = h
matched leads first (Refused m) old new n done line p h = h
matched leads first (Fault m) old new n done line p h = h
matched leads first Down old new n done line p h = (h.0, h.1, h.2 first done p)

pub IfErr-played_last : {M : Type 0} (leads : M → List Instruction → M → Type 0) (first : M) (r : Result (Unit {0}) ScriptStop) (old new : M) (n : ℕ) (done : List Instruction) (line : List ℕ)
    → leads first done old
    → IfErr r (λ stop. MatchRefusedDown stop (new ≡ old) ((more : List Instruction) × (instructions_from n (lines_of line) ≡ Ok (more ++ close ∷ []))
    × ((start : M) (done : List Instruction) → leads start done old → leads start ((done ++ more) ++ close ∷ []) new)))
    → IfErr r (λ stop. MatchRefusedDown stop (new ≡ old) ((more : List Instruction) × (instructions_from n (lines_of line) ≡ Ok (more ++ close ∷ [])) × leads first ((done ++ more) ++ close ∷ []) new))
IfErr-played_last leads first (Ok u) old new n done line p h = tt
IfErr-played_last leads first (Err s) old new n done line p h = matched leads first s old new n done line p h
