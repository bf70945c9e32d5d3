-- Laws of what reads gave.
-- For the contracts of `read_some`, `refill`, `read_line`, `expect_end` and `play_script`.
use Rattle.std.proofs.Common.{◌≡◌, ℕ, ◌+◌, ◌<◌, ◌≤◌, List, [], ◌∷◌, ◌++◌, None, Some, Option, length, length-append, length-take, refl, sym, ap, ◌∙◌, subst, append-nil, append_assoc, arith, inl, inr}
use Rattle.std.proofs.KnownBytes.{Consumes-trans, Consumes-nil}
use Rattle.std.specs.Io.KnownBytes.{Consumes}
use Rattle.tsc_script.specs.declared.reads.ScriptRead.{ScriptRead}
use Rattle.tsc_script.specs.declared.reads.ScriptRead.TheVariants.{Gave, Interrupted, Failed, Ended}
use Rattle.tsc_script.specs.Reads.{SourceTurn, gave, interrupted, failed, ended, turn_of, bytes_by, bytes_given, KnownReader, Tells, Gives, GoOn, LastGave, IsCutShort}
use Rattle.tsc_script.specs.ToRead.{CountsReads, Spends}

pub given-append : (xs ys : List SourceTurn) → bytes_given (xs ++ ys) ≡ bytes_given xs ++ bytes_given ys
given-append [] ys = refl
given-append (x ∷ xs) ys = ap (λ l. bytes_by x ++ l) (given-append xs ys) ∙ sym (append_assoc (bytes_by x) (bytes_given xs) (bytes_given ys))

told-then : (a b c : Option (List SourceTurn)) (xs ys : List SourceTurn) → Tells a b xs → Tells b c ys → Tells a c (xs ++ ys)
told-then None b c xs ys p q = tt
told-then (Some old) b c xs ys p q =
    let h : c ≡ Some ((old ++ xs) ++ ys) = subst (λ (k : Option (List SourceTurn)). Tells k c ys) p q in
    h ∙ ap (λ (l : List SourceTurn). Some l) (append_assoc old xs ys)

told-none : (a : Option (List SourceTurn)) → Tells a a []
told-none None = tt
told-none (Some old) = ap (λ (l : List SourceTurn). Some l) (sym (append-nil old))

-- no read
pub Gives-none : (a : KnownReader) → Gives a a []
Gives-none a = record { told = told-none a.turns; bytes = Consumes-nil a.left }

-- reads, and then further ones
pub Gives-then : (a b c : KnownReader) (xs ys : List SourceTurn) → Gives a b xs → Gives b c ys → Gives a c (xs ++ ys)
Gives-then a b c xs ys p q = record {
  told = told-then a.turns b.turns c.turns xs ys p.told q.told;
  bytes = subst (λ (l : List ℕ). Consumes a.left c.left l) (sym (given-append xs ys)) (Consumes-trans a.left b.left c.left (bytes_given xs) (bytes_given ys) p.bytes q.bytes);
}

pub GoOn-append : (xs ys : List SourceTurn) → GoOn xs → GoOn ys → GoOn (xs ++ ys)
GoOn-append [] ys p q = q
GoOn-append (gave bytes ∷ xs) ys p q = GoOn-append xs ys p q
GoOn-append (interrupted ∷ xs) ys p q = GoOn-append xs ys p q
GoOn-append (failed ∷ xs) ys p q = absurd p
GoOn-append (ended ∷ xs) ys p q = absurd p

pub LastGave-append : (last : SourceTurn) (xs ys : List SourceTurn) → GoOn xs → LastGave last ys → LastGave last (xs ++ ys)
LastGave-append last xs ys p q = (xs ++ q.0, GoOn-append xs q.0 p q.1, ap (λ (l : List SourceTurn). xs ++ l) q.2 ∙ sym (append_assoc xs q.0 (last ∷ [])))

pub Spends-append : (reads : ℕ) (xs ys : List SourceTurn) → GoOn xs → Spends reads ys → Spends reads (xs ++ ys)
Spends-append reads xs ys p (inl q) = inl (LastGave-append failed xs ys p q)
Spends-append reads xs ys p (inr q) = inr (GoOn-append xs ys p q.0, q.1)

pub Counts-none : (a : ℕ) → CountsReads a a []
Counts-none a = record { made = omega arith; few = λ h. h; short = omega arith }

pub Counts-then : (a b c : ℕ) (xs ys : List SourceTurn) → CountsReads a b xs → CountsReads b c ys → CountsReads a c (xs ++ ys)
Counts-then a b c xs ys p q = record {
  made = omega (arith, p.made, q.made, length-append xs ys);
  few = λ h. q.few (p.few h);
  short = omega (arith, p.short, q.short, length-append xs ys, ap length (given-append xs ys), length-append (bytes_given xs) (bytes_given ys));
}

-- all reads that may be made were made, where they were counted from 0
pub cut_short : (reads : ℕ) (turns : List SourceTurn) → CountsReads 0 reads turns → Spends reads turns → IsCutShort turns
cut_short reads turns c (inl h) = inl h
cut_short reads turns c (inr h) = inr (h.0, omega (arith, c.made, h.1))

-- one more read, of no more bytes than its chunk has room for
pub Counts-more : (a b : ℕ) (xs : List SourceTurn) (turn : SourceTurn) → CountsReads a b xs → b < 4294967296 → length (bytes_by turn) ≤ 65536 → CountsReads a (b + 1) (xs ++ turn ∷ [])
Counts-more a b xs turn p few h =
    let one : CountsReads b (b + 1) (turn ∷ []) = record { made = refl; few = λ _. omega (arith, few); short = omega (arith, h, ap length (append-nil (bytes_by turn))) } in
    Counts-then a b (b + 1) xs (turn ∷ []) p one

-- a read gives no more than its chunk has room for
pub turn-short : (turn : ScriptRead) (chunk : List ℕ) → length chunk ≤ 65536 → length (bytes_by (turn_of turn chunk)) ≤ 65536
turn-short (Gave n) chunk h = omega (arith, h, length-take n chunk)
turn-short Interrupted chunk h = omega arith
turn-short Failed chunk h = omega arith
turn-short Ended chunk h = omega arith

-- bytes behind reads that gave none
pub given-behind : (xs : List SourceTurn) (turn : SourceTurn) → bytes_given xs ≡ [] → bytes_given (xs ++ turn ∷ []) ≡ bytes_by turn
given-behind xs turn e = given-append xs (turn ∷ []) ∙ ap (λ (l : List ℕ). l ++ bytes_given (turn ∷ [])) e ∙ append-nil (bytes_by turn)
