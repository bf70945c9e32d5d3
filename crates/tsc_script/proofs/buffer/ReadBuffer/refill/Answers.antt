use Rattle.std.proofs.Common.{◌≡◌, ℕ, ◌-◌, List, ◌++◌, ◌∷◌, [], take, length, ap, sym, subst, ◌∙◌, arith}
use lib.Seq.{take-append_seam}
use Rattle.tsc_script.specs.declared.reads.ScriptRead.{ScriptRead}
use Rattle.tsc_script.specs.Reads.{SourceTurn, gave, turn_of, bytes_given, GoOn}
use Rattle.tsc_script.specs.ToRead.{BufferState, CountsReads}
use Rattle.tsc_script.proofs.Turns.{GoOn-append, given-behind}
use Rattle.tsc_script.proofs.buffer.ReadBuffer.refill.Goals as goal

-- the bytes that were read are the first of the chunk
front : (count len : ℕ) (new rest : List ℕ) → length new ≡ len → take (count - 0) (take len (new ++ rest)) ≡ take count new
front count len new rest e =
    let s : count - 0 ≡ count = omega arith in
    let whole : take len (new ++ rest) ≡ new = subst (λ n. take n (new ++ rest) ≡ new) e (take-append_seam new rest) in
    rw s (ap (take count) whole)

pub returns-in-Some-Gave-clause-turns : goal.returns-in-Some-Gave-clause-turns
returns-in-Some-Gave-clause-turns g c =
    let read = c.in-Some-Gave.ensures.turns in
    let found = read.3 in
    let bytes = take c.in-Some-Gave.count c.read_some.new.chunk in
    let last : turn_of c.in-Some-Gave.field-0 c.read_some.new.chunk ≡ gave bytes = ap (λ (turn : ScriptRead). turn_of turn c.read_some.new.chunk) c.in-Some-Gave.field-0-is in
    let all : read.0 ≡ found.0 ++ gave bytes ∷ [] = found.3 ∙ ap (λ (turn : SourceTurn). found.0 ++ turn ∷ []) last in
    let len : length c.read_some.new.chunk ≡ c.self.inside.chunk.len = omega (arith, c.read_some.auto.chunk, c.deref_mut.ensures.len) in (
      read.0,
      read.1,
      subst (λ (n : ℕ). CountsReads n c.read_some.new.reads read.0) (ap (λ (b : BufferState). b.reads) c.self.view_is) read.2,
      front c.in-Some-Gave.count c.self.inside.chunk.len c.read_some.new.chunk _ len ∙ sym (ap bytes_given all ∙ given-behind found.0 (gave bytes) found.2),
      subst GoOn (sym all) (GoOn-append found.0 (gave bytes ∷ []) found.1 tt),
    )
