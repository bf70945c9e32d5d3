use Rattle.std.proofs.Common.{◌≡◌, ℕ, ◌++◌, List}
use Rattle.std.specs.Io.KnownBytes.{Appends}
use Rattle.line_writing.proofs.lines_to_write.write_some.Given as goal

-- the text is what was taken, and then the rest
abbrev pub invariant-loop : goal.invariant-loop
invariant-loop g l =
    (done : List ℕ) × (l.text ≡ done ++ l.rest)
    × Appends (g.W.Write.contents l.fn.output) (g.W.Write.contents l.output) done
