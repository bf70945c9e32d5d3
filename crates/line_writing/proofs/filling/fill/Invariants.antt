use Rattle.std.proofs.Common.{◌≤◌}
use Rattle.line_writing.proofs.OneMore.{Filling}
use Rattle.line_writing.proofs.filling.fill.Given as goal

-- each entry that was taken has its line behind what was left, or is counted
abbrev pub invariant-loop : goal.invariant-loop
invariant-loop g l =
    Filling g.S.EntrySource.gives (g.L.LineMaker.is_line l.fn.maker) l.fn.source l.source l.fn.lines l.lines l.lost
    × (l.lost ≤ l.counter)
