use Rattle.std.proofs.Common.{◌≡◌, ◌+◌, ◌≤◌, length}
use Rattle.config_findings.specs.Texts.{place_from}
use Rattle.config_findings.proofs.finding_texts.place_behind.Given as goal

-- the place so far, which is at most as far on as there are bytes in front of it
abbrev pub invariant-loop-left : goal.invariant-loop-left
invariant-loop-left l = (place_from l.line l.column l.left ≡ place_from 1 1 l.fn.before) × (l.line + length l.left ≤ length l.fn.before + 1) × (l.column + length l.left ≤ length l.fn.before + 1)

abbrev pub decreases-loop-left : goal.decreases-loop-left
decreases-loop-left l = length l.left
