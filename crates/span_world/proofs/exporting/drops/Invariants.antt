use Rattle.std.proofs.Common.{◌≡◌, take}
use Rattle.journal_theory.specs.Fate.{counts}
use Rattle.span_world.proofs.exporting.drops.Given as goal

abbrev pub invariant-loop-span : goal.invariant-loop-span
invariant-loop-span l = l.keys.items ≡ counts l.reason (take l.span-index l.spans)
