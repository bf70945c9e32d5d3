use Rattle.std.proofs.Common.{◌≡◌, [], ◌∷◌, take}
use Rattle.journal_theory.specs.Journal.{Entry, Journal}
use Rattle.shard_core.specs.Held.{StandsFor, settings}
use Rattle.shard_restore.specs.Restoring.{answered_by}
use Rattle.shard_restore.proofs.again.decide_again.Given as goal

abbrev pub invariant-loop-i : goal.invariant-loop-i
invariant-loop-i l =
    ((e : Entry) (past : Journal) → e.answers ≡ [] → StandsFor l.fn.shard (e ∷ past) 0 → StandsFor l.shard (answered_by e (take l.i l.answers) ∷ past) l.i)
    × (settings l.shard ≡ settings l.fn.shard)
