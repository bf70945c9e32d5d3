use Rattle.std.proofs.Common.{◌≡◌, map, take}
use Rattle.shard_core.specs.Telling.{said_by}
use Rattle.shard_core.proofs.telling.told_answers.Given as goal

abbrev pub invariant-loop-answer : goal.invariant-loop-answer
invariant-loop-answer l = l.said.items ≡ map said_by (take l.answer-index l.answer-items)
