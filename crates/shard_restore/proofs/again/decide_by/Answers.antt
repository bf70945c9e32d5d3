use Rattle.std.proofs.Common.{◌∙◌, sym, ap, List, Bool, false}
use Rattle.policy_tree.specs.Tree.{limiters}
use Rattle.policy_tree.specs.Meaning.{meaning}
use Rattle.shard_restore.specs.Asking.{Left}
use Rattle.shard_restore.proofs.GivenAnswers.{knows_each, decides_by}
use Rattle.shard_restore.proofs.again.decide_by.Goals as goal

pub decide-decided-requires : goal.decide-decided-requires
decide-decided-requires c = record { nodes = knows_each (limiters (meaning c.args.shard.now.policies)) }

pub returns-then-is_spent-clause-decided : goal.returns-then-is_spent-clause-decided
returns-then-is_spent-clause-decided c =
    decides_by c.args.shard.now c.decide-decided.new.self c.args.answers.now c.decide-decided.result c.decide-decided.new.limiter
    c.new-given.result (c.new-given.ensures ∙ ap (λ (a : List Bool). let l : Left = record { answers = a; is_short = false } in l) c.in-Ok.ensures)
    c.decide-decided.ensures.decides (c.is_spent.ensures c.if-is_spent.true) (sym c.is_nothing.ensures ∙ c.if-is_nothing.false)
