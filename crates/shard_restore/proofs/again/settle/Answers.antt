use Rattle.std.proofs.Common.{◌∙◌, sym}
use Rattle.policy_tree.specs.Tree.{limiters}
use Rattle.policy_tree.specs.Meaning.{meaning}
use Rattle.shard_restore.proofs.GivenAnswers.{knows_each, none_of}
use Rattle.shard_restore.proofs.TakenAgain.{settles}
use Rattle.shard_restore.proofs.again.settle.Goals as goal

pub decide-decided-requires : goal.decide-decided-requires
decide-decided-requires c = record { nodes = knows_each (limiters (meaning c.args.shard.now.policies)) }

pub returns-then-is_nothing-clause-settled : goal.returns-then-is_nothing-clause-settled
returns-then-is_nothing-clause-settled c =
    let none = none_of c.decide-decided.result (sym c.is_nothing.ensures ∙ c.if-is_nothing.true) in
    settles c.args.shard.now c.decide-decided.new.self (c.decide-decided.ensures.unchanged none).0 (c.decide-decided.ensures.all_dealt none) (c.decide-decided.ensures.answered none)

pub returns-then-is_nothing-clause-none_due : goal.returns-then-is_nothing-clause-none_due
returns-then-is_nothing-clause-none_due c = c.decide-decided.ensures.nothing (none_of c.decide-decided.result (sym c.is_nothing.ensures ∙ c.if-is_nothing.true))
