use Rattle.std.proofs.Common.{◌∙◌, ◌+◌, Bool, List, ◌∷◌, take, refl, subst, arith}
use Rattle.journal_theory.specs.Journal.{answered}
use Rattle.shard_core.specs.Held.{StandsFor}
use Rattle.shard_restore.specs.Restoring.{answered_by}
use Rattle.shard_restore.proofs.TakenAgain.{undecided, one_more, all_settled, on_ok}
use Rattle.shard_restore.proofs.again.decide_again.Goals as goal

pub loop-i-init : goal.loop-i-init
loop-i-init c = (λ e past none stands. undecided c.args.shard.now e past none stands, refl)

pub loop-i-preserved : goal.loop-i-preserved
loop-i-preserved c =
    let answers : List (List Bool) = c.args.answers.now in (
      λ e past none stands. one_more c.decide_by.new.shard e past answers c.loop-i.i c.index-answers-i.result (omega arith) c.index-answers-i.is
          (subst (λ (a : List Bool). StandsFor c.decide_by.new.shard (answered (answered_by e (take c.loop-i.i answers) ∷ past) a) (c.loop-i.i + 1)) c.as_slice.ensures
          (c.in_ok-decide_by.ensures.decided (answered_by e (take c.loop-i.i answers) ∷ past) c.loop-i.i (c.loop-i.invariant.0 e past none stands))),
      c.in_ok-decide_by.ensures.settings ∙ c.loop-i.invariant.1,
    )

pub returns-clause-settled : goal.returns-clause-settled
returns-clause-settled c =
    on_ok c.settle.result
    (λ settled e past none stands. all_settled c.settle.new.shard e past c.args.answers.now c.loop-i.i (omega arith)
    (settled (answered_by e (take c.loop-i.i c.args.answers.now) ∷ past) c.loop-i.i (c.loop-i.invariant.0 e past none stands)))
    c.settle.ensures.settled
