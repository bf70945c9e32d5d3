use Rattle.std.proofs.Common.{Bool, List, [], ◌∷◌, refl, subst}
use Rattle.journal_theory.specs.Journal.{Entry}
use Rattle.shard_restore.specs.Restoring.{IsSettled, answered_by}
use Rattle.shard_restore.proofs.TakenAgain.{on_ok}
use Rattle.shard_restore.proofs.again.take_entry.Goals as goal

pub returns-clause-settled : goal.returns-clause-settled
returns-clause-settled c =
    let e : Entry = record { item = c.args.entry.item; refused = c.args.entry.refused; lost = c.args.entry.lost; answers = [] } in
    on_ok c.decide_again.result
    (λ settled past dealt stands. subst (λ (a : List (List Bool)). IsSettled c.decide_again.new.shard (answered_by e a ∷ past)) c.as_slice.ensures
    (settled e past refl (c.in_ok-take_again.ensures.stands past dealt stands)))
    c.decide_again.ensures.settled
