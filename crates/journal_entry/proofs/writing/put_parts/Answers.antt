use Rattle.std.proofs.Common.{◌++◌, ◌∙◌, ap, List, ℕ, arith}
use Rattle.journal_entry.proofs.Appended.{parts_put}
use Rattle.journal_entry.proofs.writing.put_parts.Goals as goal

pub returns-clause-ok : goal.returns-clause-ok
returns-clause-ok c =
    c.in_ok-extend_from_slice-2.ensures.items ∙ ap (λ (l : List ℕ). l ++ c.args.item.now) c.in_ok-push.ensures.items
    ∙ parts_put c.args.out.now.items c.loop-decision.out.items c.args.item.now c.args.refused c.args.lost c.args.answers.now c.loop-decision.decision-index c.loop-decision.invariant (omega arith)
