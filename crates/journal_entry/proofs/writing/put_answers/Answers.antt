use Rattle.std.proofs.Common.{◌∙◌, arith}
use Rattle.journal_entry.proofs.Appended.{answers_put}
use Rattle.journal_entry.proofs.writing.put_answers.Goals as goal

pub returns-clause-ok : goal.returns-clause-ok
returns-clause-ok c = c.in_ok-push-2.ensures.items ∙ answers_put c.args.out.now.items c.loop-granted.out.items c.args.answers.now c.loop-granted.granted-index c.loop-granted.invariant (omega arith)
