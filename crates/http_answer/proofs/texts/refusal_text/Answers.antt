use Rattle.std.proofs.Common.{◌≡◌, true, subst, IfOk}
use Rattle.http_answer.specs.Answer.{answer_text}
use Rattle.http_answer.proofs.texts.refusal_text.Goals as goal

pub returns : goal.returns
returns c = subst (λ r. IfOk c.told_text.result (λ text. text.items ≡ answer_text r true c.args.is_head)) (c.refusal_row-status.ensures c.args.encoding) c.told_text.ensures
