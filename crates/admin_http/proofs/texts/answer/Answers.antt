use Rattle.std.proofs.Common.{◌≡◌, subst, IfOk}
use Rattle.std.specs.Prelude.{string_bytes}
use Rattle.admin_http.specs.Texts.{page_text}
use Rattle.admin_http.proofs.texts.answer.Goals as goal

pub returns : goal.returns
returns c =
    subst (λ l. IfOk c.page_text.result (λ text. string_bytes text ≡ l))
    (λ i. page_text (c.page_of-shown.ensures i) (c.own_fields.ensures i) c.args.asked.is_head)
    c.page_text.ensures
