use Rattle.std.proofs.Common.{◌≡◌, ℕ, List, subst, IfOk, length}
use Rattle.std.specs.Prelude.{string_bytes}
use Rattle.admin_http.specs.Texts.{joined}
use Rattle.admin_http.proofs.texts.page_text.Goals as goal

pub returns : goal.returns
returns c =
    let shown = c.args.shown.now in
    subst (λ (sent : List ℕ). IfOk c.joined.result (λ text. string_bytes text ≡ joined shown.status shown.reason.now shown.media.now (length shown.body.now) c.args.fields.now sent))
    c.sent_of-sent.ensures c.joined.ensures
