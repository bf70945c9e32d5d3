use Rattle.std.proofs.Common.{◌≡◌, [], sym, subst, IfOk, codes}
use Rattle.std.specs.Prelude.{string_bytes}
use Rattle.http_answer.specs.Answer.{joined_text, head_text, row_naming}
use Rattle.http_answer.proofs.texts.head_text.Goals as goal

pub returns-in-Json : goal.returns-in-Json
returns-in-Json c = λ body e.
    subst (λ w. IfOk c.json_head.result (λ text. string_bytes text ≡ head_text (row_naming c.args.accept.now w c.args.status c.args.reason.now body) c.args.closes)) (sym c.in-Json.is)
    (subst (λ l. IfOk c.json_head.result (λ text. string_bytes text ≡ l))
    (λ i. joined_text c.args.status c.args.reason.now (codes "application/json") (sym e i) (c.own_field-own.ensures i) (c.optional-close.ensures i) [])
    c.json_head.ensures)

pub returns-in-Protobuf : goal.returns-in-Protobuf
returns-in-Protobuf c = λ body e.
    subst (λ w. IfOk c.protobuf_head.result (λ text. string_bytes text ≡ head_text (row_naming c.args.accept.now w c.args.status c.args.reason.now body) c.args.closes)) (sym c.in-Protobuf.is)
    (subst (λ l. IfOk c.protobuf_head.result (λ text. string_bytes text ≡ l))
    (λ i. joined_text c.args.status c.args.reason.now (codes "application/x-protobuf") (sym e i) (c.own_field-own.ensures i) (c.optional-close.ensures i) [])
    c.protobuf_head.ensures)
