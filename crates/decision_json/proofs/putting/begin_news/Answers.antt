use Rattle.std.proofs.Common.{◌≡◌, ◌∙◌, ℕ, List, ap, map, rules, string_bytes, sym, take}
use Rattle.std.proofs.lemmas.List.{take_min}
use Rattle.decision_line.specs.declared.decision.Said.{Said}
use Rattle.decision_json.specs.declared.news.TraceNews.{TraceNews}
use Rattle.decision_json.specs.Putting.{begun}
use Rattle.decision_json.specs.Value.{decided_members, news_members}
use Rattle.decision_json.proofs.Appended.{puts-as}
use Rattle.decision_json.proofs.putting.begin_news.Goals as goal

pub returns-in-Decided-clause-tokens : goal.returns-in-Decided-clause-tokens
returns-in-Decided-clause-tokens c =
    let names = map string_bytes c.args.names.now in
    let said = c.in-Decided.said in
    let asked = c.in-Decided.asked in
    let slice = c.as_slice-said.result.now in
    let whole : slice ≡ said = search rules in
    let kept : take c.min-asked.result slice ≡ take asked said =
    ap (λ (n : ℕ). take n slice) c.min-asked.ensures ∙ take_min asked slice ∙ ap (λ (l : List Said). take asked l) whole in
    puts-as c.begin_decided.result c.args.writer.now c.begin_decided.new.writer _ _
    (ap (λ (l : List Said). begun (decided_members names l c.in-Decided.trace)) kept ∙ ap (λ (n : TraceNews). begun (news_members names n)) (sym c.in-Decided.is))
    c.begin_decided.ensures.tokens
