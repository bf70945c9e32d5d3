use Rattle.std.proofs.Common.{map, string_bytes}
use Rattle.decision_json.proofs.Back.{decisions-read-back, on-ok}
use Rattle.decision_json.proofs.text.decisions_text.Goals as goal

pub returns-clause-back : goal.returns-clause-back
returns-clause-back c =
    let range = c.in_ok-put_decisions.ensures.range in
    on-ok c.line_of.result (decisions-read-back c.args.now c.args.remembers (map string_bytes c.args.names.now) c.args.news.now range.0 range.1 range.2)
