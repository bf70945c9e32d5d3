use Rattle.std.proofs.Common.{map, string_bytes, subst}
use Rattle.std.specs.Prelude.{Option, option_copied}
use Rattle.decision_line.specs.Line.{ReadsBack}
use Rattle.decision_json.specs.declared.news.TraceNews.{TraceNews}
use Rattle.decision_json.specs.Value.{told_value}
use Rattle.decision_json.proofs.Back.{told-reads-back, on-ok}
use Rattle.decision_json.proofs.text.trace_text.Goals as goal

pub returns-clause-back : goal.returns-clause-back
returns-clause-back c =
    let names = map string_bytes c.args.names.now in
    let found = option_copied c.newest_of.result in
    let range = c.in_ok-put_told.ensures.range in
    on-ok c.line_of.result
    (subst (λ (f : Option TraceNews). ReadsBack (told_value names c.args.id.now f c.args.held)) c.newest_of.ensures (told-reads-back names c.args.id.now found c.args.held range.0 range.1))
