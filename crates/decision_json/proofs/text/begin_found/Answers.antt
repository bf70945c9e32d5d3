use Rattle.std.proofs.Common.{Bor, ap, map, string_bytes, sym}
use Rattle.std.specs.Prelude.{Option, option_copied}
use Rattle.decision_json.specs.declared.news.TraceNews.{TraceNews}
use Rattle.decision_json.specs.Putting.{begun}
use Rattle.decision_json.specs.Value.{found_members}
use Rattle.decision_json.proofs.Appended.{puts-as, puts-then}
use Rattle.decision_json.proofs.text.begin_found.Goals as goal

pub returns-clause-tokens : goal.returns-clause-tokens
returns-clause-tokens c =
    let last = c.put_text.result in
    let new = c.put_text.new.writer in
    let names = map string_bytes c.args.names.now in
    puts-as last c.args.writer.now new _ _ (ap (λ (f : Option (Bor TraceNews)). begun (found_members names c.args.id.now (option_copied f))) (sym c.in_default.is))
    (puts-then last c.args.writer.now c.begin_trace.new.writer new _ _ c.in_ok-begin_trace.ensures.all.0 c.in_ok-begin_trace.ensures.all.1
    c.put_text.ensures)
