use Rattle.std.proofs.Common.{◌∙◌}
use Rattle.std.specs.Prelude.{decimal, string_bytes}
use Rattle.status_json.specs.Text.{export_of, history_of, spans_of}
use Rattle.status_json.proofs.Appending.{seven-appended}
use Rattle.status_json.proofs.Written.{status-of-texts}
use Rattle.status_json.proofs.text.status_text.Goals as goal

pub returns : goal.returns
returns c =
    let status = c.args.status.now in
    seven-appended (string_bytes c.new-text.result) _ _ _ _ _ _ _ (string_bytes c.write.new.self) (string_bytes c.put_spans.new.text) (string_bytes c.write-2.new.self) (string_bytes c.put_export.new.text)
    (string_bytes c.write-3.new.self) (string_bytes c.put_history.new.text) (string_bytes c.write-4.new.self) c.new-text.ensures.bytes c.in_ok-write.ensures.bytes c.in_ok-put_spans.ensures c.in_ok-write-2.ensures.bytes
    c.in_ok-put_export.ensures c.in_ok-write-3.ensures.bytes c.in_ok-put_history.ensures c.in_ok-write-4.ensures.bytes
    ∙ status-of-texts (decimal status.now) (spans_of status) (export_of status.backlog) (history_of c.args.rows.now)
