use Rattle.std.specs.Prelude.{decimal, map, string_bytes}
use Rattle.status_json.specs.declared.due.TheConstants.{HISTORY_PACE}
use Rattle.status_json.specs.Json.{joined}
use Rattle.status_json.specs.Text.{row_of}
use Rattle.status_json.proofs.Appending.{three-appended}
use Rattle.status_json.proofs.Written.{history-of-texts}
use Rattle.status_json.proofs.text.put_history.Goals as goal

pub returns : goal.returns
returns c =
    three-appended c.write-2.result (string_bytes c.args.text.now) _ _ _ _ (string_bytes c.write.new.self) (string_bytes c.put_rows.new.text) (string_bytes c.write-2.new.self)
    c.in_ok-write.ensures.bytes c.in_ok-put_rows.ensures c.write-2.ensures.bytes
    (history-of-texts (decimal HISTORY_PACE) (joined (map row_of c.args.rows.now)))
