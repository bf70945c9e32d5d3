use Rattle.std.specs.Prelude.{string_bytes}
use Rattle.status_json.proofs.Appending.{three-appended}
use Rattle.status_json.proofs.Written.{spans-told}
use Rattle.status_json.proofs.text.put_spans.Goals as goal

pub returns : goal.returns
returns c =
    three-appended c.write-2.result (string_bytes c.args.text.now) _ _ _ _ (string_bytes c.write.new.self) (string_bytes c.put_dropped.new.text) (string_bytes c.write-2.new.self)
    c.in_ok-write.ensures.bytes c.in_ok-put_dropped.ensures c.write-2.ensures.bytes
    (spans-told c.args.status.now c.number-received.result c.number-handed.result c.number-received.ensures c.number-handed.ensures)
