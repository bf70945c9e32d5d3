use Rattle.std.specs.Prelude.{string_bytes}
use Rattle.status_json.proofs.Appending.{two-appended}
use Rattle.status_json.proofs.Written.{dropped-told}
use Rattle.status_json.proofs.text.put_dropped.Goals as goal

pub returns : goal.returns
returns c =
    two-appended c.write-2.result (string_bytes c.args.text.now) _ _ _ (string_bytes c.write.new.self) (string_bytes c.write-2.new.self)
    c.in_ok-write.ensures.bytes c.write-2.ensures.bytes
    (dropped-told c.args.report.now c.number-invalid_id.result c.number-queue_full.result c.number-no_memory.result c.number-evicted.result c.number-not_sampled.result c.number-late_not_sampled.result c.number-exporter_down.result
    c.number-invalid_id.ensures c.number-queue_full.ensures c.number-no_memory.ensures c.number-evicted.ensures c.number-not_sampled.ensures c.number-late_not_sampled.ensures c.number-exporter_down.ensures)
