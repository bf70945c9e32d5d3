use Rattle.std.specs.Prelude.{string_bytes}
use Rattle.metrics_text.proofs.Appending.{appended-then}
use Rattle.metrics_text.proofs.text.put_spans.Goals as goal

pub returns : goal.returns
returns c =
    appended-then c.put_count-2.result (string_bytes c.args.text.now) _ (string_bytes c.put_count.new.text) _ (string_bytes c.put_count-2.new.text) c.in_ok-put_count.ensures c.put_count-2.ensures
