use Rattle.std.specs.Prelude.{string_bytes}
use Rattle.metrics_text.proofs.Appending.{appended-then}
use Rattle.metrics_text.proofs.ledger.put_ledger.Goals as goal

pub returns : goal.returns
returns c =
    appended-then c.put_single-2.result (string_bytes c.args.text.now) _ (string_bytes c.put_single.new.text) _ (string_bytes c.put_single-2.new.text) c.in_ok-put_single.ensures c.put_single-2.ensures
