use Rattle.std.specs.Prelude.{string_bytes}
use Rattle.std.specs.Fmt.{digits}
use Rattle.metrics_text.proofs.Appending.{appended-then}
use Rattle.metrics_text.proofs.text.put_build.Goals as goal

pub returns : goal.returns
unfolding digits
returns c =
    appended-then c.put_labelled.result (string_bytes c.args.text.now) _ (string_bytes c.put_head.new.text) _ (string_bytes c.put_labelled.new.text) c.in_ok-put_head.ensures c.put_labelled.ensures
