use Rattle.std.specs.Prelude.{string_bytes, ◌++◌}
use Rattle.metrics_text.specs.Families.{build, family_text, uptime}
use Rattle.metrics_text.proofs.Appending.{appended-then}
use Rattle.metrics_text.proofs.text.put_collector.Goals as goal

pub returns : goal.returns
returns c =
    appended-then c.put_build.result (string_bytes c.args.text.now) _ (string_bytes c.put_single.new.text) (family_text (uptime c.args.metrics.now) ++ family_text build) (string_bytes c.put_build.new.text)
    c.in_ok-put_single.ensures
    (appended-then c.put_build.result (string_bytes c.put_single.new.text) _ (string_bytes c.put_single-2.new.text) _ (string_bytes c.put_build.new.text)
    c.in_ok-put_single-2.ensures c.put_build.ensures)
