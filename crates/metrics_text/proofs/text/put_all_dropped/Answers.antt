use Rattle.std.specs.Prelude.{codes, string_bytes}
use Rattle.metrics_text.proofs.Appending.{lines-begin, lines-next}
use Rattle.metrics_text.proofs.text.put_all_dropped.Goals as goal

pub loop-reason-init : goal.loop-reason-init
loop-reason-init c = lines-begin (string_bytes c.args.text.now) _ (string_bytes c.put_head.new.text) _ c.in_ok-put_head.ensures

pub loop-reason-preserved : goal.loop-reason-preserved
loop-reason-preserved c =
    lines-next (codes "tsc_spans_dropped_total") c.args.report.now (string_bytes c.loop-reason.text) (string_bytes c.put_dropped.new.text) _ c.loop-reason.reason-index c.loop-reason-test.true c.loop-reason.invariant c.in_ok-put_dropped.ensures
