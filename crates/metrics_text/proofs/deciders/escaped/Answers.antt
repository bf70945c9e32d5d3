use Rattle.metrics_text.specs.Deciders.{escaped_byte}
use Rattle.metrics_text.proofs.Appending.{items-next}
use Rattle.metrics_text.proofs.deciders.escaped.Goals as goal

pub loop-byte-preserved : goal.loop-byte-preserved
loop-byte-preserved c =
    items-next escaped_byte c.args.text.now 0 c.loop-byte.bytes.items c.put_escaped.new.bytes.items _ c.loop-byte.byte-index c.loop-byte-test.true c.loop-byte.invariant c.in_ok-put_escaped.ensures
