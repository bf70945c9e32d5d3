use Rattle.std.proofs.Common.{None}
use Rattle.otlp_reading.specs.Reading.{double_of, kept_double}
use Rattle.otlp_stream.proofs.Sieving.{held_map, held_any}
use Rattle.otlp_stream.proofs.take.held_double.Goals as goal

pub returns-in_ok-double : goal.returns-in_ok-double
returns-in_ok-double c depth = rw (c.if-keeps_doubles.true, c.kept_double.ensures) (held_map double_of kept_double depth _ _ _ (c.in_ok-double.ensures depth))

pub returns-in_ok-discarded_double : goal.returns-in_ok-discarded_double
returns-in_ok-discarded_double c depth =
    let d = c.in_ok-discarded_double.ensures depth in
    rw c.if-keeps_doubles.false (held_any None depth _ _ d.0 d.1 d.2)
