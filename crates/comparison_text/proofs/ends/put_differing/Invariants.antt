use Rattle.std.proofs.Common.{map, string_bytes}
use Rattle.comparison_text.specs.Value.{differing_value}
use Rattle.comparison_text.proofs.InOrder.{AreWritten}
use Rattle.comparison_text.proofs.ends.put_differing.Given as goal

-- those so far are written
abbrev pub invariant-loop-trace : goal.invariant-loop-trace
invariant-loop-trace l = AreWritten (differing_value (map string_bytes l.old) (map string_bytes l.new)) l.found l.initial.out l.out l.trace-index
