-- A line of the record, computed.
use Rattle.std.proofs.Common.{codes, refl}
use Rattle.std.specs.Fmt.{digits}
use Rattle.line_entries.specs.RecordLines.{IsCameLine}
use Rattle.line_entries.specs.declared.came.Came.TheVariants as came

-- a tick is no request, and ends with a line feed
tick_of_500 : IsCameLine (came.Tick 500) (codes "tick 500\n")
unfolding digits
tick_of_500 = refl
