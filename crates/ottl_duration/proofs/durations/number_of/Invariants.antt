use Rattle.std.proofs.Common.{◌≡◌, drop}
use Rattle.ottl_duration.specs.Durations.{number_from}
use Rattle.ottl_duration.proofs.durations.number_of.Given as goal

abbrev pub invariant-loop-digit : goal.invariant-loop-digit
invariant-loop-digit l = number_from l.number (drop l.digit-index l.digits) ≡ number_from 0 l.digits
