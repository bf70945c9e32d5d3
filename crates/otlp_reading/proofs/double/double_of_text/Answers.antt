use Rattle.std.proofs.Common.{rules}
use Rattle.otlp_reading.proofs.Doubles.{nan_is, infinity_is, minus_infinity_is}
use Rattle.otlp_reading.proofs.double.double_of_text.Goals as goal

pub returns-in-NaN : goal.returns-in-NaN
returns-in-NaN c = rw nan_is (search rules)

pub returns-in-Infinity : goal.returns-in-Infinity
returns-in-Infinity c = rw infinity_is (search rules)

pub returns-in-text : goal.returns-in-text
returns-in-text c = rw minus_infinity_is (search rules)
