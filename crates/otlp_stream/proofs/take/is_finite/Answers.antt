use Rattle.std.proofs.Common.{◌∙◌, ap, sym}
use Rattle.std.specs.Float.{float_is_finite}
use Rattle.otlp_stream.proofs.Takes.{taken_from}
use Rattle.otlp_stream.proofs.take.is_finite.Goals as goal

pub returns : goal.returns
returns c = λ t. taken_from c.args.negative c.args.numeral.now (ap float_is_finite (sym c.to_float.ensures) ∙ sym c.is_finite.ensures.value ∙ t)
