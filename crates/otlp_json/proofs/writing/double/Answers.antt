use Rattle.std.proofs.Common.{sym, ap, ◌∙◌}
use Rattle.std.specs.Float.{float_is_finite}
use Rattle.otlp_json.proofs.Names.{finite_tokens}
use Rattle.otlp_json.proofs.writing.double.Goals as goal

pub returns-then-is_finite-clause-data : goal.returns-then-is_finite-clause-data
returns-then-is_finite-clause-data c =
    rw (finite_tokens c.args.x.now (sym (c.is_finite.ensures.value ∙ ap float_is_finite c.get-value.ensures.value) ∙ c.if-is_finite.true)) c.number.ensures.data
