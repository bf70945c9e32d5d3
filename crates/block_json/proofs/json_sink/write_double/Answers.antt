use Rattle.std.proofs.Common.{sym, ap, ◌∙◌}
use Rattle.std.specs.Float.{float_is_finite}
use Rattle.otlp_json.proofs.Names.{finite_tokens}
use Rattle.block_json.proofs.json_sink.write_double.Goals as goal

pub returns-then-is_finite : goal.returns-then-is_finite
returns-then-is_finite c =
    rw (finite_tokens c.args.x.now (sym (c.is_finite.ensures.value ∙ ap float_is_finite c.get-value.ensures.value) ∙ c.if-is_finite.true)) c.write_number.ensures
