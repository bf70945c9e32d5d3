use Rattle.std.proofs.Common.{sym, ◌∙◌}
use Rattle.otlp_json.proofs.Names.{nan_name, negative_name, positive_name}
use Rattle.otlp_json.proofs.writing.double_name.Goals as goal

pub returns-then-is_nan : goal.returns-then-is_nan
returns-then-is_nan c = nan_name c.args.x (sym c.is_nan.ensures.value ∙ c.if-is_nan.true)

pub returns-then-is_sign_negative : goal.returns-then-is_sign_negative
returns-then-is_sign_negative c = negative_name c.args.x c.requires (sym c.is_nan.ensures.value ∙ c.if-is_nan.false) (sym c.is_sign_negative.ensures ∙ c.if-is_sign_negative.true)

pub returns-else-is_sign_negative : goal.returns-else-is_sign_negative
returns-else-is_sign_negative c = positive_name c.args.x c.requires (sym c.is_nan.ensures.value ∙ c.if-is_nan.false) (sym c.is_sign_negative.ensures ∙ c.if-is_sign_negative.false)
