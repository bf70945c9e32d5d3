use Rattle.std.proofs.Common.{◌∙◌}
use Rattle.ottl_text.proofs.Texts.{text_is, text_is_none}
use Rattle.ottl_text.proofs.literals.in_utf8.Goals as goal

pub returns-in_ok-from_str-in-Ok : goal.returns-in_ok-from_str-in-Ok
returns-in_ok-from_str-in-Ok c = text_is c.args.bytes.now _ (c.in_ok-from_str-in-Ok.ensures ∙ c.in-Ok.ensures.cases.0) c.in-Ok.ensures.cases.1

pub returns-in-Err : goal.returns-in-Err
returns-in-Err c = text_is_none c.args.bytes.now c.in-Err.ensures.cases.0
