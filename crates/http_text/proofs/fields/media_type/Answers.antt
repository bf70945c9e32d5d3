use Rattle.std.proofs.Common.{◌∙◌, sym, ap}
use Rattle.std.specs.Prelude.{◌==◌}
use Rattle.httparse.specs.Ascii.{semicolon}
use Rattle.httparse.specs.Grammar.{trim_ows}
use Rattle.http_text.proofs.FieldLemmas.{before_some, before_none}
use Rattle.http_text.proofs.fields.media_type.Goals as goal

pub returns-in-Some : goal.returns-in-Some
returns-in-Some c = c.trim_ows.ensures ∙ ap trim_ows (sym (before_some (λ b. b == semicolon) c.args.value.now c.in-Some.at (sym c.in-Some.ensures.value)))

pub returns-in-None : goal.returns-in-None
returns-in-None c = c.trim_ows-in-None.ensures ∙ ap trim_ows (sym (before_none (λ b. b == semicolon) c.args.value.now (sym c.in-None.ensures.value)))
