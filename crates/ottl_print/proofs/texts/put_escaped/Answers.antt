use Rattle.std.proofs.Common.{rules, ◌≡◌, ◌++◌, encode_utf8, string_bytes}
use Rattle.std.proofs.lemmas.Str.{IsUtf8-past_char}
use Rattle.ottl_print.specs.Texts.{escaped}
use Rattle.ottl_print.proofs.Escapes.{step}
use Rattle.ottl_print.proofs.texts.put_escaped.Goals as goal

pub loop-letter-preserved : goal.loop-letter-preserved
loop-letter-preserved c =
    let held = c.loop-letter.invariant in
    let parts = c.in-Some.ensures.steps.0 in
    let put : string_bytes c.put_letter.new.text ≡ string_bytes c.loop-letter.text ++ escaped (encode_utf8 c.in-Some.letter) = search rules in (
      IsUtf8-past_char _ _ c.in-Some.letter held.0 parts,
      step _ _ _ _ (encode_utf8 c.in-Some.letter) _ put parts held.1,
    )
