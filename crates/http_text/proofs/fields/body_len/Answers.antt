use Rattle.std.proofs.Common.{◌≡◌, sym, arith, get_or, ◌-◌}
use Rattle.std.specs.Char.{is_ascii_digit, digit_value}
use Rattle.std.proofs.lemmas.Bool.Decides.{nat_tests}
use Rattle.std.proofs.lemmas.Int.Digits.{digits_value_more}
use Rattle.http_text.proofs.FieldLemmas.{list_all_more}
use Rattle.http_text.proofs.fields.body_len.Goals as goal

pub loop-digit-preserved : goal.loop-digit-preserved
loop-digit-preserved c =
    let i = c.loop-digit.digit-index in
    let text = c.args.text.now in
    let digit : digit_value (get_or text i 0) ≡ get_or text i 0 - 48 = grind (arith, nat_tests) in
    let more = digits_value_more 10 text i c.loop-digit-test.true in
    (omega (arith, more, digit, c.min-len.ensures, c.loop-digit.invariant.0), list_all_more is_ascii_digit text i 0 c.loop-digit-test.true c.loop-digit.invariant.1 (sym c.if-not-is_ascii_digit.ensures.value))
