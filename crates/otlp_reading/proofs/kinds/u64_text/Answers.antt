use Rattle.std.proofs.Common.{◌≡◌, ◌∙◌, ◌≢◌, sym, ap}
use Rattle.std.specs.Prelude.{slice_index}
use Rattle.otlp_reading.specs.Zero.{zero_only}
use Rattle.otlp_reading.proofs.NumberTexts.{u64_plain, u64_minus}
use Rattle.otlp_reading.proofs.kinds.u64_text.Goals as goal

pub returns-then-first-eq45 : goal.returns-then-first-eq45
returns-then-first-eq45 c =
    let minus : slice_index c.args.text.now 0 ≡ 45 = sym c.first_byte-first.ensures ∙ c.if-first-eq45.true in
    c.zero_only.ensures ∙ ap zero_only c.i64_text.ensures ∙ u64_minus c.args.text.now minus

pub returns-else-first-eq45 : goal.returns-else-first-eq45
returns-else-first-eq45 c =
    let plus : slice_index c.args.text.now 0 ≢ 43 = λ e. c.if-first-eq43.false (c.first_byte-first.ensures ∙ e) in
    let minus : slice_index c.args.text.now 0 ≢ 45 = λ e. c.if-first-eq45.false (c.first_byte-first.ensures ∙ e) in
    c.ok.ensures.value ∙ u64_plain c.args.text.now c.parse.result c.parse.ensures.value.0 plus minus
