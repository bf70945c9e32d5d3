use Rattle.std.proofs.Common.{◌∙◌, ◌≢◌}
use Rattle.std.specs.Prelude.{slice_index}
use Rattle.otlp_reading.proofs.NumberTexts.{i64_any}
use Rattle.otlp_reading.proofs.kinds.i64_text.Goals as goal

pub returns-else-first_byte-eq43 : goal.returns-else-first_byte-eq43
returns-else-first_byte-eq43 c =
    let plus : slice_index c.args.text.now 0 ≢ 43 = λ e. c.if-first_byte-eq43.false (c.first_byte.ensures ∙ e) in
    c.ok.ensures.value ∙ i64_any c.args.text.now c.parse.result c.parse.ensures.value.0 plus
