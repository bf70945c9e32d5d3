use Rattle.std.proofs.Common.{◌≢◌, ◌∙◌, ap}
use Rattle.std.specs.Prelude.{slice_index}
use Rattle.fast_float.specs.Text.{scan}
use Rattle.otlp_stream.proofs.Takes.{natural_read}
use Rattle.otlp_stream.proofs.take.natural.Goals as goal

pub returns-else-first_byte-eq45 : goal.returns-else-first_byte-eq45
returns-else-first_byte-eq45 c =
    let plain : slice_index c.args.text.now 0 ≢ 45 = λ e. c.if-first_byte-eq45.false (c.first_byte.ensures ∙ e) in
    natural_read c.args.text.now c.scan.result c.to_u64.result (c.scan.ensures.parts ∙ ap scan c.as_bytes.ensures.value) plain c.to_u64.ensures
