use Rattle.std.proofs.Common.{◌≡◌, ◌≢◌, ◌∙◌, ap, sym, drop, take_all, length-drop, arith}
use Rattle.std.specs.Prelude.{slice_index}
use Rattle.fast_float.specs.Text.{scan}
use Rattle.otlp_stream.proofs.Takes.{taken_negative, taken_plain}
use Rattle.otlp_stream.proofs.take.is_taken.Goals as goal

pub returns-then-first_byte-eq45 : goal.returns-then-first_byte-eq45
returns-then-first_byte-eq45 c = λ t.
    let s = c.as_bytes-bytes.result.now in
    let n = c.is_finite.ensures t in
    let parts : c.scan.result ≡ scan (drop 1 s) = c.scan.ensures.parts ∙ ap scan (take_all _ (drop 1 s) (omega (arith, length-drop 1 s))) in
    (n.0, taken_negative c.args.text.now c.scan.result n.0 (parts ∙ ap (λ x. scan (drop 1 x)) c.as_bytes-bytes.ensures.value) (sym c.first_byte.ensures ∙ c.if-first_byte-eq45.true) n.1)

pub returns-else-first_byte-eq45 : goal.returns-else-first_byte-eq45
returns-else-first_byte-eq45 c = λ t.
    let plain : slice_index c.args.text.now 0 ≢ 45 = λ e. c.if-first_byte-eq45.false (c.first_byte.ensures ∙ e) in
    let n = c.is_finite-else-first_byte-eq45.ensures t in
    (n.0, taken_plain c.args.text.now c.scan-else-first_byte-eq45.result n.0 (c.scan-else-first_byte-eq45.ensures.parts ∙ ap scan c.as_bytes-bytes.ensures.value) plain n.1)
