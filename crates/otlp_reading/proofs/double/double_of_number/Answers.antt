use Rattle.std.proofs.Common.{◌≡◌, ◌≢◌, ◌∙◌, ap, sym, drop, option_map, take_all, length-drop, arith, ne_eqb, eq-eqb}
use Rattle.std.specs.Prelude.{slice_index, true, false}
use Rattle.fast_float.specs.Text.{scan}
use Rattle.serde_json.specs.Find.{to_float}
use Rattle.serde_json.specs.Read.{number_of, number_from}
use Rattle.otlp_reading.proofs.double.double_of_number.Goals as goal

pub returns-then-first_byte-eq45 : goal.returns-then-first_byte-eq45
unfolding number_of
returns-then-first_byte-eq45 c =
    let s = c.args.text.now in
    let minus : slice_index s 0 ≡ 45 = sym c.first_byte.ensures ∙ c.if-first_byte-eq45.true in
    let parts : c.scan.result ≡ scan (drop 1 s)
    = c.scan.ensures.parts ∙ ap scan (take_all _ (drop 1 c.as_bytes-bytes.result.now) (omega (arith, length-drop 1 c.as_bytes-bytes.result.now))) ∙ ap (λ x. scan (drop 1 x)) c.as_bytes-bytes.ensures.value in
    c.number_double.ensures ∙ ap (λ p. option_map to_float (number_from true p)) parts ∙ rw (eq-eqb _ _ minus)

pub returns-else-first_byte-eq45 : goal.returns-else-first_byte-eq45
unfolding number_of
returns-else-first_byte-eq45 c =
    let s = c.args.text.now in
    let plain : slice_index s 0 ≢ 45 = λ e. c.if-first_byte-eq45.false (c.first_byte.ensures ∙ e) in
    let parts : c.scan-else-first_byte-eq45.result ≡ scan s = c.scan-else-first_byte-eq45.ensures.parts ∙ ap scan c.as_bytes-bytes.ensures.value in
    c.number_double-else-first_byte-eq45.ensures ∙ ap (λ p. option_map to_float (number_from false p)) parts ∙ rw (ne_eqb _ _ plain)
