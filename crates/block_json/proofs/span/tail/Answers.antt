use Rattle.std.proofs.Common.{ℕ, List, Option, codes, ap, ◌∙◌, subst}
use Rattle.hex.specs.Hex.{encode_lower}
use Rattle.serde_json.specs.Data.{Data}
use Rattle.otlp_json.specs.Tokens.{field_tokens}
use Rattle.otlp_json.specs.Writing.{text_field, u64_field}
use Rattle.block_json.proofs.Found.{trace_is, span_is, parent_is}
use Rattle.block_json.proofs.span.tail.Goals as goal

pub returns : goal.returns
returns g c s p =
    let h = g.met.S.TokenSink.composes in
    let hex_field : List ℕ → Option Data = λ b. text_field (encode_lower b) in
    let N : List ℕ → Type 0 = λ t. g.S.TokenSink.adds c.links.new.out c.text.new.out (field_tokens (codes "name") (text_field t)) in
    let P : Option Data → Type 0 = λ o. g.S.TokenSink.adds c.text.new.out c.hex.new.out (field_tokens (codes "parentSpanId") o) in
    let S : Option Data → Type 0 = λ o. g.S.TokenSink.adds c.hex.new.out c.hex-2.new.out (field_tokens (codes "spanId") o) in
    let B : ℕ → Type 0 = λ n. g.S.TokenSink.adds c.hex-2.new.out c.time.new.out (field_tokens (codes "startTimeUnixNano") (u64_field n)) in
    let T : Option Data → Type 0 = λ o. g.S.TokenSink.adds c.status.new.out c.hex-3.new.out (field_tokens (codes "traceId") o) in
    let U : List ℕ → Type 0 = λ t. g.S.TokenSink.adds c.hex-3.new.out c.text-2.new.out (field_tokens (codes "traceState") (text_field t)) in
    h.then _ _ _ _ _ (c.links.ensures s.links p.links) (h.then _ _ _ _ _ (subst N p.name c.text.ensures) (h.then _ _ _ _ _ (subst P (ap hex_field p.parent_id ∙ parent_is s.ids p.ids) c.hex.ensures) (h.then _ _ _ _ _ (subst S (ap hex_field p.span_id ∙ span_is s.ids p.ids) c.hex-2.ensures) (h.then _ _ _ _ _ (subst B p.start c.time.ensures) (h.then _ _ _ _ _ (c.status.ensures s.status (record { written = p.status; holds = p.holds.parts.status })) (h.then _ _ _ _ _ (subst T (ap hex_field p.trace_id ∙ trace_is s.ids p.ids) c.hex-3.ensures) (subst U p.trace_state c.text-2.ensures)))))))
