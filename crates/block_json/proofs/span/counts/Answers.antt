use Rattle.std.proofs.Common.{ℕ, codes, subst}
use Rattle.otlp_json.specs.Tokens.{field_tokens}
use Rattle.otlp_json.specs.Writing.{u32_field}
use Rattle.block_json.proofs.span.counts.Goals as goal

pub returns : goal.returns
returns g c s p =
    let h = g.met.S.TokenSink.composes in
    let D : ℕ → Type 0 = λ n. g.S.TokenSink.adds c.pairs.new.out c.count.new.out (field_tokens (codes "droppedAttributesCount") (u32_field n)) in
    let E : ℕ → Type 0 = λ n. g.S.TokenSink.adds c.count.new.out c.count-2.new.out (field_tokens (codes "droppedEventsCount") (u32_field n)) in
    let L : ℕ → Type 0 = λ n. g.S.TokenSink.adds c.count-2.new.out c.count-3.new.out (field_tokens (codes "droppedLinksCount") (u32_field n)) in
    h.then _ _ _ _ _ (c.pairs.ensures s.attributes p.attributes) (h.then _ _ _ _ _ (subst D p.dropped_attributes c.count.ensures) (h.then _ _ _ _ _ (subst E p.dropped_events c.count-2.ensures) (subst L p.dropped_links c.count-3.ensures)))
