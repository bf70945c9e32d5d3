use Rattle.std.proofs.Common.{ℕ, ℤ, codes, subst}
use Rattle.otlp_json.specs.Tokens.{field_tokens}
use Rattle.otlp_json.specs.Writing.{u32_field, u64_field, enum_field}
use Rattle.block_json.proofs.Found.{signed_again}
use Rattle.block_json.proofs.span.head.Goals as goal

pub returns : goal.returns
returns g c s p =
    let h = g.met.S.TokenSink.composes in
    let T : ℕ → Type 0 = λ n. g.S.TokenSink.adds c.args.out.now c.time.new.out (field_tokens (codes "endTimeUnixNano") (u64_field n)) in
    let F : ℕ → Type 0 = λ n. g.S.TokenSink.adds c.events.new.out c.count.new.out (field_tokens (codes "flags") (u32_field n)) in
    let K : ℤ → Type 0 = λ z. g.S.TokenSink.adds c.count.new.out c.whole.new.out (field_tokens (codes "kind") (enum_field z)) in
    h.then _ _ _ _ _ (subst T p.end c.time.ensures) (h.then _ _ _ _ _ (c.events.ensures s.events p.events) (h.then _ _ _ _ _ (subst F p.flags c.count.ensures) (subst K (signed_again c.args.parts.kind s.kind p.kind p.holds.times.kind) c.whole.ensures)))
