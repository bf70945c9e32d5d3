use Rattle.std.proofs.Common.{◌≡◌, ◌∙◌, refl, subst, sym, [], false}
use Rattle.std.specs.Prelude.{MatchBool}
use Rattle.http_lane.specs.Connection.{quiet_end, IsSlow}
use Rattle.http_lane.proofs.serving.wait.Goals as goal

pub returns : goal.returns
returns g c = λ s stands next.
    let within = sym (c.is_between.ensures s.reading stands) ∙ c.if-is_between.false in
    let lapsed = c.lapse.ensures s.reading (c.encoding.ensures.awaits s.reading stands) in (
      false,
      lapsed.0,
      (refl, next, subst (λ b. MatchBool b ((lapsed.0 ≡ []) × (c.lapse.result ≡ quiet_end c.args.row false)) (IsSlow s.reading c.args.row lapsed.0 c.lapse.result)) (sym within) lapsed.1),
      lapsed.2,
      lapsed.3,
      lapsed.4,
      lapsed.5,
    )
