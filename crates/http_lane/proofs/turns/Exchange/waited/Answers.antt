use Rattle.std.proofs.Common.{◌≡◌, ◌+◌, ◌∙◌, refl, subst, sym, [], false}
use Rattle.std.specs.Prelude.{MatchBool}
use Rattle.http_lane.specs.declared.answer.TheConstants.{REQUEST_LIMIT}
use Rattle.http_lane.specs.Turns.{idle_end, IsLate}
use Rattle.http_lane.specs.Connection.{IsLapse}
use Rattle.http_lane.proofs.turns.Exchange.waited.Goals as goal

pub returns : goal.returns
returns g c = record {
  turn = λ allowed w at since.
      let end = c.lapse.result in
      let within = sym (c.is_between.ensures allowed w at) ∙ c.if-is_between.false in
      let lapsed = c.lapse.ensures w.reading (c.encoding.ensures allowed w at) in
      let late : IsLate w.reading w.since c.args.moment lapsed.0 end = subst (λ n. IsLapse w.reading (n + REQUEST_LIMIT) c.args.moment lapsed.0 end) since lapsed.1 in (
        false,
        lapsed.0,
        (refl, refl, subst (λ b. MatchBool b ((lapsed.0 ≡ []) × (end ≡ idle_end w.since c.args.moment false)) (IsLate w.reading w.since c.args.moment lapsed.0 end)) (sym within) late),
        lapsed.2,
        lapsed.3,
        lapsed.4,
        lapsed.5,
      );
}
