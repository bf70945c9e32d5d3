use Rattle.std.proofs.Common.{◌≡◌, ◌∙◌, [], ◌∷◌, ◌++◌, None, refl, sym, ap, subst, append-nil}
use Rattle.slab.specs.Slab.{get}
use Rattle.lane_seq.specs.declared.preparing.Conn.{Conn}
use Rattle.http_lane.specs.declared.turns.Exchange.{Exchange}
use Rattle.http_lane.specs.Intake.{Submits}
use Rattle.lane_turns.specs.Acts.{lane_now, took, Fits}
use Rattle.lane_turns.proofs.Runs.{fits_take}
use Rattle.lane_turns.proofs.table.take.Goals as goal

pub returns-in_default : goal.returns-in_default
returns-in_default g c = record {
  fits = λ allowed number first acts f.
      let same : get c.reserve.new.self ≡ get c.args.open.now = ap get c.reserve.ensures.rest_kept in
      let now = lane_now c.args.lane.now (g.C.Counter.counted c.args.counts.now) in (
        [],
        subst (λ l. Fits (Submits g.P.Port.takes g.P.Port.refuses) allowed number first (get c.reserve.new.self) l now) (sym (append-nil acts))
            (subst (λ o. Fits (Submits g.P.Port.takes g.P.Port.refuses) allowed number first o acts now) (sym same) f),
        refl,
        (refl, λ key. ap (λ o. o key) same),
      );
}

pub returns : goal.returns
returns g c = record {
  fits = λ allowed number first acts f.
      let same : get c.reserve.new.self ≡ get c.args.open.now = ap get c.reserve.ensures.rest_kept in
      let counted = g.C.Counter.counted c.args.counts.now in
      let now = lane_now c.args.lane.now counted in
      let key = c.insert_reserved.result in
      let more = took c.args.lane.now.connected c.args.moment ∷ [] in (
        more,
        subst (λ l. Fits (Submits g.P.Port.takes g.P.Port.refuses) allowed number first (get c.insert_reserved.new.self) (acts ++ more) (lane_now l counted)) (sym c.connect.ensures.counted)
            (fits_take g.P.Port.takes g.P.Port.refuses allowed number first (get c.args.open.now) (get c.insert_reserved.new.self) acts now key (ap (λ o. o key) (sym same) ∙ c.insert_reserved.ensures.was_vacant)
            (λ other ne. c.insert_reserved.ensures.updates.others other ne ∙ ap (λ o. o other) same) f c.args.moment c.new-exchange.result c.insert_reserved.ensures.updates.changed
            (c.new-exchange.ensures ∙ λ i. record { engine = None; conn = c.connect.ensures.conn i; since = c.args.moment })),
        refl,
        (
          c.new-exchange.result,
          ap (λ n. took n c.args.moment ∷ []) (sym (ap (λ (x : Exchange). x.conn.key.ordinal) c.new-exchange.ensures ∙ ap (λ (conn : Conn). conn.key.ordinal) c.connect.ensures.conn)),
          ap (λ o. o key) (sym same) ∙ c.insert_reserved.ensures.was_vacant,
          c.insert_reserved.ensures.updates.changed,
          λ other ne. c.insert_reserved.ensures.updates.others other ne ∙ ap (λ o. o other) same,
        ),
      );
}
