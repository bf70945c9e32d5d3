use Rattle.std.proofs.Common.{◌≡◌, ◌∙◌, false, [], ◌∷◌, Some, refl, sym, subst, inl, inr, append-nil}
use Rattle.slab.specs.Slab.{get}
use Rattle.http_lane.specs.declared.answer.ServeEnd.TheVariants.{Quiet}
use Rattle.http_lane.specs.Intake.{Submits}
use Rattle.http_lane.specs.Requests.{Awaits}
use Rattle.http_lane.specs.Turns.{waiting, turned, dismissed}
use Rattle.lane_turns.specs.Acts.{lane_now, had, Fits}
use Rattle.lane_turns.proofs.Runs.{fits_turn}
use Rattle.lane_turns.proofs.Told.{has_turn, no_engine, an_engine}
use Rattle.lane_turns.proofs.table.dismiss.Goals as goal

pub returns-then-not-is_idle-clause-fits : goal.returns-then-not-is_idle-clause-fits
returns-then-not-is_idle-clause-fits g c = λ allowed number first acts f.
    let now = lane_now c.args.lane.now (g.C.Counter.counted c.args.counts.now) in (
      [],
      subst (λ l. Fits (Submits g.P.Port.takes g.P.Port.refuses) allowed number first (get c.args.open.now) l now) (sym (append-nil acts)) f,
      refl,
      (
        inr (
          λ x at.
              let o = f.each c.args.key x at in
              an_engine Awaits allowed x.engine o.waiting.reading o.awaits (sym (c.is_idle.ensures.idle x at allowed o.waiting o.awaits) ∙ c.if-not-is_idle.true),
          refl,
          (refl, λ key. refl),
        ),
        λ n. refl,
      ),
    )

pub returns-clause-fits : goal.returns-clause-fits
returns-clause-fits g c = λ allowed number first acts f.
    let x = c.remove.result in
    let at = c.remove.ensures.value in
    let o = f.each c.args.key x at in
    let idle = sym (c.is_idle.ensures.idle x at allowed o.waiting o.awaits) ∙ c.if-not-is_idle.false in
    let next = waiting o.waiting.reading o.waiting.since (Some Quiet) in
    let gone = c.remove.ensures.updates.changed in (
      had x.conn.key.ordinal x.conn.next x.conn.next (turned dismissed c.args.moment false []) ∷ [],
      fits_turn g.P.Port.takes g.P.Port.refuses allowed number first (get c.args.open.now) (get c.remove.new.self) acts (lane_now c.args.lane.now (g.C.Counter.counted c.args.counts.now)) c.args.key x at
          c.remove.ensures.updates.others f dismissed c.args.moment false [] next x.conn c.args.lane.now (g.C.Counter.counted c.args.counts.now) (idle, refl, refl) refl
          (λ y e. absurd (let none = sym gone ∙ e in cc)) (λ e. absurd cc),
      refl,
      (
        inl (
          x,
          at,
          no_engine Awaits allowed x.engine o.waiting.reading o.awaits idle,
          has_turn allowed acts x c.args.moment (λ coming. coming ≡ dismissed) (λ text. text ≡ []) (Some Quiet) o.waiting dismissed false [] next x.conn.next []
              o.run o.goes_on (idle, refl, refl) refl refl refl refl,
          (gone, c.remove.ensures.updates.others),
        ),
        λ n. refl,
      ),
    )
