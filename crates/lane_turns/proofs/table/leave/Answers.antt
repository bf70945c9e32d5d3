use Rattle.std.proofs.Common.{◌≡◌, ◌∙◌, false, [], ◌∷◌, Some, refl, sym, ap}
use Rattle.std.specs.Prelude.{if◌then◌else◌}
use Rattle.slab.specs.Slab.{get}
use Rattle.http_lane.specs.Connection.{is_between}
use Rattle.http_lane.specs.declared.answer.ServeEnd.TheVariants.{Closed, Cut, ReadFault, WriteFault}
use Rattle.http_lane.specs.Turns.{waiting, turned, over, read_failed, write_failed}
use Rattle.lane_turns.specs.Acts.{lane_now, had}
use Rattle.lane_turns.specs.Driven.{coming_of}
use Rattle.lane_turns.proofs.Runs.{fits_turn}
use Rattle.lane_turns.proofs.Told.{has_turn}
use Rattle.lane_turns.proofs.Uncounted.{over_full}
use Rattle.lane_turns.proofs.table.leave.Goals as goal

pub returns-in-Over-clause-fits : goal.returns-in-Over-clause-fits
returns-in-Over-clause-fits g c = λ allowed number first acts f.
    let x = c.remove-exchange.result in
    let at = c.remove-exchange.ensures.value in
    let o = f.each c.args.key x at in
    let next = waiting o.waiting.reading o.waiting.since (Some (if is_between o.waiting.reading then Closed else Cut)) in
    let gone = c.remove-exchange.ensures.updates.changed in (
      had x.conn.key.ordinal x.conn.next x.conn.next (turned over c.args.moment false []) ∷ [],
      fits_turn g.P.Port.takes g.P.Port.refuses allowed number first (get c.args.open.now) (get c.remove-exchange.new.self) acts (lane_now c.args.lane.now (g.C.Counter.counted c.args.counts.now)) c.args.key x at
          c.remove-exchange.ensures.updates.others f over c.args.moment false [] next x.conn c.args.lane.now (g.C.Counter.counted c.args.counts.now) (refl, refl) refl
          (λ y e. absurd (let none = sym gone ∙ e in cc)) (λ e. absurd cc),
      over_full c.over.result (is_between o.waiting.reading) (c.over.ensures allowed o.waiting o.awaits),
      (
        (
          x,
          at,
          tt,
          has_turn allowed acts x c.args.moment (λ coming. coming ≡ coming_of c.args.how) (λ text. text ≡ []) (Some c.over.result) o.waiting over false [] next x.conn.next []
              o.run o.goes_on (refl, refl) (sym (ap coming_of c.in-Over.is)) (sym (ap Some (c.over.ensures allowed o.waiting o.awaits))) refl refl,
          (gone, c.remove-exchange.ensures.updates.others),
        ),
        λ n. refl,
      ),
    )

pub returns-in-ReadFailed-clause-fits : goal.returns-in-ReadFailed-clause-fits
returns-in-ReadFailed-clause-fits g c = λ allowed number first acts f.
    let x = c.remove-exchange.result in
    let at = c.remove-exchange.ensures.value in
    let o = f.each c.args.key x at in
    let next = waiting o.waiting.reading o.waiting.since (Some (ReadFault)) in
    let gone = c.remove-exchange.ensures.updates.changed in (
      had x.conn.key.ordinal x.conn.next x.conn.next (turned read_failed c.args.moment false []) ∷ [],
      fits_turn g.P.Port.takes g.P.Port.refuses allowed number first (get c.args.open.now) (get c.remove-exchange.new.self) acts (lane_now c.args.lane.now (g.C.Counter.counted c.args.counts.now)) c.args.key x at
          c.remove-exchange.ensures.updates.others f read_failed c.args.moment false [] next x.conn c.args.lane.now (g.C.Counter.counted c.args.counts.now) (refl, refl) refl
          (λ y e. absurd (let none = sym gone ∙ e in cc)) (λ e. absurd cc),
      refl,
      (
        (
          x,
          at,
          tt,
          has_turn allowed acts x c.args.moment (λ coming. coming ≡ coming_of c.args.how) (λ text. text ≡ []) (Some ReadFault) o.waiting read_failed false [] next x.conn.next []
              o.run o.goes_on (refl, refl) (sym (ap coming_of c.in-ReadFailed.is)) refl refl refl,
          (gone, c.remove-exchange.ensures.updates.others),
        ),
        λ n. refl,
      ),
    )

pub returns-clause-fits : goal.returns-clause-fits
returns-clause-fits g c = λ allowed number first acts f.
    let x = c.remove-exchange.result in
    let at = c.remove-exchange.ensures.value in
    let o = f.each c.args.key x at in
    let next = waiting o.waiting.reading o.waiting.since (Some (WriteFault)) in
    let gone = c.remove-exchange.ensures.updates.changed in (
      had x.conn.key.ordinal x.conn.next x.conn.next (turned write_failed c.args.moment false []) ∷ [],
      fits_turn g.P.Port.takes g.P.Port.refuses allowed number first (get c.args.open.now) (get c.remove-exchange.new.self) acts (lane_now c.args.lane.now (g.C.Counter.counted c.args.counts.now)) c.args.key x at
          c.remove-exchange.ensures.updates.others f write_failed c.args.moment false [] next x.conn c.args.lane.now (g.C.Counter.counted c.args.counts.now) (refl, refl) refl
          (λ y e. absurd (let none = sym gone ∙ e in cc)) (λ e. absurd cc),
      refl,
      (
        (
          x,
          at,
          tt,
          has_turn allowed acts x c.args.moment (λ coming. coming ≡ coming_of c.args.how) (λ text. text ≡ []) (Some WriteFault) o.waiting write_failed false [] next x.conn.next []
              o.run o.goes_on (refl, refl) (sym (ap coming_of c.in-WriteFailed.is)) refl refl refl,
          (gone, c.remove-exchange.ensures.updates.others),
        ),
        λ n. refl,
      ),
    )
