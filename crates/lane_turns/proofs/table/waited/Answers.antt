use Rattle.std.proofs.Common.{◌≡◌, ◌∙◌, List, [], ◌∷◌, ◌++◌, Some, None, refl, sym, ap, subst}
use Rattle.std.specs.Io.KnownBytes.{Appends}
use Rattle.slab.specs.Slab.{get}
use Rattle.http_lane.specs.Connection.{Submission, SubmitsAll}
use Rattle.http_lane.specs.Telling.{taken_of}
use Rattle.http_lane.specs.Intake.{Submits, intake}
use Rattle.http_lane.specs.declared.turns.Exchange.{Exchange}
use Rattle.http_lane.specs.Turns.{waiting, turned, nothing}
use Rattle.lane_turns.specs.Acts.{lane_now, had, conn_of, is_full_end}
use Rattle.lane_turns.proofs.Runs.{Left, fits_turn, one_of}
use Rattle.lane_turns.proofs.Told.{has_turn}
use Rattle.lane_turns.proofs.Uncounted.{one_full, turn_full}
use Rattle.lane_turns.proofs.table.waited.Goals as goal

pub returns-in-Some-clause-fits : goal.returns-in-Some-clause-fits
returns-in-Some-clause-fits g c = λ allowed number first acts f.
    let x = c.remove-exchange.result in
    let at = c.remove-exchange.ensures.value in
    let o = f.each c.args.key x at in
    let t = c.waited-end.ensures.turn allowed o.waiting o.awaits o.since in
    let now = intake c.args.lane.now x.conn (g.Ledger.Counter.counted c.args.counts.now) in
    let next = waiting o.waiting.reading o.waiting.since c.waited-end.result in
    let still = subst (λ ss. SubmitsAll (Submits g.ShardPort.Port.takes g.ShardPort.Port.refuses) now ss now) (sym t.6) refl in
    let gone = c.remove-exchange.ensures.updates.changed in (
      had x.conn.key.ordinal x.conn.next x.conn.next (turned nothing c.args.moment t.0 t.1) ∷ [],
      fits_turn g.ShardPort.Port.takes g.ShardPort.Port.refuses allowed number first (get c.args.open.now) (get c.remove-exchange.new.self) acts (lane_now c.args.lane.now (g.Ledger.Counter.counted c.args.counts.now)) c.args.key x at
          c.remove-exchange.ensures.updates.others f nothing c.args.moment t.0 t.1 next x.conn c.args.lane.now (g.Ledger.Counter.counted c.args.counts.now) t.2 still
          (λ y e. absurd (let none = sym gone ∙ e in cc)) (λ e. absurd (let some = sym e ∙ c.in-Some.is in cc)),
      one_full (had x.conn.key.ordinal x.conn.next x.conn.next (turned nothing c.args.moment t.0 t.1)) _ (turn_full nothing o.waiting c.args.moment t.0 t.1 next t.2 ∙ ap is_full_end c.in-Some.is),
      (
        (
          x,
          at,
          tt,
          has_turn allowed acts x c.args.moment (λ coming. coming ≡ nothing) (Appends (g.Writer.Write.contents c.args.writer.now) (g.Writer.Write.contents c.waited-end.new.writer)) (Some c.in-Some.why) o.waiting nothing t.0 t.1 next x.conn.next t.3
              o.run o.goes_on t.2 refl c.in-Some.is t.5 t.4,
          (gone, c.remove-exchange.ensures.updates.others),
        ),
        λ n. ap (λ (ss : List Submission). taken_of (conn_of n x.conn.key.ordinal x.conn.next).key ss ++ []) t.6,
      ),
    )

pub returns-clause-fits : goal.returns-clause-fits
returns-clause-fits g c = λ allowed number first acts f.
    let x = c.remove-exchange.result in
    let at = c.remove-exchange.ensures.value in
    let o = f.each c.args.key x at in
    let t = c.waited-end.ensures.turn allowed o.waiting o.awaits o.since in
    let now = intake c.args.lane.now x.conn (g.Ledger.Counter.counted c.args.counts.now) in
    let next = waiting o.waiting.reading o.waiting.since c.waited-end.result in
    let still = subst (λ ss. SubmitsAll (Submits g.ShardPort.Port.takes g.ShardPort.Port.refuses) now ss now) (sym t.6) refl in
    let place : c.insert_reserved.result ≡ c.args.key = c.insert_reserved.ensures.key ∙ c.remove-exchange.ensures.key_is_next in
    let here : get c.insert_reserved.new.self c.args.key ≡ Some x = subst (λ k. get c.insert_reserved.new.self k ≡ Some x) place c.insert_reserved.ensures.updates.changed in (
      had x.conn.key.ordinal x.conn.next x.conn.next (turned nothing c.args.moment t.0 t.1) ∷ [],
      fits_turn g.ShardPort.Port.takes g.ShardPort.Port.refuses allowed number first (get c.args.open.now) (get c.insert_reserved.new.self) acts (lane_now c.args.lane.now (g.Ledger.Counter.counted c.args.counts.now)) c.args.key x at
          (λ other ne. c.insert_reserved.ensures.updates.others other (λ e. ne (e ∙ place)) ∙ c.remove-exchange.ensures.updates.others other ne)
          f nothing c.args.moment t.0 t.1 next x.conn c.args.lane.now (g.Ledger.Counter.counted c.args.counts.now) t.2 still
          (λ y e. subst (λ (z : Exchange). Left allowed x.conn next z) (let both = sym here ∙ e in one_of both) (record { conn_is = refl; goes_on = c.in_default.is; awaits = o.awaits; since = o.since }))
          (λ e. (x, here)),
      one_full (had x.conn.key.ordinal x.conn.next x.conn.next (turned nothing c.args.moment t.0 t.1)) _ (turn_full nothing o.waiting c.args.moment t.0 t.1 next t.2 ∙ ap is_full_end c.in_default.is),
      (
        (
          x,
          at,
          tt,
          has_turn allowed acts x c.args.moment (λ coming. coming ≡ nothing) (Appends (g.Writer.Write.contents c.args.writer.now) (g.Writer.Write.contents c.waited-end.new.writer)) None o.waiting nothing t.0 t.1 next x.conn.next t.3
              o.run o.goes_on t.2 refl c.in_default.is t.5 t.4,
          (
            (x, here, refl),
            λ other ne. c.insert_reserved.ensures.updates.others other (λ e. ne (e ∙ place)) ∙ c.remove-exchange.ensures.updates.others other ne,
          ),
        ),
        λ n. ap (λ (ss : List Submission). taken_of (conn_of n x.conn.key.ordinal x.conn.next).key ss ++ []) t.6,
      ),
    )
