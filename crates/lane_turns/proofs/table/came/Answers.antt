use Rattle.std.proofs.Common.{ℕ, ◌≡◌, ◌∙◌, [], ◌∷◌, Some, None, false, refl, sym, ap, subst}
use Rattle.slab.specs.Slab.{get}
use Rattle.std.specs.Io.KnownBytes.{Appends}
use Rattle.http_lane.specs.declared.turns.Exchange.{Exchange}
use Rattle.http_lane.specs.Connection.{submissions}
use Rattle.http_lane.specs.Intake.{intake}
use Rattle.lane_turns.specs.Acts.{lane_now, had, conn_of, is_full_end}
use Rattle.http_lane.specs.Turns.{turned, IsTaken}
use Rattle.lane_turns.proofs.Runs.{Left, fits_turn, keys_kept}
use Rattle.lane_turns.proofs.Taken.{tells_act}
use Rattle.lane_turns.proofs.Told.{has_turn}
use Rattle.lane_turns.proofs.Uncounted.{one_full, turn_full}
use Rattle.lane_turns.proofs.table.came.Goals as goal

pub returns-in-Some-clause-fits : goal.returns-in-Some-clause-fits
returns-in-Some-clause-fits g c = λ number first acts f.
    let x = c.remove-exchange.result in
    let at = c.remove-exchange.ensures.value in
    let o = f.each c.args.key x at in
    let t = c.came-end.ensures.turn o.waiting o.awaits o.since in
    let conn = c.came-end.new.self.conn in
    let gone = c.remove-exchange.ensures.updates.changed in
    let act = had x.conn.key.ordinal x.conn.next conn.next (turned t.0 c.args.arrived.moment false t.1) in (
      act ∷ [],
      fits_turn g.ShardPort.Port.takes g.ShardPort.Port.refuses c.args.arrived.allowed number first (get c.args.open.now) (get c.remove-exchange.new.self) acts (lane_now c.args.lane.now (g.Ledger.Counter.counted c.args.counts.now)) c.args.key x at
          c.remove-exchange.ensures.updates.others f t.0 c.args.arrived.moment false t.1 t.2 conn c.came-end.new.lane (g.Ledger.Counter.counted c.came-end.new.counts) t.4 t.7.3
          (λ y e. absurd (let none = sym gone ∙ e in cc))
          (λ e. absurd (let none = sym t.5 ∙ e in let some = c.in-Some.is in cc)),
      one_full act _ (turn_full t.0 o.waiting c.args.arrived.moment false t.1 t.2 t.4 ∙ ap is_full_end (t.5 ∙ c.in-Some.is)),
      (
        (
          x,
          at,
          tt,
          has_turn c.args.arrived.allowed acts x c.args.arrived.moment (IsTaken c.args.arrived.piece.now) (Appends (g.Writer.Write.contents c.args.writer.now) (g.Writer.Write.contents c.came-end.new.writer)) (Some c.in-Some.why) o.waiting t.0 false t.1 t.2 conn.next t.7.0
              o.run o.goes_on t.4 t.3 (t.5 ∙ c.in-Some.is) t.7.2 t.7.1,
          (gone, c.remove-exchange.ensures.updates.others),
        ),
        tells_act (g.Time.Clock.heard c.args.lent.now.clock.now) c.args.told.now c.came-end.new.told c.args.lane.now.number x.conn conn (turned t.0 c.args.arrived.moment false t.1) (subst (λ (n : ℕ). x.conn ≡ conn_of n x.conn.key.ordinal x.conn.next) (sym f.number_is) o.of_lane) t.8,
      ),
    )

pub returns-clause-fits : goal.returns-clause-fits
returns-clause-fits g c = λ number first acts f.
    let x = c.remove-exchange.result in
    let at = c.remove-exchange.ensures.value in
    let o = f.each c.args.key x at in
    let t = c.came-end.ensures.turn o.waiting o.awaits o.since in
    let conn = c.came-end.new.self.conn in
    let left = t.6 c.in_default.is in
    let place : c.insert_reserved.result ≡ c.args.key = c.insert_reserved.ensures.key ∙ c.remove-exchange.ensures.key_is_next in
    let here : get c.insert_reserved.new.self c.args.key ≡ Some c.came-end.new.self = subst (λ k. get c.insert_reserved.new.self k ≡ Some c.came-end.new.self) place c.insert_reserved.ensures.updates.changed in
    let act = had x.conn.key.ordinal x.conn.next conn.next (turned t.0 c.args.arrived.moment false t.1) in (
      act ∷ [],
      fits_turn g.ShardPort.Port.takes g.ShardPort.Port.refuses c.args.arrived.allowed number first (get c.args.open.now) (get c.insert_reserved.new.self) acts (lane_now c.args.lane.now (g.Ledger.Counter.counted c.args.counts.now)) c.args.key x at
          (λ other ne. c.insert_reserved.ensures.updates.others other (λ e. ne (e ∙ place)) ∙ c.remove-exchange.ensures.updates.others other ne)
          f t.0 c.args.arrived.moment false t.1 t.2 conn c.came-end.new.lane (g.Ledger.Counter.counted c.came-end.new.counts) t.4 t.7.3
          (λ y e.
          let same : c.came-end.new.self ≡ y = let both = sym here ∙ e in cc in
          subst (λ (z : Exchange). Left c.args.arrived.allowed conn t.2 z) same
          (record { conn_is = refl; goes_on = t.5 ∙ c.in_default.is; awaits = left.0; since = left.1 }))
          (λ e. (c.came-end.new.self, here)),
      one_full act _ (turn_full t.0 o.waiting c.args.arrived.moment false t.1 t.2 t.4 ∙ ap is_full_end (t.5 ∙ c.in_default.is)),
      (
        (
          x,
          at,
          tt,
          has_turn c.args.arrived.allowed acts x c.args.arrived.moment (IsTaken c.args.arrived.piece.now) (Appends (g.Writer.Write.contents c.args.writer.now) (g.Writer.Write.contents c.came-end.new.writer)) None o.waiting t.0 false t.1 t.2 conn.next t.7.0
              o.run o.goes_on t.4 t.3 (t.5 ∙ c.in_default.is) t.7.2 t.7.1,
          (
            (
              c.came-end.new.self,
              here,
              keys_kept g.ShardPort.Port.takes g.ShardPort.Port.refuses (submissions t.1) (intake c.args.lane.now x.conn (g.Ledger.Counter.counted c.args.counts.now)) (intake c.came-end.new.lane conn (g.Ledger.Counter.counted c.came-end.new.counts)) t.7.3,
            ),
            λ other ne. c.insert_reserved.ensures.updates.others other (λ e. ne (e ∙ place)) ∙ c.remove-exchange.ensures.updates.others other ne,
          ),
        ),
        tells_act (g.Time.Clock.heard c.args.lent.now.clock.now) c.args.told.now c.came-end.new.told c.args.lane.now.number x.conn conn (turned t.0 c.args.arrived.moment false t.1) (subst (λ (n : ℕ). x.conn ≡ conn_of n x.conn.key.ordinal x.conn.next) (sym f.number_is) o.of_lane) t.8,
      ),
    )
