use Rattle.std.proofs.Common.{take, ◌≡◌, ◌∙◌, [], Some, refl, sym, subst, inl, inr, false}
use Rattle.std.specs.Io.KnownBytes.{Appends}
use Rattle.slab.specs.Slab.{get}
use Rattle.http_lane.specs.Intake.{Submits}
use Rattle.lane_turns.specs.declared.serving.Done.TheVariants.{Nothing, Took}
use Rattle.lane_turns.specs.Acts.{lane_now, is_full_done, is_full_end, TakesNone, TellsActs}
use Rattle.lane_turns.specs.Driven.{AsTold, TurnAt, TakesOne, Dismisses, AnyOne, coming_of}
use Rattle.http_lane.specs.Turns.{IsTaken, nothing}
use Rattle.lane_turns.proofs.Taken.{one_takes_none, tells_nothing}
use Rattle.lane_turns.proofs.Told.{sent, all_of, none_of, nothing_more, goes_by}
use Rattle.lane_turns.proofs.serving.turn.Goals as goal

pub returns-then-not-contains-clause-fits : goal.returns-then-not-contains-clause-fits
returns-then-not-contains-clause-fits g c =
    let old = get c.args.table.now in
    let now = lane_now c.args.lane.now (g.Ledger.Counter.counted c.args.counts.now) in
    nothing_more (Submits g.ShardPort.Port.takes g.ShardPort.Port.refuses) c.args.allowed old now (λ earlier more. AsTold c.args.allowed old old earlier c.args.next c.args.moment c.args.piece.now Nothing c.clear.new.self.items more × TellsActs (g.Time.Clock.heard c.args.lent.now.clock.now) c.args.told.now c.args.told.now c.args.lane.now.number more)
    (λ earlier. (
      subst (λ said. AsTold c.args.allowed old old earlier said c.args.moment c.args.piece.now Nothing c.clear.new.self.items []) (sym c.in-Came.is)
          (inr (none_of (old c.in-Came.key) c.contains.result c.contains.ensures.1 c.if-not-contains.true, (refl, λ key. refl), refl, c.clear.ensures.items)),
      tells_nothing (g.Time.Clock.heard c.args.lent.now.clock.now) c.args.told.now c.args.lane.now.number [] (λ n. refl),
    ))

pub returns-then-not-contains-2-clause-fits : goal.returns-then-not-contains-2-clause-fits
returns-then-not-contains-2-clause-fits g c =
    let old = get c.args.table.now in
    let now = lane_now c.args.lane.now (g.Ledger.Counter.counted c.args.counts.now) in
    nothing_more (Submits g.ShardPort.Port.takes g.ShardPort.Port.refuses) c.args.allowed old now (λ earlier more. AsTold c.args.allowed old old earlier c.args.next c.args.moment c.args.piece.now Nothing c.clear.new.self.items more × TellsActs (g.Time.Clock.heard c.args.lent.now.clock.now) c.args.told.now c.args.told.now c.args.lane.now.number more)
    (λ earlier. (
      subst (λ said. AsTold c.args.allowed old old earlier said c.args.moment c.args.piece.now Nothing c.clear.new.self.items []) (sym c.in-Look.is)
          (inr (none_of (old c.in-Look.key) c.contains-in-Look.result c.contains-in-Look.ensures.1 c.if-not-contains-2.true, (refl, λ key. refl), refl, c.clear.ensures.items)),
      tells_nothing (g.Time.Clock.heard c.args.lent.now.clock.now) c.args.told.now c.args.lane.now.number [] (λ n. refl),
    ))

pub returns-then-not-contains-3-clause-fits : goal.returns-then-not-contains-3-clause-fits
returns-then-not-contains-3-clause-fits g c =
    let old = get c.args.table.now in
    let now = lane_now c.args.lane.now (g.Ledger.Counter.counted c.args.counts.now) in
    nothing_more (Submits g.ShardPort.Port.takes g.ShardPort.Port.refuses) c.args.allowed old now (λ earlier more. AsTold c.args.allowed old old earlier c.args.next c.args.moment c.args.piece.now Nothing c.clear.new.self.items more × TellsActs (g.Time.Clock.heard c.args.lent.now.clock.now) c.args.told.now c.args.told.now c.args.lane.now.number more)
    (λ earlier. (
      subst (λ said. AsTold c.args.allowed old old earlier said c.args.moment c.args.piece.now Nothing c.clear.new.self.items []) (sym c.in-Leave.is)
          (inr (none_of (old c.in-Leave.key) c.contains-in-Leave.result c.contains-in-Leave.ensures.1 c.if-not-contains-3.true, (refl, λ key. refl), refl, c.clear.ensures.items)),
      tells_nothing (g.Time.Clock.heard c.args.lent.now.clock.now) c.args.told.now c.args.lane.now.number [] (λ n. refl),
    ))

pub returns-in-Take-clause-fits : goal.returns-in-Take-clause-fits
returns-in-Take-clause-fits g c =
    let old = get c.args.table.now in
    let new = get c.take.new.open in
    let now = lane_now c.args.lane.now (g.Ledger.Counter.counted c.args.counts.now) in
    goes_by (Submits g.ShardPort.Port.takes g.ShardPort.Port.refuses) c.args.allowed old now new (lane_now c.take.new.lane (g.Ledger.Counter.counted c.args.counts.now)) false false
    (λ earlier. TakesOne old new c.args.moment c.take.result)
    (λ earlier more. AsTold c.args.allowed old new earlier c.args.next c.args.moment c.args.piece.now (Took c.take.result) c.clear.new.self.items more × TellsActs (g.Time.Clock.heard c.args.lent.now.clock.now) c.args.told.now c.args.told.now c.args.lane.now.number more)
    (c.take.ensures.fits c.args.allowed) refl
    (λ earlier more waits h. (
      subst (λ said. AsTold c.args.allowed old new earlier said c.args.moment c.args.piece.now (Took c.take.result) c.clear.new.self.items more) (sym c.in-Take.is)
          (c.take.result, h, refl, c.clear.ensures.items),
      tells_nothing (g.Time.Clock.heard c.args.lent.now.clock.now) c.args.told.now c.args.lane.now.number more (one_takes_none old new c.args.moment c.take.result more h),
    ))

pub returns-else-not-contains-clause-fits : goal.returns-else-not-contains-clause-fits
returns-else-not-contains-clause-fits g c =
    let old = get c.args.table.now in
    let new = get c.came-end.new.open in
    let now = lane_now c.args.lane.now (g.Ledger.Counter.counted c.args.counts.now) in
    goes_by (Submits g.ShardPort.Port.takes g.ShardPort.Port.refuses) c.args.allowed old now new (lane_now c.came-end.new.lane (g.Ledger.Counter.counted c.came-end.new.counts)) (is_full_end c.came-end.result) (is_full_done c.turned.result)
    (λ earlier more. TurnAt c.args.allowed old new c.in-Came.key c.args.moment AnyOne (IsTaken (take c.in-Came.len c.args.piece.now)) (Appends (Some c.clear.new.self.items) (Some c.came-end.new.writer.items)) c.came-end.result earlier more × TellsActs (g.Time.Clock.heard c.args.lent.now.clock.now) c.args.told.now c.came-end.new.told c.args.lane.now.number more)
    (λ earlier more. AsTold c.args.allowed old new earlier c.args.next c.args.moment c.args.piece.now c.turned.result c.came-end.new.writer.items more × TellsActs (g.Time.Clock.heard c.args.lent.now.clock.now) c.args.told.now c.came-end.new.told c.args.lane.now.number more)
    c.came-end.ensures.fits c.turned.ensures.full
    (λ earlier more waits h. (
      subst (λ said. AsTold c.args.allowed old new earlier said c.args.moment c.args.piece.now c.turned.result c.came-end.new.writer.items more) (sym c.in-Came.is)
          (inl (c.came-end.result, sent (Appends (Some c.clear.new.self.items) (Some c.came-end.new.writer.items)) (λ text. c.came-end.new.writer.items ≡ text) (λ text a. all_of c.clear.new.self.items c.came-end.new.writer.items text c.clear.ensures.items a) h.0, c.turned.ensures.tells c.args.allowed waits)),
      h.1,
    ))

pub returns-else-not-contains-2-clause-fits : goal.returns-else-not-contains-2-clause-fits
returns-else-not-contains-2-clause-fits g c =
    let old = get c.args.table.now in
    let new = get c.waited-end.new.open in
    let now = lane_now c.args.lane.now (g.Ledger.Counter.counted c.args.counts.now) in
    goes_by (Submits g.ShardPort.Port.takes g.ShardPort.Port.refuses) c.args.allowed old now new (lane_now c.args.lane.now (g.Ledger.Counter.counted c.args.counts.now)) (is_full_end c.waited-end.result) (is_full_done c.turned-in-Look.result)
    (λ earlier more. TurnAt c.args.allowed old new c.in-Look.key c.args.moment AnyOne (λ coming. coming ≡ nothing) (Appends (Some c.clear.new.self.items) (Some c.waited-end.new.writer.items)) c.waited-end.result earlier more × TakesNone more)
    (λ earlier more. AsTold c.args.allowed old new earlier c.args.next c.args.moment c.args.piece.now c.turned-in-Look.result c.waited-end.new.writer.items more × TellsActs (g.Time.Clock.heard c.args.lent.now.clock.now) c.args.told.now c.args.told.now c.args.lane.now.number more)
    (c.waited-end.ensures.fits c.args.allowed) c.turned-in-Look.ensures.full
    (λ earlier more waits h. (
      subst (λ said. AsTold c.args.allowed old new earlier said c.args.moment c.args.piece.now c.turned-in-Look.result c.waited-end.new.writer.items more) (sym c.in-Look.is)
          (inl (c.waited-end.result, sent (Appends (Some c.clear.new.self.items) (Some c.waited-end.new.writer.items)) (λ text. c.waited-end.new.writer.items ≡ text) (λ text a. all_of c.clear.new.self.items c.waited-end.new.writer.items text c.clear.ensures.items a) h.0, c.turned-in-Look.ensures.tells c.args.allowed waits)),
      tells_nothing (g.Time.Clock.heard c.args.lent.now.clock.now) c.args.told.now c.args.lane.now.number more h.1,
    ))

pub returns-else-not-contains-3-clause-fits : goal.returns-else-not-contains-3-clause-fits
returns-else-not-contains-3-clause-fits g c =
    let old = get c.args.table.now in
    let new = get c.leave-end.new.open in
    let now = lane_now c.args.lane.now (g.Ledger.Counter.counted c.args.counts.now) in
    goes_by (Submits g.ShardPort.Port.takes g.ShardPort.Port.refuses) c.args.allowed old now new (lane_now c.args.lane.now (g.Ledger.Counter.counted c.args.counts.now)) (is_full_end (Some c.leave-end.result)) (is_full_done c.turned-in-Leave.result)
    (λ earlier more. TurnAt c.args.allowed old new c.in-Leave.key c.args.moment AnyOne (λ coming. coming ≡ coming_of c.in-Leave.how) (λ text. text ≡ []) (Some c.leave-end.result) earlier more × TakesNone more)
    (λ earlier more. AsTold c.args.allowed old new earlier c.args.next c.args.moment c.args.piece.now c.turned-in-Leave.result c.clear.new.self.items more × TellsActs (g.Time.Clock.heard c.args.lent.now.clock.now) c.args.told.now c.args.told.now c.args.lane.now.number more)
    (c.leave-end.ensures.fits c.args.allowed) (c.turned-in-Leave.ensures.full)
    (λ earlier more waits h. (
      subst (λ said. AsTold c.args.allowed old new earlier said c.args.moment c.args.piece.now c.turned-in-Leave.result c.clear.new.self.items more) (sym c.in-Leave.is)
          (inl (Some c.leave-end.result, sent (λ text. text ≡ []) (λ text. c.clear.new.self.items ≡ text) (λ text e. c.clear.ensures.items ∙ sym e) h.0, c.turned-in-Leave.ensures.tells c.args.allowed waits)),
      tells_nothing (g.Time.Clock.heard c.args.lent.now.clock.now) c.args.told.now c.args.lane.now.number more h.1,
    ))

pub returns-in-Dismiss-clause-fits : goal.returns-in-Dismiss-clause-fits
returns-in-Dismiss-clause-fits g c =
    let old = get c.args.table.now in
    let new = get c.dismiss-end.new.open in
    let now = lane_now c.args.lane.now (g.Ledger.Counter.counted c.args.counts.now) in
    goes_by (Submits g.ShardPort.Port.takes g.ShardPort.Port.refuses) c.args.allowed old now new (lane_now c.args.lane.now (g.Ledger.Counter.counted c.args.counts.now)) (is_full_end c.dismiss-end.result) (is_full_done c.turned-in-Dismiss.result)
    (λ earlier more. Dismisses c.args.allowed old new c.in-Dismiss.key c.args.moment c.dismiss-end.result earlier more × TakesNone more)
    (λ earlier more. AsTold c.args.allowed old new earlier c.args.next c.args.moment c.args.piece.now c.turned-in-Dismiss.result c.clear.new.self.items more × TellsActs (g.Time.Clock.heard c.args.lent.now.clock.now) c.args.told.now c.args.told.now c.args.lane.now.number more)
    (c.dismiss-end.ensures.fits c.args.allowed) (c.turned-in-Dismiss.ensures.full)
    (λ earlier more waits h. (
      subst (λ said. AsTold c.args.allowed old new earlier said c.args.moment c.args.piece.now c.turned-in-Dismiss.result c.clear.new.self.items more) (sym c.in-Dismiss.is)
          (c.dismiss-end.result, h.0, c.turned-in-Dismiss.ensures.tells c.args.allowed waits, c.clear.ensures.items),
      tells_nothing (g.Time.Clock.heard c.args.lent.now.clock.now) c.args.told.now c.args.lane.now.number more h.1,
    ))
