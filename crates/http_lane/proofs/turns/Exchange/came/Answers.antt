use Rattle.std.proofs.Common.{◌∙◌, refl, subst, sym, [], None, Some, inl, inr}
use Rattle.http_lane.specs.declared.answer.ServeEnd.TheVariants.{NoMemory}
use Rattle.http_lane.specs.Intake.{Submits, intake}
use Rattle.http_lane.specs.Connection.{grown, in_head, Settles}
use Rattle.http_lane.specs.Turns.{waiting, came, unkept, since_after, AwaitsBy}
use Rattle.http_lane.specs.Requests.{Awaits}
use Rattle.http_lane.proofs.EventLemmas.{does_none}
use Rattle.http_lane.proofs.TellingLemmas.{tells_none}
use Rattle.http_lane.proofs.TurnLemmas.{between_head, none_between, awaits_packed, still_packed, since_same}
use Rattle.http_lane.proofs.turns.Exchange.came.Goals as goal

pub returns-in_default-clause-turn : goal.returns-in_default-clause-turn
returns-in_default-clause-turn g c = λ w at since. (
  unkept c.args.arrived.piece.now,
  [],
  waiting w.reading w.since (Some NoMemory),
  inr refl,
  (none_between c.args.arrived.allowed Awaits c.args.self.now.engine w.reading at c.in_default.ensures.none, refl, refl),
  refl,
  (λ e. absurd cc),
  does_none (Submits g.ShardPort.Port.takes g.ShardPort.Port.refuses) (g.Writer.Write.contents c.args.writer.now) (intake c.args.lane.now c.args.self.now.conn (g.Ledger.Counter.counted c.args.counts.now)),
  tells_none (g.Time.Clock.heard c.args.lent.now.clock.now) c.args.told.now c.args.self.now.conn.key,
)

pub returns-in-Some-end-clause-turn : goal.returns-in-Some-end-clause-turn
returns-in-Some-end-clause-turn g c = λ w at since.
    let s = c.come-end.ensures w.reading (c.in-Some.ensures.own w.reading at) in (
      came c.args.arrived.piece.now,
      s.0,
      waiting s.1 (since_after w c.args.arrived.moment s.0 s.1) (Some c.in-Some-end.why),
      inl refl,
      (c.requires.piece.0, subst (λ end. Settles (grown w.reading c.args.arrived.piece.now) s.0 end s.1) c.in-Some-end.is s.2, λ e. refl),
      refl,
      (λ e. absurd cc),
      s.4,
      s.6,
    )

pub returns-then-is_between-clause-turn : goal.returns-then-is_between-clause-turn
returns-then-is_between-clause-turn g c = λ w at since.
    let s = c.come-end.ensures w.reading (c.in-Some.ensures.own w.reading at) in
    let awaits = s.3 c.in_default-end.is in
    let packed = still_packed c.args.arrived.allowed w.reading c.args.arrived.piece.now s.0 s.1 (awaits_packed c.args.arrived.allowed Awaits c.args.self.now.engine w.reading at) (subst (λ end. Settles (grown w.reading c.args.arrived.piece.now) s.0 end s.1) c.in_default-end.is s.2) in
    let rests = sym (c.is_between-is_between.ensures s.1 awaits) ∙ c.if-is_between.true in (
      came c.args.arrived.piece.now,
      s.0,
      waiting s.1 (since_after w c.args.arrived.moment s.0 s.1) None,
      inl refl,
      (c.requires.piece.0, subst (λ end. Settles (grown w.reading c.args.arrived.piece.now) s.0 end s.1) c.in_default-end.is s.2, λ e. refl),
      refl,
      (λ e. (
        subst (λ o. AwaitsBy c.args.arrived.allowed Awaits o s.1) (sym c.taken.ensures.left) (between_head c.args.arrived.allowed s.1 rests packed),
        c.since_after-self.ensures ∙ since_same _ _ _ _ _ _ c.args.arrived.moment _ _ (c.is_between-is_between.ensures s.1 awaits) (c.is_between-begins.ensures c.args.arrived.allowed w at) s.5 since,
      )),
      s.4,
      s.6,
    )

pub returns-then-is_between-clause-spare : goal.returns-then-is_between-clause-spare
returns-then-is_between-clause-spare g c =
    let w = c.requires.at.0 in
    let at = c.requires.at.1 in
    let s = c.come-end.ensures w.reading (c.in-Some.ensures.own w.reading at) in
    let awaits = s.3 c.in_default-end.is in
    let packed = still_packed c.args.arrived.allowed w.reading c.args.arrived.piece.now s.0 s.1 (awaits_packed c.args.arrived.allowed Awaits c.args.self.now.engine w.reading at) (subst (λ end. Settles (grown w.reading c.args.arrived.piece.now) s.0 end s.1) c.in_default-end.is s.2) in
    let rests = sym (c.is_between-is_between.ensures s.1 awaits) ∙ c.if-is_between.true in
    c.kept.ensures (in_head c.args.arrived.allowed []) (subst (λ r. Awaits c.come-end.new.engine r) (between_head c.args.arrived.allowed s.1 rests packed) awaits)

pub returns-clause-turn : goal.returns-clause-turn
returns-clause-turn g c = λ w at since.
    let s = c.come-end.ensures w.reading (c.in-Some.ensures.own w.reading at) in
    let awaits = s.3 c.in_default-end.is in
    let packed = still_packed c.args.arrived.allowed w.reading c.args.arrived.piece.now s.0 s.1 (awaits_packed c.args.arrived.allowed Awaits c.args.self.now.engine w.reading at) (subst (λ end. Settles (grown w.reading c.args.arrived.piece.now) s.0 end s.1) c.in_default-end.is s.2) in (
      came c.args.arrived.piece.now,
      s.0,
      waiting s.1 (since_after w c.args.arrived.moment s.0 s.1) None,
      inl refl,
      (c.requires.piece.0, subst (λ end. Settles (grown w.reading c.args.arrived.piece.now) s.0 end s.1) c.in_default-end.is s.2, λ e. refl),
      refl,
      (λ e. (
        (awaits, sym (c.is_between-is_between.ensures s.1 awaits) ∙ c.if-is_between.false, packed),
        c.since_after-self.ensures ∙ since_same _ _ _ _ _ _ c.args.arrived.moment _ _ (c.is_between-is_between.ensures s.1 awaits) (c.is_between-begins.ensures c.args.arrived.allowed w at) s.5 since,
      )),
      s.4,
      s.6,
    )
