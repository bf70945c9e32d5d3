-- What is served and pushed leaves a lane's ports the ends of the same queues.
-- For the clauses `same_queues` of `serve_next`, `serve_all` and `work`, and of the `serve_all` of `ByTurns`.
use Rattle.std.proofs.Common.{◌≡◌, ℕ, List, [], ◌∷◌, length, Option, Some, None, sym, refl, ap, ◌∙◌, subst, ⊎_elim}
use Rattle.otlp_types.specs.declared.span.Ids.{Ids}
use Rattle.otlp_types.specs.declared.arrival.Arrival.{Arrival}
use Rattle.otlp_types.specs.declared.arrival.Item.{Item}
use Rattle.otlp_types.specs.declared.arrival.Item.TheVariants.{Span}
use Rattle.lane_queue.specs.Ends.{EndState, queues, TakesItem, IsRefused}
use Rattle.lane_queue.proofs.EndLists.{same_queues}
use Rattle.lane_seq.specs.declared.reply.Reply.{Reply}
use Rattle.lane_seq.specs.declared.reply.Reply.TheVariants.{Done, Partial, BadData, Busy}
use Rattle.lane_seq.specs.Replies.{OnReceived, IsRefusal}
use Rattle.lane_seq.specs.Pushes.{LaneState, TakesAt, RefusesAt, PushesOne, PushesAll}
use Rattle.http_lane.specs.Connection.{Submission, SubmitsAll, submissions}
use Rattle.http_lane.specs.Intake.{Intake, intake, connected, Submits}
use Rattle.lane_turns.specs.Acts.{Act, took, had, LaneNow, lane_now, conn_of, LaneDid}

module _ (capacity : ℕ) where
  one : (ids : Option Ids) (item : Item) (old new : List (EndState Item)) (refused : ℕ) → PushesOne (TakesItem capacity) (IsRefused capacity) ids item old refused new → queues new ≡ queues old
  one None item old new refused p = ap queues p.1
  one (Some ids) item old new refused p =
      ⊎_elim (λ (t : (refused ≡ 0) × TakesAt (TakesItem capacity) (IsRefused capacity) _ item old new). let u = t.1 in ap queues u.4 ∙ same_queues old _ u.0 u.1 u.2 (ap (λ (e : EndState Item). e.queue) u.3.1))
      (λ (t : (refused ≡ 1) × RefusesAt (TakesItem capacity) (IsRefused capacity) _ old new). let u = t.1 in ap queues u.4 ∙ same_queues old _ u.0 u.1 u.2 (ap (λ (e : EndState Item). e.queue) u.3.1))
      p

  all : (arrivals : List Arrival) (old new : List (EndState Item)) (refused : ℕ) → PushesAll (TakesItem capacity) (IsRefused capacity) arrivals old refused new → queues new ≡ queues old
  all [] old new refused p = ap queues p.1
  all (a ∷ rest) old new refused p = all rest p.2 new p.1 p.5 ∙ one a.rec.span.ids (Span a) old p.2 p.0 p.4

  by_reply : {F Q : Type 0} (reply : Reply) → OnReceived reply F → (IsRefusal reply → Q) → (F → Q) → Q
  by_reply (Done n) f r k = k f
  by_reply (Partial n i x) f r k = k f
  by_reply (BadData x) f r k = r tt
  by_reply Busy f r k = r tt

  submits : (old new : Intake (EndState Item)) (s : Submission) → Submits (TakesItem capacity) (IsRefused capacity) old s new → queues new.lane.ports ≡ queues old.lane.ports
  submits old new s p = by_reply s.reply p.received (λ r. ap (λ (l : LaneState (EndState Item)). queues l.ports) (p.refused r).0) (λ f. all _ old.lane.ports new.lane.ports f.2.refused f.2.pushed)

  pub kept : (ss : List Submission) (old new : Intake (EndState Item)) → SubmitsAll (Submits (TakesItem capacity) (IsRefused capacity)) old ss new → queues new.lane.ports ≡ queues old.lane.ports
  kept [] old new p = ap (λ (i : Intake (EndState Item)). queues i.lane.ports) p
  kept (s ∷ ss) old new p = kept ss p.0 new p.2 ∙ submits old p.0 s p.1

  -- the turns of many connections
  pub turns_kept : (number : ℕ) (acts : List Act) (old new : LaneNow (EndState Item)) → LaneDid (Submits (TakesItem capacity) (IsRefused capacity)) number old acts new → queues new.lane.ports ≡ queues old.lane.ports
  turns_kept number [] old new d = ap (λ (l : LaneNow (EndState Item)). queues l.lane.ports) d
  turns_kept number (took ordinal moment ∷ acts) old new d = turns_kept number acts (lane_now (connected old.lane) old.counted) new d.1
  turns_kept number (had ordinal before after t ∷ acts) old new d =
      turns_kept number acts d.0 new d.2 ∙ kept (submissions t.events) (intake old.lane (conn_of number ordinal before) old.counted) (intake d.0.lane (conn_of number ordinal after) d.0.counted) d.1
