-- What a lane replied to the requests of one of its connections, whatever it was handed in between.
-- For the clause of `bytes_decide`.
use Rattle.std.specs.Prelude.{if◌then◌else◌}
use Rattle.std.proofs.Common.{◌≡◌, ℕ, ◌==◌, Bool, true, false, List, [], ◌∷◌, ◌++◌, ap, sym, ◌∙◌}
use Rattle.otlp_types.specs.declared.arrival.Item.{Item}
use Rattle.otlp_encoding.specs.declared.encoding.Encoding.{Encoding}
use Rattle.lane_seq.specs.Pushes.{LaneState}
use Rattle.http_lane.specs.declared.answer.EventFate.{EventFate}
use Rattle.http_lane.specs.Connection.{Cause, submitted, ConnectionEvent, Submission, submission, submission_by, submissions, SubmitsAll, is_counted}
use Rattle.http_lane.specs.Intake.{Intake, intake, connected, Submits}
use Rattle.http_lane.specs.Turns.{Turned}
use Rattle.http_lane.proofs.ReplyLemmas.{RepliesSame, RepliesSameAsFar, replies_determined}
use Rattle.lane_turns.specs.Acts.{Act, took, had, LaneNow, lane_now, conn_of, LaneDid}
use Rattle.lane_turns.proofs.Runs.{lane_kept}
use Rattle.connection_laws.specs.Connections.{turns_had, brought_bytes, done_for_bytes}

module _ {P : Type 0} (takes : P → Item → P → Type 0) (refuses : P → P → Type 0) (keeps : Bool) where
  -- each of these was handed to a lane that keeps doubles, or discards them, and replied to so
  abbrev pub AreReplied : List Submission → Type 0
  AreReplied [] = Unit {0}
  AreReplied (s ∷ ss) = ((a : Intake P) × (b : Intake P) × (a.lane.keeps_doubles ≡ keeps) × Submits takes refuses a s b) × AreReplied ss

  -- the bodies of these events were
  abbrev pub EachReplied : List ConnectionEvent → Type 0
  EachReplied [] = Unit {0}
  EachReplied (e ∷ es) = AreReplied (submission_by e.fate e.encoding e.cause) × EachReplied es

  replied : (ss : List Submission) (a b : Intake P) → a.lane.keeps_doubles ≡ keeps → SubmitsAll (Submits takes refuses) a ss b → AreReplied ss
  replied [] a b k h = tt
  replied (s ∷ ss) a b k h = ((a, h.0, k, h.1), replied ss h.0 b (ap (λ (l : LaneState P). l.keeps_doubles) h.1.lane ∙ k) h.2)

  front : (xs ys : List Submission) → AreReplied (xs ++ ys) → AreReplied xs
  front [] ys h = tt
  front (s ∷ xs) ys h = (h.0, front xs ys h.1)

  back : (xs ys : List Submission) → AreReplied (xs ++ ys) → AreReplied ys
  back [] ys h = h
  back (s ∷ xs) ys h = back xs ys h.1

  by_event : (es : List ConnectionEvent) → AreReplied (submissions es) → EachReplied es
  by_event [] h = tt
  by_event (e ∷ es) h =
      let own = submission_by e.fate e.encoding e.cause in
      (front own (submissions es) h, by_event es (back own (submissions es) h))

  both : (es fs : List ConnectionEvent) → EachReplied es → EachReplied fs → EachReplied (es ++ fs)
  both [] fs h g = g
  both (e ∷ es) fs h g = (h.0, both es fs h.1 g)

  for_bytes : (b : Bool) (es : List ConnectionEvent) → EachReplied es → EachReplied (if b then es else [])
  for_bytes true es h = h
  for_bytes false es h = tt

  with_turn : (b : Bool) (t : Turned) (turns : List Turned) → EachReplied t.events → EachReplied (done_for_bytes turns) → EachReplied (done_for_bytes (if b then t ∷ turns else turns))
  with_turn true t turns h g = both (if brought_bytes t.coming then t.events else []) (done_for_bytes turns) (for_bytes (brought_bytes t.coming) t.events h) g
  with_turn false t turns h g = g

  -- the bodies of one connection, from the acts of all
  pub of_lane : (number k : ℕ) (acts : List Act) (old new : LaneNow P) → old.lane.keeps_doubles ≡ keeps → LaneDid (Submits takes refuses) number old acts new → EachReplied (done_for_bytes (turns_had k acts))
  of_lane number k [] old new same d = tt
  of_lane number k (took ordinal moment ∷ acts) old new same d = of_lane number k acts (lane_now (connected old.lane) old.counted) new same d.1
  of_lane number k (had ordinal before after t ∷ acts) old new same d =
      let start = intake old.lane (conn_of number ordinal before) old.counted in
      let then_at = intake d.0.lane (conn_of number ordinal after) d.0.counted in
      let still : d.0.lane.keeps_doubles ≡ old.lane.keeps_doubles = ap (λ (l : LaneState P). l.keeps_doubles) (lane_kept takes refuses (submissions t.events) start then_at d.1) in
      with_turn (ordinal == k) t (turns_had k acts) (by_event t.events (replied (submissions t.events) start then_at same d.1)) (of_lane number k acts d.0 new (still ∙ same) d.2)

module _ {P Q : Type 0} (takes : P → Item → P → Type 0) (refuses : P → P → Type 0) (its_takes : Q → Item → Q → Type 0) (its_refuses : Q → Q → Type 0) (keeps : Bool) where
  one_reply : (fate its_fate : EventFate) (v w : Encoding) (p q : Cause) → AreReplied takes refuses keeps (submission_by fate v p) → AreReplied its_takes its_refuses keeps (submission_by its_fate w q) → v ≡ w → RepliesSame p q
  one_reply fate its_fate v w (submitted x m r k) (submitted y n s l) h g written =
      replies_determined takes refuses its_takes its_refuses h.0.0 h.0.1 (submission v x m r (is_counted fate)) g.0.0 g.0.1 (submission w y n s (is_counted its_fate)) (h.0.2 ∙ sym g.0.2) h.0.3 g.0.3 written
  one_reply fate its_fate v w _ _ h g written = tt

  pub replies_as_far : (es fs : List ConnectionEvent) → EachReplied takes refuses keeps es → EachReplied its_takes its_refuses keeps fs → RepliesSameAsFar es fs
  replies_as_far [] fs h g = tt
  replies_as_far (e ∷ es) [] h g = tt
  replies_as_far (e ∷ es) (f ∷ fs) h g = (one_reply e.fate f.fate e.encoding f.encoding e.cause f.cause h.0 g.0, replies_as_far es fs h.1 g.1)
