-- A request of an act came on its connection, and its spans are among those that the lane received.
-- For the law `answers_bind`.
use Rattle.std.proofs.Common.{◌≡◌, ℕ, ◌+◌, Bool, List, [], ◌∷◌, ◌++◌, length, refl, sym, ap, subst, ◌∙◌, append-nil, append_assoc}
use Rattle.std.specs.Prelude.{Contains}
use Rattle.std.proofs.lemmas.List.Elements.{Contains-append_left, Contains-append_right}
use Rattle.otlp_request.specs.Reads.{Reads}
use Rattle.otlp_request.proofs.Bodies.{one_request}
use Rattle.otlp_flatten.specs.Flat.{records_of}
use Rattle.otlp_types.specs.declared.request.Request.{Request}
use Rattle.span_ids.specs.declared.keys.ConnKey.{ConnKey}
use Rattle.otlp_types.specs.declared.arrival.Arrival.{Arrival}
use Rattle.lane_queue.specs.Ends.{EndState, TakesItem, IsRefused}
use Rattle.otlp_types.specs.declared.arrival.Item.{Item}
use Rattle.lane_seq.specs.declared.reply.Reply.{Reply}
use Rattle.lane_seq.specs.declared.reply.Reply.TheVariants.{Done, Partial, BadData, Busy}
use Rattle.lane_seq.specs.declared.preparing.Conn.{Conn}
use Rattle.lane_seq.specs.Numbers.{arrivals_from}
use Rattle.lane_seq.specs.Pushes.{LaneState, Receives}
use Rattle.lane_seq.specs.Replies.{IsRefusal, OnReceived}
use Rattle.http_lane.specs.Connection.{Submission, SubmitsAll, submissions}
use Rattle.http_lane.specs.Intake.{Intake, Submits, intake, connected}
use Rattle.http_lane.specs.Turns.{Turned}
use Rattle.lane_turns.specs.Acts.{Act, took, had, conn_of}
use Rattle.lane_worker.specs.Serving.{LaneAt, lane_at}
use Rattle.run_weave.specs.Lanes.{LaneLog, Logs, Came, log}
use Rattle.run_weave.specs.Received.{ActsLog}
use Rattle.answer_laws.proofs.Ports.{Ports, Grew, grew_none, grew_then, pushes_grew}

abbrev SubmitsOne : (capacity : ℕ) → Intake (EndState Item) → Submission → Intake (EndState Item) → Type 0
SubmitsOne capacity = Submits (TakesItem capacity) (IsRefused capacity)

-- ---- what a request leaves as it is

-- its connection is the same one
same_key : (capacity : ℕ) (old : Intake (EndState Item)) (s : Submission) (new : Intake (EndState Item)) → SubmitsOne capacity old s new → new.conn.key ≡ old.conn.key
same_key capacity old s new h = go _ s.reply h.received (λ t. ap (λ (c : Conn). c.key) t.3) (λ f. ap (λ (c : Conn). c.key) (h.refused f).1)
  where
    go : (T : Type 0) → (r : Reply) → OnReceived r T → (T → new.conn.key ≡ old.conn.key) → (IsRefusal r → new.conn.key ≡ old.conn.key) → new.conn.key ≡ old.conn.key
    go T (Done n) f same g = same f
    go T (Partial n i u) f same g = same f
    go T (BadData why) f same g = g tt
    go T Busy f same g = g tt

-- and its lane keeps doubles as before
same_doubles : (capacity : ℕ) (old : Intake (EndState Item)) (s : Submission) (new : Intake (EndState Item)) → SubmitsOne capacity old s new → new.lane.keeps_doubles ≡ old.lane.keeps_doubles
same_doubles capacity old s new h = ap (λ l. l.keeps_doubles) h.lane

all_keep : (capacity : ℕ) (old : LaneLog) (ss : List Submission) (new : LaneLog) → SubmitsAll (Logs capacity) old ss new → new.at.lane.keeps_doubles ≡ old.at.lane.keeps_doubles
all_keep capacity old [] new h = ap (λ (l : LaneLog). l.at.lane.keeps_doubles) h
all_keep capacity old (s ∷ ss) new h = all_keep capacity h.0 ss new h.2 ∙ same_doubles capacity old.at s h.0.at h.1.0

-- ---- what it adds: more was received, and the ports grew by that

pub record Goes (before : List Arrival) (old : Ports) (after : List Arrival) (new : Ports) : Type 0 where
  pub more : List Arrival
  pub received : after ≡ before ++ more
  pub grew : Grew old more new

goes_none : (before : List Arrival) (ports : Ports) → Goes before ports before ports
goes_none before ports = record { more = []; received = sym (append-nil before); grew = grew_none ports }

goes_then : (before mid after : List Arrival) (old between new : Ports) → Goes before old mid between → Goes mid between after new → Goes before old after new
goes_then before mid after old between new f g = record {
  more = f.more ++ g.more;
  received = g.received ∙ (ap (λ (z : List Arrival). z ++ g.more) f.received ∙ append_assoc before f.more g.more);
  grew = grew_then old between new f.more g.more f.grew g.grew;
}

-- the spans of a request that is in its encoding were pushed
abbrev WasTaken : (capacity : ℕ) → Intake (EndState Item) → Submission → Intake (EndState Item) → Type 0
WasTaken capacity old s new = (request : Request) × Reads s.encoding old.lane.keeps_doubles s.body request
    × Receives (TakesItem capacity) (IsRefused capacity) (arrivals_from old.conn.key old.conn.next s.moment (records_of request)) old.lane.ports s.reply new.lane.ports
    × (new.conn ≡ record old.conn { next = old.conn.next + length (arrivals_from old.conn.key old.conn.next s.moment (records_of request)) })

-- of a request that was received
received_grew : (capacity : ℕ) (old : Intake (EndState Item)) (s : Submission) (new : Intake (EndState Item)) (came : List Arrival)
    → (request : Request) × Reads s.encoding old.lane.keeps_doubles s.body request × (came ≡ arrivals_from old.conn.key old.conn.next s.moment (records_of request))
    → WasTaken capacity old s new → Grew old.lane.ports came new.lane.ports
received_grew capacity old s new came c t =
    let same : t.0 ≡ c.0 = one_request s.encoding old.lane.keeps_doubles s.body t.0 c.0 t.1 c.1 in
    subst (λ (xs : List Arrival). Grew old.lane.ports xs new.lane.ports) (ap (λ (r : Request). arrivals_from old.conn.key old.conn.next s.moment (records_of r)) same ∙ sym c.2)
    (pushes_grew capacity (arrivals_from old.conn.key old.conn.next s.moment (records_of t.0)) old.lane.ports t.2.refused new.lane.ports t.2.pushed)

request_grew : (capacity : ℕ) (old : Intake (EndState Item)) (s : Submission) (new : Intake (EndState Item)) (came : List Arrival) → SubmitsOne capacity old s new → Came old s s.reply came → Grew old.lane.ports came new.lane.ports
request_grew capacity old s new came h c = go s.reply h.received c h.refused
  where
    none : (came ≡ []) → (new.lane ≡ old.lane) × (new.conn ≡ old.conn) → Grew old.lane.ports came new.lane.ports
    none e r = subst (λ (xs : List Arrival). Grew old.lane.ports xs new.lane.ports) (sym e) (subst (λ (l : LaneState (EndState Item)). Grew old.lane.ports [] l.ports) (sym r.0) (grew_none old.lane.ports))

    go : (reply : Reply) → OnReceived reply (WasTaken capacity old s new) → Came old s reply came → (IsRefusal reply → (new.lane ≡ old.lane) × (new.conn ≡ old.conn)) → Grew old.lane.ports came new.lane.ports
    go (Done n) f c r = received_grew capacity old s new came c f
    go (Partial n i u) f c r = received_grew capacity old s new came c f
    go (BadData why) f c r = none c (r tt)
    go Busy f c r = none c (r tt)

logs_go : (capacity : ℕ) (old : LaneLog) (s : Submission) (new : LaneLog) → Logs capacity old s new → Goes old.received old.at.lane.ports new.received new.at.lane.ports
logs_go capacity old s new h = record { more = h.1; received = h.3; grew = request_grew capacity old.at s new.at h.1 h.0 h.2 }

all_go : (capacity : ℕ) (old : LaneLog) (ss : List Submission) (new : LaneLog) → SubmitsAll (Logs capacity) old ss new → Goes old.received old.at.lane.ports new.received new.at.lane.ports
all_go capacity old [] new h = subst (λ (l : LaneLog). Goes old.received old.at.lane.ports l.received l.at.lane.ports) (sym h) (goes_none old.received old.at.lane.ports)
all_go capacity old (s ∷ ss) new h = goes_then old.received h.0.received new.received old.at.lane.ports h.0.at.lane.ports new.at.lane.ports (logs_go capacity old s h.0 h.1) (all_go capacity h.0 ss new h.2)

acts_go : (capacity number : ℕ) (old : LaneAt) (before : List Arrival) (acts : List Act) (new : LaneAt) (after : List Arrival) → ActsLog capacity number old before acts new after → Goes before old.lane.ports after new.lane.ports
acts_go capacity number old before [] new after h =
    subst (λ (l : LaneAt). Goes before old.lane.ports after l.lane.ports) (sym h.0) (subst (λ (xs : List Arrival). Goes before old.lane.ports xs old.lane.ports) (sym h.1) (goes_none before old.lane.ports))
acts_go capacity number old before (took ordinal moment ∷ acts) new after h = acts_go capacity number (lane_at (connected old.lane) old.counted) before acts new after h.1
acts_go capacity number old before (had ordinal b n t ∷ acts) new after h =
    goes_then before h.1 after old.lane.ports h.0.lane.ports new.lane.ports
    (all_go capacity (log (intake old.lane (conn_of number ordinal b) old.counted) before) (submissions t.events) (log (intake h.0.lane (conn_of number ordinal n) h.0.counted) h.1) h.2)
    (acts_go capacity number h.0 h.1 acts new after h.3)

-- ---- a request among those of a turn, and among those of all acts

-- A request that was taken on this connection, by a lane that keeps doubles so; what came of it was received, behind
-- what had come and before what came later, and the ports grew by all that.
pub record HasCome (capacity : ℕ) (keeps_doubles : Bool) (key : ConnKey) (s : Submission) (first last : Ports) (received : List Arrival) : Type 0 where
  pub old : Intake (EndState Item)
  pub new : Intake (EndState Item)
  pub taken : Submits (TakesItem capacity) (IsRefused capacity) old s new
  pub came : List Arrival
  pub of_reply : Came old s s.reply came
  pub doubles : old.lane.keeps_doubles ≡ keeps_doubles
  pub key_is : old.conn.key ≡ key
  pub sooner : List Arrival
  pub later : List Arrival
  pub received_is : received ≡ sooner ++ came ++ later
  pub before_it : Grew first sooner old.lane.ports
  pub behind_it : Grew new.lane.ports later last

pub within : (capacity : ℕ) (keeps_doubles : Bool) (key : ConnKey) (s : Submission) (first last : Ports) (received : List Arrival) (h : HasCome capacity keeps_doubles key s first last received) → (a : Arrival) → Contains h.came a → Contains received a
within capacity keeps_doubles key s first last received h a k = subst (λ (xs : List Arrival). Contains xs a) (sym h.received_is) (Contains-append_left (h.sooner ++ h.came) h.later a (Contains-append_right h.sooner h.came a k))

come_among : (capacity : ℕ) (keeps_doubles : Bool) (key : ConnKey) (first : Ports) (old new : LaneLog) (sooner : List Submission) (s : Submission) (rest : List Submission)
    → SubmitsAll (Logs capacity) old (sooner ++ s ∷ rest) new → old.at.lane.keeps_doubles ≡ keeps_doubles → old.at.conn.key ≡ key → Grew first old.received old.at.lane.ports
    → (last : Ports) (received : List Arrival) → Goes new.received new.at.lane.ports received last → HasCome capacity keeps_doubles key s first last received
come_among capacity keeps_doubles key first old new [] s rest h d k g last received later =
    let behind = goes_then h.0.received new.received received h.0.at.lane.ports new.at.lane.ports last (all_go capacity h.0 rest new h.2) later in
    record {
      old = old.at;
      new = h.0.at;
      taken = h.1.0;
      came = h.1.1;
      of_reply = h.1.2;
      doubles = d;
      key_is = k;
      sooner = old.received;
      later = behind.more;
      received_is = behind.received ∙ ap (λ (xs : List Arrival). xs ++ behind.more) h.1.3;
      before_it = g;
      behind_it = behind.grew;
    }
come_among capacity keeps_doubles key first old new (x ∷ sooner) s rest h d k g last received later =
    let one = logs_go capacity old x h.0 h.1 in
    come_among capacity keeps_doubles key first h.0 new sooner s rest h.2 (same_doubles capacity old.at x h.0.at h.1.0 ∙ d) (same_key capacity old.at x h.0.at h.1.0 ∙ k)
    (subst (λ (xs : List Arrival). Grew first xs h.0.at.lane.ports) (sym one.received) (grew_then first old.at.lane.ports h.0.at.lane.ports old.received one.more g one.grew)) last received later

pub come_by : (capacity number : ℕ) (keeps_doubles : Bool) (first : Ports) (old : LaneAt) (before : List Arrival) (new : LaneAt) (after : List Arrival)
    (earlier : List Act) (ordinal b n : ℕ) (t : Turned) (later : List Act) (sooner : List Submission) (s : Submission) (rest : List Submission)
    → ActsLog capacity number old before (earlier ++ had ordinal b n t ∷ later) new after → submissions t.events ≡ sooner ++ s ∷ rest → old.lane.keeps_doubles ≡ keeps_doubles → Grew first before old.lane.ports
    → HasCome capacity keeps_doubles (record { lane = number; ordinal = ordinal }) s first new.lane.ports after
come_by capacity number keeps_doubles first old before new after [] ordinal b n t later sooner s rest h e d g =
    let start = log (intake old.lane (conn_of number ordinal b) old.counted) before in
    let end = log (intake h.0.lane (conn_of number ordinal n) h.0.counted) h.1 in
    let all : SubmitsAll (Logs capacity) start (sooner ++ s ∷ rest) end = subst (λ (ss : List Submission). SubmitsAll (Logs capacity) start ss end) e h.2 in
    come_among capacity keeps_doubles (record { lane = number; ordinal = ordinal }) first start end sooner s rest all d refl g new.lane.ports after (acts_go capacity number h.0 h.1 later new after h.3)
come_by capacity number keeps_doubles first old before new after (took j moment ∷ earlier) ordinal b n t later sooner s rest h e d g =
    come_by capacity number keeps_doubles first (lane_at (connected old.lane) old.counted) before new after earlier ordinal b n t later sooner s rest h.1 e d g
come_by capacity number keeps_doubles first old before new after (had j x y u ∷ earlier) ordinal b n t later sooner s rest h e d g =
    let kept = all_keep capacity (log (intake old.lane (conn_of number j x) old.counted) before) (submissions u.events) (log (intake h.0.lane (conn_of number j y) h.0.counted) h.1) h.2 in
    let went = all_go capacity (log (intake old.lane (conn_of number j x) old.counted) before) (submissions u.events) (log (intake h.0.lane (conn_of number j y) h.0.counted) h.1) h.2 in
    come_by capacity number keeps_doubles first h.0 h.1 new after earlier ordinal b n t later sooner s rest h.3 e (kept ∙ d)
    (subst (λ (xs : List Arrival). Grew first xs h.0.lane.ports) (sym went.received) (grew_then first old.lane.ports h.0.lane.ports before went.more g went.grew))
