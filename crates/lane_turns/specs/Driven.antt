-- A lane that does what its driver says: which acts answer it, and the whole run of both.
use Rattle.std.specs.Prelude.{◌≡◌, ◌≢◌, ◌⊎◌, ℕ, Bool, true, false, not, List, [], ◌∷◌, ◌++◌, take, Option, Some, None, IsSome, is_some, MatchBool, MatchOption, ⊤}
use Rattle.http_text.specs.declared.allowed.Allowed.{Allowed}
use Rattle.http_lane.specs.declared.turns.Exchange.{Exchange}
use Rattle.http_lane.specs.declared.answer.ServeEnd.{ServeEnd}
use Rattle.http_lane.specs.Connection.{Submission, Writes}
use Rattle.http_lane.specs.Intake.{Intake}
use Rattle.http_lane.specs.Turns.{Waiting, Coming, nothing, over, read_failed, write_failed, dismissed, Turned, IsTaken}
use Rattle.lane_turns.specs.declared.serving.Next.{Next}
use Rattle.lane_turns.specs.declared.serving.Next.TheVariants.{Take, Came, Look, Leave, Dismiss, End}
use Rattle.lane_turns.specs.declared.serving.Done.{Done}
use Rattle.lane_turns.specs.declared.serving.Done.TheVariants.{Took, Turned as HadTurn, Nothing}
use Rattle.lane_turns.specs.declared.table.Leaving.{Leaving}
use Rattle.lane_turns.specs.declared.table.Leaving.TheVariants.{Over, ReadFailed, WriteFailed}
use Rattle.lane_turns.specs.Acts.{Act, took, had, LaneNow, numbered, RunOf, Fits, is_full_done}

-- the open connections, by key
abbrev pub Table : Type 0
Table = (key : ℕ) → Option Exchange

-- of any connection
abbrev pub AnyOne : Exchange → Type 0
AnyOne x = ⊤

-- every other key keeps what it had
abbrev pub KeepsOthers : (old new : Table) → (key : ℕ) → Type 0
KeepsOthers old new key = (other : ℕ) → other ≢ key → new other ≡ old other

-- what a connection's last turn brings, by how it leaves
abbrev pub coming_of : Leaving → Coming
coming_of Over = over
coming_of ReadFailed = read_failed
coming_of WriteFailed = write_failed

-- the connection had one turn, and no other had one. The turn was at this moment, brought what `brings` says, and wrote
-- what `writes` says; the connection's run goes on by it, and ends so, if it does
pub record HasTurn (allowed : Allowed) (earlier : List Act) (x : Exchange) (moment : ℕ) (brings : Coming → Type 0) (writes : List ℕ → Type 0) (end : Option ServeEnd) (acts : List Act) : Type 0 where
  pub after : ℕ
  pub turn : Turned
  pub next : Waiting
  pub text : List ℕ
  pub acts_are : acts ≡ had x.conn.key.ordinal x.conn.next after turn ∷ []
  pub brought : brings turn.coming
  pub moment_is : turn.moment ≡ moment
  pub run : RunOf allowed x.conn.key.ordinal (earlier ++ acts) (numbered next after)
  pub end_is : next.end ≡ end
  pub text_is : Writes turn.events text
  pub written : writes text

-- the connection is at the key until it ends
abbrev pub StaysAt : (key : ℕ) → Exchange → Option ServeEnd → (old new : Table) → Type 0
StaysAt key x end old new = MatchOption end ((y : Exchange) × (new key ≡ Some y) × (y.conn.key ≡ x.conn.key)) (λ why. new key ≡ None) × KeepsOthers old new key

-- the connection at the key, of which `fits` holds, had the turn
abbrev pub TurnAt : (allowed : Allowed) → (old new : Table) → (key moment : ℕ) → (fits : Exchange → Type 0) → (brings : Coming → Type 0) → (writes : List ℕ → Type 0) → Option ServeEnd → (earlier acts : List Act) → Type 0
TurnAt allowed old new key moment fits brings writes end earlier acts =
    (x : Exchange) × (old key ≡ Some x) × fits x × HasTurn allowed earlier x moment brings writes end acts × StaysAt key x end old new

-- nothing was done
abbrev pub DoesNothing : (old new : Table) → List Act → Type 0
DoesNothing old new acts = (acts ≡ []) × ((key : ℕ) → new key ≡ old key)

-- a connection was taken at this moment, and is at this key; or none could be
abbrev pub TakesOne : (old new : Table) → (moment : ℕ) → Option ℕ → List Act → Type 0
TakesOne old new moment (Some key) acts = (x : Exchange) × (acts ≡ took x.conn.key.ordinal moment ∷ []) × (old key ≡ None) × (new key ≡ Some x) × KeepsOthers old new key
TakesOne old new moment None acts = DoesNothing old new acts

-- the connection at the key ended because it had to leave, and no request was under way on it; or there is none such,
-- and nothing was done
abbrev pub Dismisses : (allowed : Allowed) → (old new : Table) → (key moment : ℕ) → Option ServeEnd → (earlier acts : List Act) → Type 0
Dismisses allowed old new key moment end earlier acts =
    TurnAt allowed old new key moment (λ x. x.engine ≡ None) (λ coming. coming ≡ dismissed) (λ text. text ≡ []) end earlier acts
    ⊎ (((x : Exchange) → old key ≡ Some x → x.engine ≢ None) × (end ≡ None) × DoesNothing old new acts)

-- whether there is a connection on which no request is under way
abbrev pub is_idle_at : Option Exchange → Bool
is_idle_at None = false
is_idle_at (Some x) = not (is_some x.engine)

-- the driver was told that the connection at the key had a turn, and ended so, if it did; else whether it is idle
abbrev pub TellsTurn : (new : Table) → (key : ℕ) → Option ServeEnd → Done → Type 0
TellsTurn new key end done = (due : ℕ) × (done ≡ HadTurn key end due (is_idle_at (new key)))

module _ (allowed : Allowed) (old new : Table) (earlier : List Act) where
  -- the connection at the key had a turn that brought this, and what it wrote is to be sent; or there is none at the
  -- key
  abbrev pub HasTurnAt : (key moment : ℕ) → (brings : Coming → Type 0) → Done → (text : List ℕ) → (acts : List Act) → Type 0
  HasTurnAt key moment brings done text acts =
      ((end : Option ServeEnd) × TurnAt allowed old new key moment AnyOne brings (λ written. text ≡ written) end earlier acts × TellsTurn new key end done)
      ⊎ ((old key ≡ None) × DoesNothing old new acts × (done ≡ Nothing) × (text ≡ []))

  -- these acts are what the driver said with this moment and this piece, this came of it, and this is to be sent
  abbrev pub AsTold : Next → (moment : ℕ) → (piece : List ℕ) → Done → (text : List ℕ) → (acts : List Act) → Type 0
  AsTold Take moment piece done text acts = (key : Option ℕ) × TakesOne old new moment key acts × (done ≡ Took key) × (text ≡ [])
  AsTold (Came key len) moment piece done text acts = HasTurnAt key moment (IsTaken (take len piece)) done text acts
  AsTold (Look key) moment piece done text acts = HasTurnAt key moment (λ coming. coming ≡ nothing) done text acts
  AsTold (Leave key how) moment piece done text acts = HasTurnAt key moment (λ coming. coming ≡ coming_of how) done text acts
  AsTold (Dismiss key) moment piece done text acts = (end : Option ServeEnd) × Dismisses allowed old new key moment end earlier acts × TellsTurn new key end done × (text ≡ [])
  AsTold End moment piece done text acts = DoesNothing old new acts × (done ≡ Nothing) × (text ≡ [])

-- one round of a lane and its driver: what the driver said, and was then; what was done, and the table and the lane
-- then; what the driver was told, and was then
pub record DriverRound (D P : Type 0) : Type 0 where
  pub next : Next
  pub moment : ℕ
  pub piece : List ℕ
  pub asked : D
  pub acts : List Act
  pub open_at : Table
  pub now : LaneNow P
  pub done : Done
  pub text : List ℕ
  pub told : D

module _ {D P : Type 0} (asks : D → Next → ℕ → List ℕ → D → Type 0) (hears : D → Done → List ℕ → D → Type 0) (submits : Intake P → Submission → Intake P → Type 0) (allowed : Allowed) (first : LaneNow P) where
  -- a round: the lane did what its driver said, and told it what came of that. Where the driver said to end, some
  -- connection was still open
  pub record IsRound (driver : D) (open_at : Table) (earlier : List Act) (r : DriverRound D P) : Type 0 where
    pub said : asks driver r.next r.moment r.piece r.asked
    pub still_open : r.next ≡ End → (key : ℕ) × IsSome (open_at key)
    pub as_told : AsTold allowed open_at r.open_at earlier r.next r.moment r.piece r.done r.text r.acts
    pub fits : Fits submits allowed first.lane.number first r.open_at (earlier ++ r.acts) r.now
    pub heard : hears r.asked r.done r.text r.told

  -- these rounds follow each other from here, up to where the driver says to end and no connection is open, or a count
  -- would have passed 2^64-1 (the last flag)
  abbrev pub RunsFrom : (driver : D) → (open_at : Table) → (acts : List Act) → (now : LaneNow P) → List (DriverRound D P) → (last : D) → (after : LaneNow P) → (is_full : Bool) → Type 0
  RunsFrom driver open_at acts now [] last after is_full =
      (moment : ℕ) × (piece : List ℕ) × asks driver End moment piece last × ((key : ℕ) → open_at key ≡ None) × (after ≡ now) × (is_full ≡ false)
  RunsFrom driver open_at acts now (r ∷ rounds) last after is_full = IsRound driver open_at acts r
      × MatchBool (is_full_done r.done) ((rounds ≡ []) × (last ≡ r.told) × (after ≡ r.now) × (is_full ≡ true)) (RunsFrom r.told r.open_at (acts ++ r.acts) r.now rounds last after is_full)

-- a lane with no open connection did what its driver said, round by round, to the end
abbrev pub IsDriven : {D P : Type 0} → (asks : D → Next → ℕ → List ℕ → D → Type 0) → (hears : D → Done → List ℕ → D → Type 0) → (submits : Intake P → Submission → Intake P → Type 0) → (allowed : Allowed)
    → (driver : D) → (before : LaneNow P) → (last : D) → (after : LaneNow P) → (is_full : Bool) → Type 0
IsDriven {D} {P} asks hears submits allowed driver before last after is_full = (rounds : List (DriverRound D P)) × RunsFrom asks hears submits allowed before driver (λ key. None) [] before rounds last after is_full
