-- What an act is of what the driver said, and a run by one round more.
-- For the clauses `fits` of src/table.rt and of `turn`, and `driven` of `serve_turns`.
use Rattle.std.proofs.Common.{◌≡◌, ◌≢◌, ◌∙◌, ℕ, suc, ◌==◌, Bool, true, false, List, [], ◌∷◌, ◌++◌, Option, Some, None, refl, sym, ap, subst, eq-eqb, append-nil, IsSome, IsTrue, count_by, is_some}
use Rattle.std.specs.Prelude.{slice_index_or}
use Rattle.http_text.specs.declared.allowed.Allowed.{Allowed}
use Rattle.http_lane.specs.declared.turns.Exchange.{Exchange}
use Rattle.http_lane.specs.declared.answer.ServeEnd.{ServeEnd}
use Rattle.http_lane.specs.Connection.{RequestReading, is_between, ConnectionEvent, Submission, Writes}
use Rattle.http_lane.specs.Intake.{Intake}
use Rattle.http_lane.specs.Turns.{Waiting, Coming, turned, IsTurnBy, AwaitsBy}
use Rattle.lane_turns.specs.declared.serving.Next.{Next}
use Rattle.lane_turns.specs.declared.serving.Done.{Done}
use Rattle.lane_turns.specs.Acts.{Act, had, LaneNow, numbered, RunOf, Fits, GoesOn, AllAwait, is_full_done}
use Rattle.lane_turns.specs.Driven.{Table, HasTurn, TurnAt, DriverRound, IsRound, RunsFrom}
use Rattle.lane_turns.proofs.Runs.{of_own, of_other, run_more}

-- ---- a turn

pub has_turn : (g : Allowed) (acts : List Act) (x : Exchange) (moment : ℕ) (brings : Coming → Type 0) (writes : List ℕ → Type 0) (end : Option ServeEnd) (w : Waiting) (coming : Coming) (is_stopped : Bool) (events : List ConnectionEvent) (next : Waiting) (after : ℕ) (text : List ℕ)
    → RunOf g x.conn.key.ordinal acts (numbered w x.conn.next) → w.end ≡ None → IsTurnBy coming w moment is_stopped events next → brings coming → next.end ≡ end → Writes events text → writes text
    → HasTurn g acts x moment brings writes end (had x.conn.key.ordinal x.conn.next after (turned coming moment is_stopped events) ∷ [])
has_turn g acts x moment brings writes end w coming is_stopped events next after text run goes_on turn brought ends text_is written = record {
  after = after;
  turn = turned coming moment is_stopped events;
  next = next;
  text = text;
  acts_are = refl;
  brought = brought;
  moment_is = refl;
  run = run_more g x.conn.key.ordinal acts (numbered w x.conn.next) x.conn.key.ordinal after (turned coming moment is_stopped events) next (eq-eqb x.conn.key.ordinal x.conn.key.ordinal refl) goes_on turn run;
  end_is = ends;
  text_is = text_is;
  written = written;
}

-- what was written is to be sent
pub sent : {g : Allowed} {old new : Table} {key moment : ℕ} {fits : Exchange → Type 0} {brings : Coming → Type 0} (writes sends : List ℕ → Type 0) {end : Option ServeEnd} {earlier acts : List Act}
    → ((text : List ℕ) → writes text → sends text) → TurnAt g old new key moment fits brings writes end earlier acts → TurnAt g old new key moment fits brings sends end earlier acts
sent writes sends f t = (
  t.0,
  t.1,
  t.2,
  record {
    after = t.3.after;
    turn = t.3.turn;
    next = t.3.next;
    text = t.3.text;
    acts_are = t.3.acts_are;
    brought = t.3.brought;
    moment_is = t.3.moment_is;
    run = t.3.run;
    end_is = t.3.end_is;
    text_is = t.3.text_is;
    written = f t.3.text t.3.written;
  },
  t.4,
)

pub all_of : (old new text : List ℕ) → old ≡ [] → new ≡ old ++ text → new ≡ text
all_of old new text empty e = e ∙ ap (λ (l : List ℕ). l ++ text) empty

-- nothing at the key
pub none_of : {T : Type 0} (slot : Option T) (b : Bool) → (IsSome slot → IsTrue b) → b ≡ false → slot ≡ None
none_of None b f e = refl
none_of (Some x) b f e = absurd (let both = sym e ∙ f refl in cc)

module _ {P : Type 0} (submits : Intake P → Submission → Intake P → Type 0) (g : Allowed) (old : Table) (now : LaneNow P) where
  pub nothing_more : (by : (earlier more : List Act) → Type 0) → ((earlier : List Act) → by earlier []) → GoesOn submits g old now old now false by
  nothing_more by f = λ number first acts fits. ([], subst (λ l. Fits submits g number first old l now) (sym (append-nil acts)) fits, refl, f acts)

  pub goes_by : (new : Table) (then : LaneNow P) (is_full last : Bool) (by then_by : (earlier more : List Act) → Type 0) → GoesOn submits g old now new then is_full by → last ≡ is_full
      → ((earlier more : List Act) → AllAwait g new → by earlier more → then_by earlier more) → GoesOn submits g old now new then last then_by
  goes_by new then is_full last by then_by goes e f = λ number first acts fits.
      let went = goes number first acts fits in (went.0, went.1, went.2 ∙ sym e, f acts went.0 (λ key x at. let o = went.1.each key x at in (o.waiting, o.awaits)) went.3)

-- a request is under way where there is an engine
pub no_engine : {E : Type 0} (awaits : E → RequestReading → Type 0) (g : Allowed) (engine : Option E) (r : RequestReading) → AwaitsBy g awaits engine r → is_between r ≡ true → engine ≡ None
no_engine awaits g None r a idle = refl
no_engine awaits g (Some e) r a idle = absurd (let both = sym a.1 ∙ idle in cc)

pub an_engine : {E : Type 0} (awaits : E → RequestReading → Type 0) (g : Allowed) (engine : Option E) (r : RequestReading) → AwaitsBy g awaits engine r → is_between r ≡ false → engine ≢ None
an_engine awaits g None r a busy = λ e. absurd (let both = sym busy ∙ ap is_between a in cc)
an_engine awaits g (Some x) r a busy = λ e. absurd cc

-- ---- the run

pub some_open : {T : Type 0} (slots : List (Option T)) → (count_by is_some slots == 0) ≡ false → (key : ℕ) × IsSome (slice_index_or slots key None)
some_open [] e = absurd cc
some_open (None ∷ slots) e = let k = some_open slots e in (suc k.0, k.1)
some_open (Some x ∷ slots) e = (0, refl)

module _ {D P : Type 0} (asks : D → Next → ℕ → List ℕ → D → Type 0) (hears : D → Done → List ℕ → D → Type 0) (submits : Intake P → Submission → Intake P → Type 0) (g : Allowed) (first : LaneNow P)
    (driver : D) (open_at : Table) (acts : List Act) (now : LaneNow P) where
  -- one round more, and the rounds behind it
  pub more_rounds : (r : DriverRound D P) (rounds : List (DriverRound D P)) (last : D) (after : LaneNow P) (is_full : Bool) → IsRound asks hears submits g first driver open_at acts r → is_full_done r.done ≡ false
      → RunsFrom asks hears submits g first r.told r.open_at (acts ++ r.acts) r.now rounds last after is_full → RunsFrom asks hears submits g first driver open_at acts now (r ∷ rounds) last after is_full
  more_rounds r rounds last after is_full round e rest = (round, of_other _ _ (is_full_done r.done) e rest)

  -- the last round, in which a count would have passed 2^64-1
  pub last_round : (r : DriverRound D P) → IsRound asks hears submits g first driver open_at acts r → is_full_done r.done ≡ true
      → RunsFrom asks hears submits g first driver open_at acts now (r ∷ []) r.told r.now true
  last_round r round e = (round, of_own _ _ (is_full_done r.done) e (refl, refl, refl, refl))
