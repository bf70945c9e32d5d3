-- What a played script leads to.
-- For the contract of `run_session`.
use Rattle.std.proofs.Common.{◌≡◌, ℕ, Bool, true, false, List, [], ◌∷◌, ◌++◌, Option, refl, sym, subst}
use Rattle.journal_theory.specs.Journal.{Settings}
use Rattle.span_sink.specs.LineSinks.{LineSinkState}
use Rattle.tsc_script.specs.Instructions.{Instruction, close}
use Rattle.script_run.specs.World.{ScriptWorld, Sizes, new_world, Plays, PlaysAll}
use Rattle.script_run.specs.Counts.{Reports}
use Rattle.script_run.specs.Writing.{WritesAll, FailedOnce}
use Rattle.script_run.specs.Laws.{CanPlay}
use Rattle.script_run.proofs.Runs.{each_is_a_run_of_core}
use Rattle.script_run.proofs.Writing.{each_writes_its_events}
use Rattle.script_session.specs.Replay.{Leads, ReplayRun, first_state, FellBefore}
use Rattle.script_session.proofs.Quiet.{PlaysAll-push}

-- a played script leads to the world after it, which is closed or not
pub leads_to : (s : Settings) (sizes : Sizes) (lanes shards : ℕ) (first : LineSinkState) (played : List Instruction) (last : LineSinkState) (report : Option (List ℕ)) → CanPlay s sizes lanes → first.is_down ≡ false
    → (after : ScriptWorld) → PlaysAll s sizes (new_world lanes shards first) played after → after.sink ≡ last → Reports s after report → (closed : Bool) → after.closed ≡ closed
    → (leads : Leads s sizes lanes shards first played last report) × (leads.after.closed ≡ closed)
leads_to s sizes lanes shards first played last report can up after plays sink reports closed is =
    let wrote = each_writes_its_events s sizes lanes shards first played after can up plays in
    let W = λ (k : LineSinkState). WritesAll first after.events k in
    let F = λ (k : LineSinkState). FailedOnce first k in (
      record {
        after = after;
        plays = plays;
        sink = sink;
        reports = reports;
        is_run = each_is_a_run_of_core s sizes lanes shards first played after can up plays;
        writes = subst W sink wrote.0;
        failed = subst F sink wrote.1;
      },
      is,
    )

-- instructions that led to a world where the sink is down, and a close played there
pub fell_before : (run : ReplayRun) (played : List Instruction) (last : LineSinkState) (report : Option (List ℕ)) → CanPlay run.settings run.sizes run.lanes
    → (mid : ScriptWorld) → PlaysAll run.settings run.sizes (new_world run.lanes run.shards (first_state run)) played mid → mid.sink.is_down ≡ true
    → (after : ScriptWorld) → PlaysAll run.settings run.sizes mid (close ∷ []) after → after.sink ≡ last → Reports run.settings after report → FellBefore run last report played
unfolding leads_to
fell_before run played last report can mid plays down after closes sink reports =
    let s = run.settings in
    let start = new_world run.lanes run.shards (first_state run) in
    let P = λ (w : ScriptWorld). Plays s run.sizes mid close w in
    let all = PlaysAll-push s run.sizes start mid after played close plays (subst P (sym closes.2) closes.1) in
    let led = leads_to s run.sizes run.lanes run.shards (first_state run) (played ++ close ∷ []) last report can refl after all sink reports after.closed refl in
    record {
      mid = mid;
      plays = plays;
      is_down = down;
      leads = led.0;
      closes = closes;
    }
