-- What a script that was played on one of two sessions led to.
-- For the contract of `run_both`.
use Rattle.std.proofs.Common.{◌≡◌, ℕ, Bool, true, false, List, [], ◌∷◌, Option, Some, None, refl, sym, ap, subst, ◌∙◌, replicate, rules}
use Rattle.std.specs.Prelude.{◌&&◌, Result, Ok, Err}
use Rattle.std.specs.Result.{OnOk}
use Rattle.tsc_script.specs.declared.stop.ScriptStop.{ScriptStop}
use Rattle.drop_ledger.specs.declared.report.Report.{Report}
use Rattle.rate_budget.specs.declared.count.LimiterCount.{LimiterCount}
use Rattle.journal_theory.specs.Journal.{Settings}
use Rattle.shard_core.specs.Held.{Held}
use Rattle.span_sink.specs.LineSinks.{LineSinkState, up_state}
use Rattle.config_shards.specs.Shards.{CanReplay, settings_by}
use Rattle.tsc_config.specs.declared.config.Config.{Config}
use Rattle.tsc_script.specs.Instructions.{Instruction}
use Rattle.tsc_script.specs.Reads.{KnownReader}
use Rattle.script_run.specs.Connections.{Contacts}
use Rattle.script_run.specs.Counts.{Reports}
use Rattle.script_run.specs.Laws.{CanPlay}
use Rattle.script_run.specs.World.{ScriptWorld, Sizes, new_world, PlaysAll}
use Rattle.script_session.specs.Comparing.{discarded_run, sizes_of}
use Rattle.script_session.specs.Pulling.{Export, AreOf}
use Rattle.script_session.specs.Replay.{LeadsIn}
use Rattle.script_session.specs.Starting.{IsStart}
use Rattle.script_session.proofs.Leading.{leads_to}
use Rattle.script_session.proofs.Numbers.{Reports-new}

-- these instructions lead a session to these parts
abbrev pub LeadsTo : Contacts → List Held → List LimiterCount → Export → (queue : ℕ) → (keeps_doubles closed : Bool) → List Instruction → Contacts → List Held → List LimiterCount → Export → (closed_after : Bool) → Type 0
LeadsTo contacts shards limiter output queue keeps_doubles closed played contacts_after shards_after limiter_after output_after closed_after =
    (s : Settings) (w : ScriptWorld) → AreOf s w contacts shards limiter output closed
    → (after : ScriptWorld) × PlaysAll s (record { batch = output.0.size; queue = queue; keeps_doubles = keeps_doubles }) w played after
    × AreOf s after contacts_after shards_after limiter_after output_after closed_after

pub leads-alone : (config : Config) (unread unread_after : KnownReader) (contacts : Contacts) (shards : List Held) (limiter : List LimiterCount) (output : Export) (queue : ℕ) (keeps_doubles closed : Bool) (played : List Instruction)
    (contacts_after : Contacts) (shards_after : List Held) (limiter_after : List LimiterCount) (output_after : Export) (closed_after : Bool) (numbers : Report)
    → CanPlay (settings_by config) (sizes_of config) config.lanes → IsStart config None 0 contacts shards limiter output queue keeps_doubles closed
    → LeadsTo contacts shards limiter output queue keeps_doubles closed played contacts_after shards_after limiter_after output_after closed_after
    → output_after.0.sink ≡ up_state None 0 → output_after.1 ≡ Some numbers
    → LeadsIn (discarded_run config unread unread_after) played (up_state None 0) (Some numbers)
leads-alone config unread unread_after contacts shards limiter output queue keeps_doubles closed played contacts_after shards_after limiter_after output_after closed_after numbers can is leads sink_is report_is =
    let s = settings_by config in
    let first : LineSinkState = up_state None 0 in
    let start = new_world config.lanes config.shards first in
    let R = λ (report : Option (List ℕ)). Reports s start report in
    let starts : AreOf s start contacts shards limiter output closed = record {
      contacts_are = is.contacts_are;
      settings_are = is.shards_are.1;
      released_all = is.shards_are.3;
      limiter_is = is.limiter_is;
      sink_is = is.sink_is;
      reports = subst R (sym is.nothing_counted) (Reports-new s config.lanes config.shards first);
      closed_is = is.is_open;
    } in
    let r = leads s start starts in
    let sizes : Sizes = sizes_of config in
    let B = λ (n : ℕ). PlaysAll s (record { batch = n; queue = queue; keeps_doubles = keeps_doubles }) start played r.0 in
    let Q = λ (n : ℕ). PlaysAll s (record { batch = config.send_batch_size; queue = n; keeps_doubles = keeps_doubles }) start played r.0 in
    let K = λ (b : Bool). PlaysAll s (record { batch = config.send_batch_size; queue = config.queue_capacity; keeps_doubles = b }) start played r.0 in
    let plays : PlaysAll s sizes start played r.0 = subst K is.doubles_are (subst Q is.queue_is (subst B is.batch_is r.1)) in
    (leads_to s sizes config.lanes config.shards first played (up_state None 0) (Some numbers) can refl r.0 plays (sym r.2.sink_is ∙ sink_is)
    (subst (λ (report : Option (List ℕ)). Reports s r.0 report) report_is r.2.reports) r.0.closed refl).0

-- what holds of a script that was played whole
pub of-whole : (X : Type 0) (played : Result (Unit {0}) ScriptStop) → OnOk played X → played ≡ Ok tt → X
of-whole X (Ok done) whole e = whole
of-whole X (Err stop) whole e = cc

-- both of two that hold together
pub and-left : (a b : Bool) → (a && b) ≡ true → a ≡ true
and-left true b e = refl
and-left false b e = cc

pub and-right : (a b : Bool) → (a && b) ≡ true → b ≡ true
and-right true b e = e
and-right false b e = cc

-- a configuration by which a script can be replayed
pub can-play : (config : Config) → CanReplay config → CanPlay (settings_by config) (sizes_of config) config.lanes
can-play config can = record { some_lane = can.some_lane; senders = refl; batch = can.batch; keeps = search rules }

-- the sizes of a session
abbrev pub session_sizes : (batch queue : ℕ) → (keeps_doubles : Bool) → Sizes
session_sizes batch queue keeps_doubles = record { batch = batch; queue = queue; keeps_doubles = keeps_doubles }

-- the sizes of a session are those of its configuration
pub same-sizes : (config : Config) (batch queue : ℕ) (keeps_doubles : Bool) → batch ≡ config.send_batch_size → queue ≡ config.queue_capacity → keeps_doubles ≡ config.keeps_doubles
    → session_sizes batch queue keeps_doubles ≡ sizes_of config
same-sizes config batch queue keeps_doubles batch_is queue_is doubles_are = rw (batch_is, queue_is, doubles_are) refl
