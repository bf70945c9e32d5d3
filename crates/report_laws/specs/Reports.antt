-- What the numbers of a report add up to.
use Rattle.std.specs.Prelude.{◌≡◌, ℕ, ◌+◌, true, List, Some, slice_index}
use Rattle.std.specs.List.{sum_by}
use Rattle.drop_ledger.specs.declared.count.Count.TheVariants.{Received, Handed, Dropped}
use Rattle.drop_ledger.specs.Places.{place_of}
use Rattle.span_ids.specs.declared.outcome.Reason.{Reason}
use Rattle.span_ids.specs.declared.outcome.Reason.TheVariants.{NotSampled, LateNotSampled}
use Rattle.journal_theory.specs.Journal.{Settings}
use Rattle.world_theory.specs.World.{CoreConfig, KeepsATrace}
use Rattle.span_weave.specs.Threads.{Threads, ExporterMade}
use Rattle.span_weave.specs.Woven.{HoldsOfThreads}
use Rattle.run_weave.specs.Ran.{Reports}
use Rattle.script_run.specs.World.{ScriptWorld, Sizes}
use Rattle.script_run.specs.Counts.{Reports as ScriptReports}
use Rattle.script_run.specs.CoreRun.{core_config, IsRunOfCore}
use Rattle.core_laws.specs.Sums.{reasons}
use Rattle.core_laws.specs.Sampled.{SamplesAll}

-- the report's number under a reason
abbrev pub number_under : (report : List ℕ) → Reason → ℕ
number_under report reason = slice_index report (place_of (Dropped reason))

-- received are those handed over, and those under the seven reasons
abbrev pub ReportAddsUp : List ℕ → Type 0
ReportAddsUp report = slice_index report (place_of Received) ≡ slice_index report (place_of Handed) + sum_by (number_under report) reasons

-- none is under 5, nor under 6
abbrev pub HasNoneAgainst : List ℕ → Type 0
HasNoneAgainst report = (number_under report NotSampled ≡ 0) × (number_under report LateNotSampled ≡ 0)

-- ---- of the threads of a run, where the report counts every span's end

abbrev pub ServeAddsUp : Type 0
ServeAddsUp = (c : CoreConfig) (lanes shards : ℕ) (t : Threads) (end : ExporterMade) (report : List ℕ) → HoldsOfThreads c lanes shards t end → Reports c lanes shards t end report → ReportAddsUp report

abbrev pub ServeDropsNone : Type 0
ServeDropsNone = (c : CoreConfig) (lanes shards : ℕ) (t : Threads) (end : ExporterMade) (report : List ℕ) → KeepsATrace c → HoldsOfThreads c lanes shards t end → Reports c lanes shards t end report
    → SamplesAll c.shard.policies → c.shard.maximum_trace_size ≡ 0 → HasNoneAgainst report

-- ---- of a script that was played, and closed

abbrev pub ReplayAddsUp : Type 0
ReplayAddsUp = (s : Settings) (sizes : Sizes) (lanes shards : ℕ) (w : ScriptWorld) (report : List ℕ) → IsRunOfCore s sizes lanes shards w → w.closed ≡ true → ScriptReports s w (Some report) → ReportAddsUp report

abbrev pub ReplayDropsNone : Type 0
ReplayDropsNone = (s : Settings) (sizes : Sizes) (lanes shards : ℕ) (w : ScriptWorld) (report : List ℕ) → KeepsATrace (core_config s sizes) → IsRunOfCore s sizes lanes shards w → ScriptReports s w (Some report)
    → SamplesAll s.policies → s.maximum_trace_size ≡ 0 → HasNoneAgainst report
