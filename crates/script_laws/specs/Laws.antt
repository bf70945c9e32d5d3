-- When the shards of a script decided each trace, and what came out.
use Rattle.std.specs.Prelude.{◌≡◌, ℕ, true, Some, flat_map, slice_get, Contains}
use Rattle.otlp_types.specs.declared.arrival.Arrival.{Arrival}
use Rattle.span_ids.specs.declared.outcome.Verdict.TheVariants.{Sampled}
use Rattle.journal_theory.specs.Journal.{Settings, Journal, Decision, is_of_trace, notes}
use Rattle.script_run.specs.World.{ScriptWorld, Sizes}
use Rattle.script_run.specs.Writing.{handed_in}
use Rattle.script_run.specs.CoreRun.{core_config, IsRunOfCore}
use Rattle.script_run.specs.Laws.{CanPlay}
use Rattle.decision_times.specs.Times.{WasInTime}
use Rattle.core_laws.specs.Sampled.{IsOut}

-- each decision of each shard was made in time
abbrev pub ScriptsDecideInTime : Type 0
ScriptsDecideInTime = (s : Settings) (sizes : Sizes) (lanes shards : ℕ) (w : ScriptWorld) → CanPlay s sizes lanes → IsRunOfCore s sizes lanes shards w
    → (shard : ℕ) (past : Journal) → slice_get w.journals shard ≡ Some past → (d : Decision) → Contains (notes s past).decisions d → WasInTime s past d

-- once the script is closed, each span of a decision to sample is out in the run of the core that it is
abbrev pub ScriptsHandOverSampled : Type 0
ScriptsHandOverSampled = (s : Settings) (sizes : Sizes) (lanes shards : ℕ) (w : ScriptWorld) → CanPlay s sizes lanes → (h : IsRunOfCore s sizes lanes shards w) → w.closed ≡ true
    → (shard : ℕ) (past : Journal) → slice_get w.journals shard ≡ Some past → (d : Decision) → Contains (notes s past).decisions d → d.verdict ≡ Sampled
    → (a : Arrival) → Contains d.spans a → IsOut (core_config s sizes) h.core a

-- the span is of a trace that a shard of the script decided as sampled
pub record IsOfSampled (s : Settings) (w : ScriptWorld) (a : Arrival) : Type 0 where
  pub shard : ℕ
  pub past : Journal
  pub took : slice_get w.journals shard ≡ Some past
  pub decision : Decision
  pub made : Contains (notes s past).decisions decision
  pub sampled : decision.verdict ≡ Sampled
  pub of_trace : is_of_trace decision.opening.trace a ≡ true

-- each span that was handed over is of such a trace
abbrev pub ScriptsHandOverNoOther : Type 0
ScriptsHandOverNoOther = (s : Settings) (sizes : Sizes) (lanes shards : ℕ) (w : ScriptWorld) → CanPlay s sizes lanes → IsRunOfCore s sizes lanes shards w
    → (a : Arrival) → Contains (flat_map (λ batch. batch) (handed_in w.events)) a → IsOfSampled s w a
