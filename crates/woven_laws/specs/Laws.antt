-- When running threads decided each trace, and what came out. A shard's journal is what its thread popped, and its
-- senders are the lanes and the ticker.
use Rattle.std.specs.Prelude.{◌≡◌, ℕ, ◌+◌, ◌<◌, true, List, flat_map, Contains}
use Rattle.otlp_types.specs.declared.arrival.Arrival.{Arrival}
use Rattle.span_ids.specs.declared.outcome.Verdict.TheVariants.{Sampled}
use Rattle.journal_theory.specs.Journal.{Decision, is_of_trace, notes}
use Rattle.world_theory.specs.World.{CoreConfig, KeepsATrace, settings_for}
use Rattle.span_weave.specs.Threads.{Threads, ExporterMade, journal_of}
use Rattle.span_weave.specs.Woven.{HoldsOfThreads}
use Rattle.decision_times.specs.Times.{WasInTime}
use Rattle.core_laws.specs.Sampled.{IsOut}

-- the decisions of a shard's thread
abbrev pub decisions_of : CoreConfig → (lanes : ℕ) → Threads → (shard : ℕ) → List Decision
decisions_of c lanes t shard = (notes (settings_for c (lanes + 1)) (journal_of t shard)).decisions

-- each decision was made in time
abbrev pub ThreadsDecideInTime : Type 0
ThreadsDecideInTime = (c : CoreConfig) (lanes shards : ℕ) (t : Threads) (end : ExporterMade) → KeepsATrace c → HoldsOfThreads c lanes shards t end
    → (shard : ℕ) → shard < shards → (d : Decision) → Contains (decisions_of c lanes t shard) d → WasInTime (settings_for c (lanes + 1)) (journal_of t shard) d

-- each span of a decision to sample is out in the run of the core that the threads did
abbrev pub ThreadsHandOverSampled : Type 0
ThreadsHandOverSampled = (c : CoreConfig) (lanes shards : ℕ) (t : Threads) (end : ExporterMade) → KeepsATrace c → (h : HoldsOfThreads c lanes shards t end)
    → (shard : ℕ) → shard < shards → (d : Decision) → Contains (decisions_of c lanes t shard) d → d.verdict ≡ Sampled → (a : Arrival) → Contains d.spans a → IsOut c h.woven.after a

-- the span is of a trace that a shard's thread decided as sampled
pub record IsOfSampled (c : CoreConfig) (lanes shards : ℕ) (t : Threads) (a : Arrival) : Type 0 where
  pub shard : ℕ
  pub is_one : shard < shards
  pub decision : Decision
  pub made : Contains (decisions_of c lanes t shard) decision
  pub sampled : decision.verdict ≡ Sampled
  pub of_trace : is_of_trace decision.opening.trace a ≡ true

-- each span that was handed over is of such a trace
abbrev pub ThreadsHandOverNoOther : Type 0
ThreadsHandOverNoOther = (c : CoreConfig) (lanes shards : ℕ) (t : Threads) (end : ExporterMade) → KeepsATrace c → HoldsOfThreads c lanes shards t end
    → (a : Arrival) → Contains (flat_map (λ batch. batch) end.handed) a → IsOfSampled c lanes shards t a
