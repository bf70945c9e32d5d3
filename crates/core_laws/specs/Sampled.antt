-- Where the spans of sampled traces are in the end, and which policies decide against none.
use Rattle.std.specs.Prelude.{◌≡◌, ◌⊎◌, ℕ, Bool, true, List, [], ◌∷◌, Some, slice_get, Contains}
use Rattle.otlp_types.specs.declared.arrival.Arrival.{Arrival}
use Rattle.policy_tree.specs.Tree.{Policies, no_more, one_more, leaf}
use Rattle.policy_tree.specs.declared.policy.Leaf.TheVariants.{AlwaysSample}
use Rattle.policy_eval.specs.Given.{verdict_given}
use Rattle.span_ids.specs.declared.outcome.Verdict.TheVariants.{Sampled}
use Rattle.span_ids.specs.declared.outcome.Reason.TheVariants.{NoMemory, ExporterDown, NotSampled, LateNotSampled}
use Rattle.journal_theory.specs.Journal.{Decision, is_of_trace, notes, remembered}
use Rattle.journal_theory.specs.Fate.{under}
use Rattle.world_theory.specs.World.{may_give_up, CoreConfig, CoreShard, World, settings}
use Rattle.world_theory.specs.Places.{handed, counted_under, places, IsClosed}
use Rattle.world_theory.specs.Headline.{TakenSpan, handed_spans}

-- the span was handed over, once; or its batch was given up, for want of memory, or because its destination
-- refused it or was down
abbrev pub IsOut : CoreConfig → World → Arrival → Type 0
IsOut c w a = (places c w a.key ≡ handed ∷ []) ⊎ (places c w a.key ≡ counted_under NoMemory ∷ []) ⊎ ((places c w a.key ≡ counted_under ExporterDown ∷ []) × (may_give_up c w.down ≡ true))

-- in a closed world each span of a decision to sample is out
abbrev pub SampledComesOut : CoreConfig → World → Type 0
SampledComesOut c w = IsClosed c w → (shard : ℕ) (sh : CoreShard) → slice_get w.shards shard ≡ Some sh
    → (d : Decision) → Contains (notes (settings c w) sh.journal).decisions d → d.verdict ≡ Sampled → (a : Arrival) → Contains d.spans a → IsOut c w a

-- and so is each span that was taken while its trace was remembered as sampled
abbrev pub LateFollowsOut : CoreConfig → World → Type 0
LateFollowsOut c w = IsClosed c w → (t : TakenSpan w) → remembered (settings c w) (notes (settings c w) t.before) t.ids.trace ≡ Some Sampled → IsOut c w t.arrival

-- the span is of a trace that its shard decided as sampled
pub record IsOfSampled (c : CoreConfig) (w : World) (a : Arrival) : Type 0 where
  pub shard : ℕ
  pub of : CoreShard
  pub in_world : slice_get w.shards shard ≡ Some of
  pub decision : Decision
  pub made : Contains (notes (settings c w) of.journal).decisions decision
  pub sampled : decision.verdict ≡ Sampled
  pub of_trace : is_of_trace decision.opening.trace a ≡ true

-- what was handed over is of such a trace, and of no other
abbrev pub OnlySampledComesOut : CoreConfig → World → Type 0
OnlySampledComesOut c w = (a : Arrival) → Contains (handed_spans w) a → IsOfSampled c w a

-- the policies sample all spans, whatever a limiter answers
abbrev pub SamplesAll : Policies → Type 0
SamplesAll policies = (answers : List Bool) (spans : List Arrival) → verdict_given policies answers spans ≡ Sampled

-- with such policies, and without a greatest size of traces, no span is counted as not sampled, nor as late for that
abbrev pub NoneAgainst : CoreConfig → World → Type 0
NoneAgainst c w = SamplesAll c.shard.policies → c.shard.maximum_trace_size ≡ 0 → (under NotSampled w.counted ≡ []) × (under LateNotSampled w.counted ≡ [])

-- `always_sample` alone is such policies
abbrev pub AlwaysSampleSamplesAll : Type 0
AlwaysSampleSamplesAll = SamplesAll (one_more (leaf AlwaysSample) no_more)
