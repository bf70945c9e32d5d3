-- Which shard takes the spans of a trace.
use Rattle.std.specs.Prelude.{◌≡◌, ℕ, ◌<◌, true, Contains}
use Rattle.otlp_types.specs.declared.arrival.Arrival.{Arrival}
use Rattle.otlp_types.specs.declared.arrival.Item.TheVariants.{Span}
use Rattle.journal_theory.specs.Journal.{Entry}
use Rattle.world_theory.specs.World.{CoreConfig, goes_to}
use Rattle.world_theory.specs.Headline.{have_same_trace}
use Rattle.span_weave.specs.Threads.{Threads, ExporterMade, journal_of, Meets}

-- a shard's thread took this span
pub record WasTakenBy (t : Threads) (shard : ℕ) (a : Arrival) : Type 0 where
  pub entry : Entry
  pub taken : Contains (journal_of t shard) entry
  pub is : entry.item ≡ Span a

-- each span is taken by the shard of its trace, on whichever lane it came
abbrev pub EachIsTakenByItsShard : Type 0
EachIsTakenByItsShard = (c : CoreConfig) (lanes shards : ℕ) (t : Threads) (end : ExporterMade) → Meets c lanes shards t end
    → (shard : ℕ) → shard < shards → (a : Arrival) → WasTakenBy t shard a → goes_to shards shard a ≡ true

-- so all spans of a trace are taken by one shard
abbrev pub TracesStayTogether : Type 0
TracesStayTogether = (c : CoreConfig) (lanes shards : ℕ) (t : Threads) (end : ExporterMade) → Meets c lanes shards t end
    → (first second : ℕ) → first < shards → second < shards → (a b : Arrival) → WasTakenBy t first a → WasTakenBy t second b → have_same_trace a.rec.span.ids b.rec.span.ids ≡ true → first ≡ second
