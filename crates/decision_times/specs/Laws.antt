-- When traces are decided, in every run of the core.
use Rattle.std.specs.Prelude.{◌≡◌, ◌≤◌, ◌<◌, ℕ, true, false, List, map, Some, slice_get, Contains}
use Rattle.otlp_types.specs.declared.arrival.Item.{Item}
use Rattle.journal_theory.specs.Journal.{Journal, Entry, Opening, Decision, StoppedInTime, notes, undecided}
use Rattle.world_theory.specs.World.{CoreConfig, CoreShard, World, settings, has_due}
use Rattle.world_theory.specs.Step.{Step, step}
use Rattle.decision_times.specs.Times.{WasOpened, WasInTime, HasTime}

-- each decision of a shard was made for a cause, at the first item at which there was one
abbrev pub NeverTooEarly : CoreConfig → World → Type 0
NeverTooEarly c w = (shard : ℕ) (sh : CoreShard) → slice_get w.shards shard ≡ Some sh
    → (d : Decision) → Contains (notes (settings c w) sh.journal).decisions d → WasInTime (settings c w) sh.journal d

-- where a shard has nothing to decide, the time of each trace that stands undecided in it has not come
abbrev pub NeverTooLate : CoreConfig → World → Type 0
NeverTooLate c w = 0 < c.shard.decision_wait → (shard : ℕ) (sh : CoreShard) → slice_get w.shards shard ≡ Some sh → has_due (settings c w) sh ≡ false
    → (o : Opening) → Contains (undecided (settings c w) (notes (settings c w) sh.journal)) o → WasOpened sh.journal o × HasTime (settings c w) sh.journal o

-- the items that a shard took, the newest first
abbrev pub items : Journal → List Item
items past = map (λ (e : Entry). e.item) past

-- no step gives an item to a shard that has something to decide
abbrev pub DecidedBeforeNextItem : Type 0
DecidedBeforeNextItem = (c : CoreConfig) (w next : World) (taking : Step) → step c w taking ≡ Some next
    → (shard : ℕ) (sh : CoreShard) → slice_get w.shards shard ≡ Some sh → has_due (settings c w) sh ≡ true
    → (then : CoreShard) × (slice_get next.shards shard ≡ Some then) × (items then.journal ≡ items sh.journal) × (sh.dealt ≤ then.dealt)

-- no shard took an item after the Ends of all senders
abbrev pub NothingAfterAllEnds : CoreConfig → World → Type 0
NothingAfterAllEnds c w = (shard : ℕ) (sh : CoreShard) → slice_get w.shards shard ≡ Some sh → StoppedInTime (settings c w) sh.journal
