-- What makes a played script a run of the core.
use Rattle.std.specs.Prelude.{◌≡◌, ℕ, ◌==◌, Bool, true, ◌&&◌, not, List, [], length, map, filter, flat_map, slice_get, Some}
use Rattle.std.specs.List.{list_all}
use Rattle.otlp_types.specs.declared.arrival.Arrival.{Arrival}
use Rattle.journal_theory.specs.Journal.{Settings}
use Rattle.journal_theory.specs.Fate.{under}
use Rattle.span_sink.specs.Manners.{takes_all}
use Rattle.world_theory.specs.World.{CoreConfig, CoreLane, CoreShard, World as Core, settings, has_due}
use Rattle.world_theory.specs.Step.{Step, is_empty, run}
use Rattle.world_theory.specs.Places.{IsClosed}
use Rattle.world_theory.specs.Headline.{HoldsOf, handed_spans}
use Rattle.drop_ledger.specs.declared.count.Count.{Count}
use Rattle.drop_ledger.specs.declared.count.Count.TheVariants.{Received, Handed, Dropped}
use Rattle.script_run.specs.World.{ScriptWorld, Sizes, OutputEvent}
use Rattle.script_run.specs.Counts.{number_reported}
use Rattle.script_run.specs.Writing.{handed_in}

-- the core's configuration, by the settings of each shard and the size of a batch
abbrev pub core_config : Settings → Sizes → CoreConfig
core_config s sizes = record { shard = s; batch_size = sizes.batch; manner = takes_all; names = [] }

-- how many spans of the core have this end
abbrev pub count_in : Core → Count → ℕ
count_in w Received = length (flat_map (λ (l : CoreLane). l.received) w.lanes)
count_in w Handed = length (handed_spans w)
count_in w (Dropped reason) = length (under reason w.counted)

-- the span was received on a connection of this lane
abbrev pub is_of_lane : (lane : ℕ) → Arrival → Bool
is_of_lane lane a = a.key.conn.lane == lane

-- nothing is queued, due or unshipped in the shard
abbrev pub is_quiet : Settings → CoreShard → Bool
is_quiet s sh = is_empty sh.queue && not (has_due s sh) && is_empty sh.unshipped

-- each span that waits is in a shard's buffer
pub record WaitsInBuffers (c : CoreConfig) (w : Core) : Type 0 where
  pub routed : list_all (λ (l : CoreLane). is_empty l.unrouted) w.lanes ≡ true
  pub taken : list_all (is_quiet (settings c w)) w.shards ≡ true
  pub pulled : w.exported ≡ []
  pub sent : w.batch ≡ []

-- A run of the core, for which the headline holds: its lanes received what the script's connections did, its shards
-- have the journals, it handed over the batches that were handed over, and its counts are the script's. Between two
-- lines all that waits is in the buffers. Once the script is closed, so is the core. `number` gives the script's
-- counts, and `handed_by` the batches that its events handed over.
pub record IsRunBy (number : Settings → ScriptWorld → Count → ℕ) (handed_by : List OutputEvent → List (List Arrival)) (s : Settings) (sizes : Sizes) (lanes shards : ℕ) (w : ScriptWorld) : Type 0 where
  pub steps : List Step
  pub core : Core
  pub runs : run (core_config s sizes) lanes shards steps ≡ Some core
  pub holds : HoldsOf (core_config s sizes) core
  pub received : (lane : ℕ) (l : CoreLane) → slice_get core.lanes lane ≡ Some l → l.received ≡ filter (is_of_lane lane) w.received
  pub journals : map (λ (sh : CoreShard). sh.journal) core.shards ≡ w.journals
  pub handed : core.handed ≡ handed_by w.events
  pub down : core.down ≡ w.sink.is_down
  pub counts : (count : Count) → count_in core count ≡ number s w count
  pub between : WaitsInBuffers (core_config s sizes) core
  pub closed : w.closed ≡ true → IsClosed (core_config s sizes) core

-- the same by the script's own counts and batches
abbrev pub IsRunOfCore : Settings → Sizes → (lanes shards : ℕ) → ScriptWorld → Type 0
IsRunOfCore s sizes lanes shards w = IsRunBy number_reported handed_in s sizes lanes shards w
