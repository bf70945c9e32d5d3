-- How the core stands between two lines of a script.
-- For the contract of `scripts_are_runs_of_the_core`.
use Rattle.std.specs.Prelude.{◌≡◌, ℕ, zero, suc, ◌+◌, true, false, List, [], ◌∷◌, length, map, filter, Some}
use Rattle.std.specs.List.{AllByRecursion}
use Rattle.otlp_types.specs.declared.arrival.Arrival.{Arrival}
use Rattle.span_ids.specs.declared.outcome.Reason.{Reason}
use Rattle.journal_theory.specs.Journal.{Settings, Journal, due_now, has_ended}
use Rattle.journal_theory.specs.Fate.{under}
use Rattle.world_theory.specs.World.{CoreLane, CoreShard, World as Core}
use Rattle.world_theory.specs.Step.{Step, run_from}
use Rattle.world_theory.specs.Places.{IsClosed}
use Rattle.world_theory.specs.Headline.{handed_spans}
use Rattle.drop_ledger.specs.declared.count.Count.TheVariants.{Handed, Dropped}
use Rattle.script_run.specs.World.{ScriptWorld, Sizes}
use Rattle.script_run.specs.Counts.{number_reported}
use Rattle.script_run.specs.Writing.{handed_in}
use Rattle.script_run.specs.CoreRun.{core_config, is_of_lane}

-- a shard that took this journal, decided all that was due and shipped all, with this queue
abbrev pub quiet_shard : Settings → (queue : List Arrival) → Journal → CoreShard
quiet_shard s queue past = record { queue = queue; journal = past; dealt = length (due_now s past); unshipped = [] }

-- the shards with these queues and journals
abbrev pub shards_with : Settings → (queues : List (List Arrival)) → List Journal → List CoreShard
shards_with s (queue ∷ queues) (past ∷ pasts) = quiet_shard s queue past ∷ shards_with s queues pasts
shards_with s _ _ = []

-- a lane that has routed all that it received
abbrev pub routed_lane : ScriptWorld → (lane : ℕ) → CoreLane
routed_lane w lane = record { received = filter (is_of_lane lane) w.received; unrouted = []; ended = w.closed }

-- so many lanes, the first of which has this number
abbrev pub lanes_from : ScriptWorld → (lane lanes : ℕ) → List CoreLane
lanes_from w lane zero = []
lanes_from w lane (suc more) = routed_lane w lane ∷ lanes_from w (lane + 1) more

-- an empty queue for each of these journals
abbrev pub no_queues : List Journal → List (List Arrival)
no_queues pasts = map (λ past. []) pasts

-- the journal has no sender's End
abbrev pub HasNoEnd : Journal → Type 0
HasNoEnd past = (sender : ℕ) → has_ended past sender ≡ false

-- the core stands as the script's world says, with these queues
pub record Stands (s : Settings) (sizes : Sizes) (w : ScriptWorld) (queues : List (List Arrival)) (k : Core) : Type 0 where
  pub lanes : k.lanes ≡ lanes_from w 0 (length w.contacts.connected)
  pub senders : s.senders ≡ length w.contacts.connected + 1
  pub same : length queues ≡ length w.journals
  pub shards : k.shards ≡ shards_with s queues w.journals
  pub exported : k.exported ≡ []
  pub batch : k.batch ≡ []
  pub handed : k.handed ≡ handed_in w.events
  pub down : k.down ≡ w.sink.is_down
  pub dropped : (reason : Reason) → length (under reason k.counted) ≡ number_reported s w (Dropped reason)
  pub handed_over : length (handed_spans k) ≡ number_reported s w Handed
  pub «open» : w.closed ≡ false → AllByRecursion HasNoEnd w.journals
  pub closed : w.closed ≡ true → IsClosed (core_config s sizes) k

-- steps lead from this state of the core to one that stands so
abbrev pub Reaches : (s : Settings) (sizes : Sizes) (k : Core) (new : ScriptWorld) (queues : List (List Arrival)) → Type 0
Reaches s sizes k new queues = (steps : List Step) × (after : Core) × (run_from (core_config s sizes) k steps ≡ Some after) × Stands s sizes new queues after
