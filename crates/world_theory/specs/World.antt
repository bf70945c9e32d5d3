-- The core's world: lanes, shards and the exporter as plain lists.
-- The queues have no limit here: that a queue was full is an input of the step `refuse`.
use Rattle.std.specs.Prelude.{◌≢◌, ℕ, ◌+◌, Bool, false, ◌&&◌, ◌||◌, ◌==◌, nat_lt, List, [], length, replicate, Option, Some, None}
use Rattle.policy_tree.specs.Tree.{Policies}
use Rattle.journal_theory.specs.Journal.{Settings, Journal, due_now}
use Rattle.journal_theory.specs.Fate.{DroppedSpan}
use Rattle.otlp_types.specs.declared.span.Ids.{Ids}
use Rattle.otlp_types.specs.declared.arrival.Arrival.{Arrival}
use Rattle.span_ids.specs.Route.{shard_of}
use Rattle.span_ids.specs.declared.keys.ConnKey.{ConnKey}
use Rattle.span_ids.specs.declared.keys.ArrivalKey.{ArrivalKey}
use Rattle.span_sink.specs.Manners.{Manner, refuses}

-- ---- the world

-- the settings of each shard, whose senders are those of the world, the greatest number of spans in a batch, what their
-- destination may do, and the names by which policies are recorded in lines, if they are; a cache of size 0 is off
pub record CoreConfig : Type 0 where
  pub shard : Settings
  pub batch_size : ℕ
  pub manner : Manner
  pub names : List (List ℕ)

-- a batch may be given up for its destination: it may refuse one, or it is down
abbrev pub may_give_up : CoreConfig → (down : Bool) → Bool
may_give_up c down = refuses c.manner || down

-- a limit is at least 1: with a limit of 0 a span that opens an episode would stand nowhere
abbrev pub KeepsATrace : CoreConfig → Type 0
KeepsATrace c = c.shard.num_traces ≢ Some 0

-- a lane: what it has received, what of that has valid ids and is still to be routed, and whether it receives no more
pub record CoreLane : Type 0 where
  pub received : List Arrival
  pub unrouted : List Arrival
  pub ended : Bool

-- a shard: its queue, its journal, how many of the decisions at the journal's last item were dealt with, and what it
-- released and has not shipped
pub record CoreShard : Type 0 where
  pub queue : List Arrival
  pub journal : Journal
  pub dealt : ℕ
  pub unshipped : List Arrival

-- The lanes, the shards and the exporter. What is counted is one list of keys, each with its reason: it keeps the order
-- between reasons too, as the steps give it.
pub record World : Type 0 where
  pub lanes : List CoreLane
  pub shards : List CoreShard
  pub exported : List Arrival
  pub batch : List Arrival
  pub handed : List (List Arrival)
  pub counted : List DroppedSpan
  pub down : Bool

-- a lane that has received nothing
abbrev pub new_lane : CoreLane
new_lane = record { received = []; unrouted = []; ended = false }

-- a shard that has taken nothing
abbrev pub new_shard : CoreShard
new_shard = record { queue = []; journal = []; dealt = 0; unshipped = [] }

-- the world before any step, with so many lanes and shards
abbrev pub new_world : (lanes shards : ℕ) → World
new_world lanes shards = record { lanes = replicate lanes new_lane; shards = replicate shards new_shard; exported = []; batch = []; handed = []; counted = []; down = false }

-- a shard's senders are the lanes by their numbers, then the ticker: this is the ticker's number
abbrev pub ticker : World → ℕ
ticker w = length w.lanes

-- the settings of each shard, with so many senders
abbrev pub settings_for : CoreConfig → (senders : ℕ) → Settings
settings_for c senders = record (c.shard) { senders = senders }

-- the settings of each shard of the world
abbrev pub settings : CoreConfig → World → Settings
settings c w = settings_for c (length w.lanes + 1)

-- something is due: an episode was due at the shard's last item and was not dealt with
abbrev pub has_due : Settings → CoreShard → Bool
has_due s sh = nat_lt sh.dealt (length (due_now s sh.journal))

-- ---- keys and routes

-- two connection keys are the same
abbrev pub is_same_conn : ConnKey → ConnKey → Bool
is_same_conn c d = (c.lane == d.lane) && (c.ordinal == d.ordinal)

-- two arrival keys are the same
abbrev pub same_key : ArrivalKey → ArrivalKey → Bool
same_key j k = (j.conn.lane == k.conn.lane) && (j.conn.ordinal == k.conn.ordinal) && (j.number == k.number)

-- the ids are valid and their trace goes to this of so many shards
abbrev pub ids_go_to : (shards shard : ℕ) → Option Ids → Bool
ids_go_to shards shard None = false
ids_go_to shards shard (Some ids) = shard_of ids.trace shards == shard

-- the arrival's ids are valid and its trace goes to this of so many shards
abbrev pub goes_to : (shards shard : ℕ) → Arrival → Bool
goes_to shards shard a = ids_go_to shards shard a.rec.span.ids
