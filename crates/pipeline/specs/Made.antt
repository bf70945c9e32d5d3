-- What the threads of a run are given, and the lists into which what they leave is gathered.
use Rattle.std.specs.Prelude.{◌≡◌, ℕ, ◌+◌, Bool, true, false, List, [], ◌∷◌, ◌++◌, length, All}
use Rattle.otlp_types.specs.declared.arrival.Item.{Item}
use Rattle.released_spans.specs.declared.shipment.Shipment.{Shipment}
use Rattle.lane_queue.specs.Ends.{EndState, ReceiverState, AreTied, IsNew}
use Rattle.policy_tree.specs.Tree.{limiters}
use Rattle.policy_tree.specs.Meaning.{meaning}
use Rattle.policy_tree.specs.declared.limiter_node.LimiterNode.{LimiterNode}
use Rattle.policy_tree.specs.declared.policy.Policy.{Policy}
use Rattle.policy_eval.specs.Meaning.{knows}
use Rattle.lane_queue.specs.Grid.{IsTiedGrid, AreNewColumns}
use Rattle.shard_core.specs.Held.{Held, StandsFor, has_due, is_finished}
use Rattle.shared_budget.specs.Seats.{Stand, has_node}
use Rattle.shared_budget.specs.Budget.{AreNewSeats}
use Rattle.config_shards.specs.Shards.{CanBegin}
use Rattle.tsc_config.specs.declared.config.Config.{Config}

-- the numbers from the first on
abbrev pub NumberedFrom : (first : ℕ) → List ℕ → Type 0
NumberedFrom first [] = Unit {0}
NumberedFrom first (number ∷ numbers) = (number ≡ first) × NumberedFrom (first + 1) numbers

-- a configuration by which shards can be made, over queues of these capacities, at which a lane's push waits for room or
-- doesn't; a shard is no lane
abbrev pub CanRun : Config → (queue : ℕ) → (waits : Bool) → (export : ℕ) → (export_waits : Bool) → Type 0
CanRun config queue waits export export_waits = CanBegin config × (config.queue_capacity ≡ queue) × (config.export_capacity ≡ export) × (config.waits_for_room ≡ waits) × (export_waits ≡ false)

-- a seat is at each limiter node of these policies
abbrev pub HasNodes : (seat : List Stand) → List Policy → Type 0
HasNodes seat policies = knows (has_node seat) (limiters (meaning policies)) ≡ true

-- a shard that holds nothing yet, with new ends and a seat at each of its nodes
abbrev pub IsReady : Held → ReceiverState Item → EndState Shipment → (seat : List Stand) → Type 0
IsReady shard receiver sender seat =
    StandsFor shard [] 0 × (has_due shard ≡ false) × (is_finished shard ≡ false)
    × All IsNew receiver.ends × IsNew sender × HasNodes seat shard.policies

-- New queues and seats: the lanes' ports by shard, the ticker's ends, what the shards pop at, ship at and ask at, and
-- what the exporter pops at.
pub record HasEnds (nodes : List LimiterNode) (shards : ℕ) (ports : List (List (EndState Item))) (ticker : List (EndState Item)) (receivers : List (ReceiverState Item)) (senders : List (EndState Shipment)) (seats : List (List Stand)) (shipments : ReceiverState Shipment) : Type 0 where
  pub tied : IsTiedGrid (ports ++ ticker ∷ []) receivers
  pub new_columns : AreNewColumns (ports ++ ticker ∷ [])
  pub new_seats : AreNewSeats nodes shards seats
  pub shipped : AreTied senders shipments.ends
  pub shipment_ends : length shipments.ends ≡ shards
