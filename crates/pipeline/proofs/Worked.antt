-- The threads of a run did what each promises: their queues and seats may be joined again, and then they have worked.
-- For the contract of running::run_over.
use Rattle.std.proofs.Common.{◌≡◌, ℕ, ◌+◌, ◌<◌, ◌||◌, Bool, false, List, [], ◌∷◌, ◌++◌, length, map, Option, All, refl, sym, ap, subst, ◌∙◌, append_assoc}
use Rattle.std.specs.List.{list_any}
use Rattle.std.proofs.lemmas.List.{length-map, map-append}
use Rattle.std.proofs.lemmas.List.Elements.{All-nil, All-cons, All-head, All-tail}
use Rattle.atomic_table.specs.Seated.{TableId}
use Rattle.otlp_types.specs.declared.arrival.Item.{Item}
use Rattle.released_spans.specs.declared.shipment.Shipment.{Shipment}
use Rattle.lane_queue.specs.Ends.{EndState, queues, AreTied, HasHistoryAt}
use Rattle.lane_worker.specs.Serving.{LaneAt}
use Rattle.policy_tree.specs.declared.limiter_node.LimiterNode.{LimiterNode}
use Rattle.lane_queue.specs.Grid.{IsTiedGrid, HaveHistories}
use Rattle.journal_theory.specs.Journal.{Settings}
use Rattle.shared_budget.specs.Budget.{AreOfOneBudget, NewSeatsAreOfOne, AskingKeepsCells, SameCellsSuffice, HaveOneHistoryEach}
use Rattle.run_weave.specs.Jobs.{TickerDid, ExporterDid}
use Rattle.run_weave.specs.Workers.{zeros, LaneOut, ShardIn, ShardOut, LanesDid, ShardsDid, Given, Left, senders_of, Worked}
use Rattle.run_weave.proofs.Ties.{lanes_queues, ticks_queues, shards_queues, shards_senders, shards_cells, tied_still}
use Rattle.pipeline.specs.Made.{HasEnds}

-- what was mapped and mapped again
pub twice : {X Y Z : Type 0} (f : Y → Z) (g : X → Y) (xs : List X) → map f (map g xs) ≡ map (λ (x : X). f (g x)) xs
twice f g [] = refl
twice f g (x ∷ xs) = ap (λ (z : List _). f (g x) ∷ z) (twice f g xs)

pub all_mapped : {X Y : Type 0} (P : Y → Type 0) (f : X → Y) (xs : List X) → All (λ (x : X). P (f x)) xs → All P (map f xs)
all_mapped P f [] h = All-nil P
all_mapped P f (x ∷ xs) h = All-cons P (f x) (map f xs) (All-head (λ (x : _). P (f x)) x xs h) (all_mapped P f xs (All-tail (λ (x : _). P (f x)) x xs h))

pub all_both : {X : Type 0} (P Q R : X → Type 0) (xs : List X) → ((x : X) → P x → Q x → R x) → All P xs → All Q xs → All R xs
all_both P Q R [] f h k = All-nil R
all_both P Q R (x ∷ xs) f h k = All-cons R x xs (f x (All-head P x xs h) (All-head Q x xs k)) (all_both P Q R xs f (All-tail P x xs h) (All-tail Q x xs k))

-- what lanes, shards and one more counted
pub counted_by_all : {X Y : Type 0} (of_lane : X → List ℕ) (of_shard : Y → List ℕ) (first : List X) (third : List Y) (last : List ℕ) (none lanes shards all : List (List ℕ)) → none ≡ [] → lanes ≡ none ++ map of_lane first → shards ≡ lanes ++ map of_shard third → all ≡ shards ++ last ∷ []
    → all ≡ map of_lane first ++ (map of_shard third ++ last ∷ [])
counted_by_all of_lane of_shard first third last none lanes shards all empty by_lanes by_shards by_all =
    by_all ∙ (ap (λ (z : List (List ℕ)). z ++ last ∷ []) (by_shards ∙ ap (λ (z : List (List ℕ)). z ++ map of_shard third) (by_lanes ∙ ap (λ (z : List (List ℕ)). z ++ map of_lane first) empty))
    ∙ append_assoc (map of_lane first) (map of_shard third) (last ∷ []))

-- some mapped element passes where one passes mapped
pub any_mapped : {X Y : Type 0} (test : Y → Bool) (f : X → Y) (xs : List X) → list_any test (map f xs) ≡ list_any (λ (x : X). test (f x)) xs
any_mapped test f [] = refl
any_mapped test f (x ∷ xs) = ap (λ (b : Bool). test (f x) || b) (any_mapped test f xs)

module _ {F T : Type 0} (serves : ℕ → F → LaneAt → F → LaneAt → Bool → Type 0) (ticks_give : T → Option ℕ → T → Type 0) (s : Settings) (nodes : List LimiterNode) (keeps_doubles : Bool) (capacity lanes shards : ℕ) (given : Given F T) (left : Left) where
  -- all did what they promise, with new ends and seats
  pub record Done : Type 0 where
    pub lane_count : length given.acceptors ≡ lanes
    pub shard_count : length given.shards ≡ shards
    pub senders : s.senders ≡ lanes + 1
    pub ends : HasEnds nodes shards given.columns given.ticker (map (λ (x : ShardIn). x.receiver) given.shards) (map (λ (x : ShardIn). x.sender) given.shards) (map (λ (x : ShardIn). x.seat) given.shards) given.shipments
    pub new_batch : given.exporter.batch ≡ []
    pub up : given.exporter.sink.is_down ≡ false
    pub exporter_ends : length given.exporter.ends ≡ shards
    pub lanes_did : LanesDid serves keeps_doubles capacity 0 given.acceptors given.columns left.lanes
    pub ticker_did : TickerDid ticks_give lanes given.ticks given.ticker left.ticker
    pub shards_did : ShardsDid capacity s 0 given.shards left.shards
    pub exporter_did : ExporterDid given.exporter given.shipments zeros left.exporter.exporter left.exporter.receiver left.exporter.counted left.exporter.is_full

  pub tied_left : Done → IsTiedGrid (senders_of left) (map (λ (x : ShardOut). x.receiver) left.shards)
  tied_left d = tied_still (given.columns ++ given.ticker ∷ []) (senders_of left) (map (λ (x : ShardIn). x.receiver) given.shards) (map (λ (x : ShardOut). x.receiver) left.shards)
      (map-append (λ (column : List (EndState Item)). queues column) (map (λ (out : LaneOut). out.senders) left.lanes) (left.ticker ∷ [])
      ∙ (ap (λ (z : List (List TableId)). z ++ queues left.ticker ∷ []) (lanes_queues serves keeps_doubles capacity 0 given.acceptors given.columns left.lanes d.lanes_did)
      ∙ (ap (λ (z : List TableId). map (λ (column : List (EndState Item)). queues column) given.columns ++ z ∷ []) (ap queues d.ticker_did.ends ∙ ticks_queues d.ticker_did.moments lanes given.ticker)
      ∙ sym (map-append (λ (column : List (EndState Item)). queues column) given.columns (given.ticker ∷ [])))))
      (shards_queues capacity s 0 given.shards left.shards d.shards_did) d.ends.tied

  pub shipped_left : Done → AreTied (map (λ (x : ShardOut). x.sender) left.shards) left.exporter.receiver.ends
  shipped_left d = shards_senders capacity s 0 given.shards left.shards d.shards_did ∙ (d.ends.shipped ∙ sym d.exporter_did.same_queues)

  pub seats_left : NewSeatsAreOfOne → AskingKeepsCells → SameCellsSuffice → Done → AreOfOneBudget (map (λ (x : ShardOut). x.seat) left.shards)
  seats_left new keeps same d = same (map (λ (x : ShardIn). x.seat) given.shards) (map (λ (x : ShardOut). x.seat) left.shards) (shards_cells keeps capacity s 0 given.shards left.shards d.shards_did)
      (new nodes shards (map (λ (x : ShardIn). x.seat) given.shards) d.ends.new_seats)

  -- so many ends has the exporter
  pub shipment_ends : Done → length left.exporter.receiver.ends ≡ shards
  shipment_ends d = sym (length-map left.exporter.receiver.ends (λ (e : EndState Shipment). e.queue)) ∙ (ap (λ (z : List TableId). length z) d.exporter_did.same_queues ∙ (length-map given.shipments.ends (λ (e : EndState Shipment). e.queue) ∙ d.ends.shipment_ends))

  pub worked : (export_capacity : ℕ) → Done → HaveHistories capacity (senders_of left) (map (λ (x : ShardOut). x.receiver) left.shards)
      → ((k : ℕ) → k < length left.exporter.receiver.ends → HasHistoryAt export_capacity (map (λ (x : ShardOut). x.sender) left.shards) left.exporter.receiver.ends k)
      → HaveOneHistoryEach (map (λ (x : ShardOut). x.seat) left.shards)
      → Worked serves ticks_give s nodes keeps_doubles capacity export_capacity lanes shards given left
  worked export_capacity d histories shipped seats = record {
    lane_count = d.lane_count;
    shard_count = d.shard_count;
    senders = d.senders;
    tied = d.ends.tied;
    new_columns = d.ends.new_columns;
    new_seats = d.ends.new_seats;
    new_batch = d.new_batch;
    up = d.up;
    exporter_ends = d.exporter_ends;
    shipment_ends = d.ends.shipment_ends;
    lanes_did = d.lanes_did;
    ticker_did = d.ticker_did;
    shards_did = d.shards_did;
    exporter_did = d.exporter_did;
    histories = histories;
    shipped = λ k below. shipped k (subst (λ n. k < n) (sym (shipment_ends d)) below);
    seats = seats;
  }
