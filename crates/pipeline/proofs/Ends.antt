-- The ends and seats that the jobs were given are new, and of the same queues and cells.
-- For the contract of making::make.
use Rattle.std.proofs.Common.{◌≡◌, ℕ, Bool, Some, refl, List, [], ◌∷◌, ◌++◌, length, sym, ap, subst, ◌∙◌}
use Rattle.std.proofs.lemmas.List.{length-map}
use Rattle.std.proofs.lemmas.List.Elements.{All-pop}
use Rattle.atomic_table.specs.Seated.{TableId}
use Rattle.otlp_types.specs.declared.arrival.Item.{Item}
use Rattle.released_spans.specs.declared.shipment.Shipment.{Shipment}
use Rattle.lane_queue.specs.Ends.{EndState, ReceiverState, AreTied, WaitAs}
use Rattle.policy_tree.specs.declared.limiter_node.LimiterNode.{LimiterNode}
use Rattle.lane_queue.specs.Grid.{IsTiedGrid, AreNewColumns, ColumnsWaitAs}
use Rattle.shared_budget.specs.Seats.{Stand}
use Rattle.shared_budget.specs.Budget.{AreNewSeats}
use Rattle.pipeline.specs.Made.{HasEnds}

pub has_ends : (nodes : List LimiterNode) (shards : ℕ) (columns ports : List (List (EndState Item))) (ticker : List (EndState Item)) (receivers given : List (ReceiverState Item)) (exports senders : List (EndState Shipment)) (all seats : List (List Stand)) (shipments : ReceiverState Shipment)
    → columns ≡ ports ++ ticker ∷ [] → given ≡ receivers → senders ≡ exports → seats ≡ all
    → IsTiedGrid columns receivers → AreNewColumns columns → AreNewSeats nodes shards all → AreTied exports shipments.ends → length exports ≡ shards
    → HasEnds nodes shards ports ticker given senders seats shipments
has_ends nodes shards columns ports ticker receivers given exports senders all seats shipments dealt same_receivers same_senders same_seats tied new new_seats shipped count = record {
  tied = subst (λ z. IsTiedGrid z given) dealt (subst (IsTiedGrid columns) (sym same_receivers) tied);
  new_columns = subst AreNewColumns dealt new;
  new_seats = subst (AreNewSeats nodes shards) (sym same_seats) new_seats;
  shipped = subst (λ z. AreTied z shipments.ends) (sym same_senders) shipped;
  shipment_ends = sym (length-map shipments.ends (λ (e : EndState Shipment). e.queue)) ∙ (ap (λ (z : List TableId). length z) (sym shipped) ∙ (length-map exports (λ (e : EndState Shipment). e.queue) ∙ count));
}

-- what is so of all ends is so of the lanes', behind which the ticker's stand
pub lanes_wait : (waits : Bool) (columns ports : List (List (EndState Item))) (ticker : List (EndState Item)) → columns ≡ ports ++ ticker ∷ [] → ColumnsWaitAs waits columns → ColumnsWaitAs waits ports
lanes_wait waits columns ports ticker dealt all = (All-pop (λ (c : List (EndState Item)). WaitAs waits c) (ports ++ ticker ∷ []) ports (Some ticker) refl (subst (ColumnsWaitAs waits) dealt all)).0
