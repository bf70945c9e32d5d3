-- What was popped of the shards' queues in turns.
-- For the contract of `work`.
use Rattle.std.proofs.Common.{◌≡◌, ℕ, List, [], ◌∷◌, ◌++◌, refl, sym, ap, ◌∙◌, subst, append_assoc, append-nil}
use Rattle.std.specs.Prelude.{Some, None}
use Rattle.released_spans.specs.declared.shipment.Shipment.{Shipment}
use Rattle.lane_queue.specs.Ends.{ReceiverState, PopsAt, queues, with_item}
use Rattle.lane_queue.specs.Merges.{IsMergeOf}
use Rattle.lane_queue.proofs.EndLists.{same_queues}
use Rattle.lane_queue.proofs.Merging.{merge_more}
use Rattle.span_exporter.specs.Work.{shipments_in}
use Rattle.span_exporter.specs.Turns.{ExporterTurn, idle, took, calls_in, PopsLead, Pops}

-- it is merged behind what was popped before
pub merged_in : (n : ℕ) (before : List (ℕ × Shipment)) (turns : List ExporterTurn) (old new : ReceiverState Shipment) → IsMergeOf old.ends before → PopsLead (Pops n) old turns new → IsMergeOf new.ends (before ++ shipments_in (calls_in turns))
merged_in n before [] old new merge same = subst (λ (r : ReceiverState Shipment). IsMergeOf r.ends (before ++ [])) (sym same) (subst (λ l. IsMergeOf old.ends l) (sym (append-nil before)) merge)
merged_in n before (idle answer ∷ turns) old new merge (between, pop, rest) = merged_in n before turns between new (subst (λ (r : ReceiverState Shipment). IsMergeOf r.ends before) (sym pop.0) merge) rest
merged_in n before (took shard shipment answer None ∷ turns) old new merge (between, pop, rest) =
    subst (λ l. IsMergeOf new.ends l) (append_assoc before ((shard, shipment) ∷ []) (shipments_in (calls_in turns)))
    (merged_in n (before ++ (shard, shipment) ∷ []) turns between new (merge_more n shard shipment old.ends between.ends before pop.takes merge) rest)
merged_in n before (took shard shipment answer (Some flush) ∷ turns) old new merge (between, pop, rest) =
    subst (λ l. IsMergeOf new.ends l) (append_assoc before ((shard, shipment) ∷ []) (shipments_in (calls_in turns)))
    (merged_in n (before ++ (shard, shipment) ∷ []) turns between new (merge_more n shard shipment old.ends between.ends before pop.takes merge) rest)

popped_same : (n shard : ℕ) (shipment : Shipment) (old new : ReceiverState Shipment) → PopsAt n shard shipment old new → queues new.ends ≡ queues old.ends
popped_same n shard shipment old new pop = ap queues pop.takes.2 ∙ same_queues old.ends shard pop.takes.0 (with_item pop.takes.0 shipment) pop.takes.1 refl

-- the queues are the same ones
pub same_in : (n : ℕ) (turns : List ExporterTurn) (old new : ReceiverState Shipment) → PopsLead (Pops n) old turns new → queues new.ends ≡ queues old.ends
same_in n [] old new same = ap (λ (r : ReceiverState Shipment). queues r.ends) same
same_in n (idle answer ∷ turns) old new (between, pop, rest) = same_in n turns between new rest ∙ ap (λ (r : ReceiverState Shipment). queues r.ends) pop.0
same_in n (took shard shipment answer flush ∷ turns) old new (between, pop, rest) = same_in n turns between new rest ∙ popped_same n shard shipment old between pop
