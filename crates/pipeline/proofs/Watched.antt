-- What was popped where a watcher is told of it.
-- For the contract of watched_inbox::work_watched.
use Rattle.std.proofs.Common.{◌≡◌, ℕ, List, [], ◌∷◌, ap}
use Rattle.lane_queue.specs.Ends.{ReceiverState}
use Rattle.released_spans.specs.declared.shipment.Shipment.{Shipment}
use Rattle.span_exporter.specs.Turns.{ExporterTurn, PopsLead, Pops}

-- what leads from one watched end to another leads from the one end that is watched to the other
pub watched_pops : {I : Type 0} (end_of : I → ReceiverState Shipment) (n : ℕ) (turns : List ExporterTurn) (old new : I)
    → PopsLead (λ (before : I) given (after : I). Pops n (end_of before) given (end_of after)) old turns new → PopsLead (Pops n) (end_of old) turns (end_of new)
watched_pops end_of n [] old new same = ap end_of same
watched_pops end_of n (turn ∷ turns) old new (between, pop, rest) = (end_of between, pop, watched_pops end_of n turns between new rest)
