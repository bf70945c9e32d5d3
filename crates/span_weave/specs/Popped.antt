-- What was popped of queues, where each sender's last item, its End, was popped.
use Rattle.std.specs.Prelude.{◌≡◌, ℕ, ◌+◌, ◌<◌, ◌≤◌, true, false, List, [], ◌∷◌, ◌++◌, map, reverse}
use Rattle.std.specs.List.{AllByRecursion, list_any}
use Rattle.otlp_types.specs.declared.arrival.Arrival.{Arrival}
use Rattle.otlp_types.specs.declared.arrival.Item.{Item}
use Rattle.otlp_types.specs.declared.arrival.Item.TheVariants.{End}
use Rattle.released_spans.specs.declared.shipment.Shipment.{Shipment}
use Rattle.released_spans.specs.declared.shipment.Shipment.TheVariants.{Span as ShippedSpan, End as ShippedEnd}
use Rattle.journal_theory.specs.Journal.{Entry, is_end_of, have_ended}
use Rattle.lane_queue.specs.Merges.{of}
use Rattle.released_spans.specs.Shipping.{is_shipped_end, spans_among}
use Rattle.span_weave.specs.Threads.{items_of}

-- no sender's End is among the items
abbrev pub HaveNoEnd : List Item → Type 0
HaveNoEnd items = (sender : ℕ) → list_any (is_end_of sender) items ≡ false

-- A shard popped of each sender the first part of what that sender sent, which is items without an End, and then its
-- own End; the rest is still held. Where the shard has finished, nothing is held.
abbrev pub AllWasPopped : Type 0
AllWasPopped = (lanes : ℕ) (popped : List (ℕ × Entry)) (sent held : (sender : ℕ) → List Item)
    → AllByRecursion (λ (x : ℕ × Entry). x.0 ≤ lanes) popped
    → ((sender : ℕ) → sender ≤ lanes → HaveNoEnd (sent sender) × (items_of sender popped ++ held sender ≡ sent sender ++ End sender ∷ []))
    → have_ended (reverse (map (λ (x : ℕ × Entry). x.1) popped)) (lanes + 1) ≡ true
    → (sender : ℕ) → sender ≤ lanes → items_of sender popped ≡ sent sender ++ End sender ∷ []

-- the spans among the shipments, each with its shard
abbrev pub spans_popped : List (ℕ × Shipment) → List (ℕ × Arrival)
spans_popped [] = []
spans_popped ((shard, ShippedSpan a policy) ∷ rest) = (shard, a) ∷ spans_popped rest
spans_popped ((shard, ShippedEnd s) ∷ rest) = spans_popped rest

-- The exporter popped of each shard the first part of what that shard sent, which is shipments without an End and then
-- its End; the rest is still held. Where it popped every End, it popped all spans.
abbrev pub AllWasPulled : Type 0
AllWasPulled = (shards : ℕ) (popped : List (ℕ × Shipment)) (sent : (shard : ℕ) → List Shipment) (held : (shard : ℕ) → List Shipment)
    → AllByRecursion (λ (x : ℕ × Shipment). x.0 < shards) popped
    → ((shard : ℕ) → shard < shards → ((end : ℕ) → list_any (is_shipped_end end) (sent shard) ≡ false) × (of shard popped ++ held shard ≡ sent shard ++ ShippedEnd shard ∷ []))
    → ((shard : ℕ) → shard < shards → list_any (λ (x : ℕ × Shipment). is_shipped_end shard x.1) popped ≡ true)
    → AllByRecursion (λ (x : ℕ × Arrival). x.0 < shards) (spans_popped popped)
    × ((shard : ℕ) → shard < shards → of shard (spans_popped popped) ≡ spans_among (sent shard))
