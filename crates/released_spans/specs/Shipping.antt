-- What a shard ships, and which spans that are.
use Rattle.std.specs.Prelude.{◌≡◌, ℕ, ◌==◌, Bool, false, List, [], ◌∷◌, map, Option}
use Rattle.otlp_types.specs.declared.arrival.Arrival.{Arrival}
use Rattle.released_spans.specs.declared.shipment.Shipment.{Shipment}
use Rattle.released_spans.specs.declared.shipment.Shipment.TheVariants.{Span, End}

-- the spans, each with this policy
abbrev pub shipments : Option ℕ → List Arrival → List Shipment
shipments policy spans = map (λ a. Span a policy) spans

-- the spans among shipments, in order
abbrev pub spans_among : List Shipment → List Arrival
spans_among [] = []
spans_among (Span a policy ∷ rest) = a ∷ spans_among rest
spans_among (End shard ∷ rest) = spans_among rest

-- the shipment is the End of this shard
abbrev pub is_shipped_end : (shard : ℕ) → Shipment → Bool
is_shipped_end shard (Span a policy) = false
is_shipped_end shard (End s) = s == shard

-- shipments are these spans, each with some policy or none, and no End is among them
pub record AreShipped (shipped : List Shipment) (spans : List Arrival) : Type 0 where
  pub pairs : List (Arrival × Option ℕ)
  pub shipped_are : shipped ≡ map (λ (x : Arrival × Option ℕ). Span x.0 x.1) pairs
  pub spans_are : map (λ (x : Arrival × Option ℕ). x.0) pairs ≡ spans
