-- What is shipped, piece by piece.
use Rattle.std.proofs.Common.{◌≡◌, ℕ, false, List, [], ◌∷◌, ◌++◌, map, Option, refl, sym, ap, ◌∙◌}
use Rattle.std.specs.List.{list_any}
use Rattle.std.proofs.lemmas.List.{map-append}
use Rattle.otlp_types.specs.declared.arrival.Arrival.{Arrival}
use Rattle.released_spans.specs.declared.shipment.Shipment.{Shipment}
use Rattle.released_spans.specs.declared.shipment.Shipment.TheVariants.{Span, End}
use Rattle.released_spans.specs.Shipping.{shipments, spans_among, is_shipped_end, AreShipped}

-- nothing
pub shipped_none : AreShipped [] []
shipped_none = record { pairs = []; shipped_are = refl; spans_are = refl }

-- spans with one policy
pub shipped_with : (policy : Option ℕ) (spans : List Arrival) → AreShipped (shipments policy spans) spans
shipped_with policy spans = record { pairs = map (λ a. (a, policy)) spans; shipped_are = items spans; spans_are = back spans }
  where
    items : (spans : List Arrival) → shipments policy spans ≡ map (λ (x : Arrival × Option ℕ). Span x.0 x.1) (map (λ a. (a, policy)) spans)
    items [] = refl
    items (a ∷ rest) = ap (λ (z : List Shipment). Span a policy ∷ z) (items rest)

    back : (spans : List Arrival) → map (λ (x : Arrival × Option ℕ). x.0) (map (λ a. (a, policy)) spans) ≡ spans
    back [] = refl
    back (a ∷ rest) = ap (λ (z : List Arrival). a ∷ z) (back rest)

-- some, and then more
pub shipped_both : (first more : List Shipment) (spans others : List Arrival) → AreShipped first spans → AreShipped more others → AreShipped (first ++ more) (spans ++ others)
shipped_both first more spans others a b = record {
  pairs = a.pairs ++ b.pairs;
  shipped_are = ap (λ (z : List Shipment). z ++ more) a.shipped_are ∙ ap (λ (z : List Shipment). map (λ (x : Arrival × Option ℕ). Span x.0 x.1) a.pairs ++ z) b.shipped_are
      ∙ sym (map-append (λ (x : Arrival × Option ℕ). Span x.0 x.1) a.pairs b.pairs);
  spans_are = map-append (λ (x : Arrival × Option ℕ). x.0) a.pairs b.pairs ∙ ap (λ (z : List Arrival). z ++ map (λ (x : Arrival × Option ℕ). x.0) b.pairs) a.spans_are
      ∙ ap (λ (z : List Arrival). spans ++ z) b.spans_are;
}

-- the spans among them are these
pub among_shipped : (shipped : List Shipment) (spans : List Arrival) → AreShipped shipped spans → spans_among shipped ≡ spans
among_shipped shipped spans a = ap spans_among a.shipped_are ∙ all a.pairs ∙ a.spans_are
  where
    all : (pairs : List (Arrival × Option ℕ)) → spans_among (map (λ (x : Arrival × Option ℕ). Span x.0 x.1) pairs) ≡ map (λ (x : Arrival × Option ℕ). x.0) pairs
    all [] = refl
    all (x ∷ rest) = ap (λ (z : List Arrival). x.0 ∷ z) (all rest)

-- no shard's End is among them
pub no_end_shipped : (shard : ℕ) (shipped : List Shipment) (spans : List Arrival) → AreShipped shipped spans → list_any (is_shipped_end shard) shipped ≡ false
no_end_shipped shard shipped spans a = ap (list_any (is_shipped_end shard)) a.shipped_are ∙ none a.pairs
  where
    none : (pairs : List (Arrival × Option ℕ)) → list_any (is_shipped_end shard) (map (λ (x : Arrival × Option ℕ). Span x.0 x.1) pairs) ≡ false
    none [] = refl
    none (x ∷ rest) = none rest

-- the spans among them, in front of an End
pub among_before_end : (shard : ℕ) (shipped : List Shipment) → spans_among (shipped ++ End shard ∷ []) ≡ spans_among shipped
among_before_end shard [] = refl
among_before_end shard (Span a policy ∷ rest) = ap (λ (z : List Arrival). a ∷ z) (among_before_end shard rest)
among_before_end shard (End s ∷ rest) = among_before_end shard rest
