-- What fits nests no deeper than it may, and is read again.
-- For the invariant of block.rt.
use Rattle.std.proofs.Common.{ℕ, zero, suc, List, [], ◌∷◌, inl, inr, arith}
use Rattle.std.specs.List.{All, AllByRecursion}
use Rattle.otlp_types.specs.declared.value.AnyValue.{AnyValue, out-AnyValue}
use Rattle.otlp_types.specs.declared.value.KeyValue.{KeyValue}
use Rattle.otlp_types.specs.declared.span.Span.{Span}
use Rattle.otlp_protobuf.specs.Values.{items_in, pairs_in, most_levels}
use Rattle.otlp_protobuf.specs.Nesting.{NestsAtMost, AttributeNests, AttributesNest, EventNests, LinkNests}
use Rattle.otlp_protobuf_encode.specs.ReadsBack.{LinkIdsRead, SpanReads}
use Rattle.span_block.specs.Fits.{ValueFits, PairFits, EventFits, LinkFits, HasBlock}

-- what holds of each element
pub all_of : {A : Type 0} (P Q : A → Type 0) → ((x : A) → P x → Q x) → (xs : List A) → AllByRecursion P xs → All Q xs
all_of P Q f [] h k d below = absurd (omega (arith, below))
all_of P Q f (x ∷ xs) h zero d below = f x h.0
all_of P Q f (x ∷ xs) h (suc k) d below = all_of P Q f xs h.1 k d (omega (arith, below))

pub each : {A : Type 0} (P Q : A → Type 0) → ((x : A) → P x → Q x) → (xs : List A) → AllByRecursion P xs → AllByRecursion Q xs
each P Q f [] h = tt
each P Q f (x ∷ xs) h = (f x h.0, each P Q f xs h.1)

pub value_nests : (n : ℕ) (v : AnyValue) → ValueFits n v → NestsAtMost n v
unfolding ValueFits NestsAtMost
value_nests zero v h = h
value_nests (suc n) v h = (
  all_of (ValueFits n) (NestsAtMost n) (value_nests n) (items_in (out-AnyValue v)) h.0,
  all_of (PairFits n) (AttributeNests n) (λ p f. elim f as (λ _. AttributeNests n p) [ inl e ↦ inl e | inr g ↦ inr (value_nests n p.value g) ]) (pairs_in (out-AnyValue v)) h.1,
)

pub pair_nests : (n : ℕ) (p : KeyValue) → PairFits n p → AttributeNests n p
pair_nests n p (inl e) = inl e
pair_nests n p (inr f) = inr (value_nests n p.value f)

attributes_nest : (n : ℕ) (ps : List KeyValue) → AllByRecursion (PairFits n) ps → AttributesNest n ps
attributes_nest n ps h = all_of (PairFits n) (AttributeNests n) (pair_nests n) ps h

pub span_reads : (s : Span) → HasBlock s → SpanReads s
span_reads s h = (
  record {
    attributes = attributes_nest most_levels s.attributes h.parts.attributes;
    events = all_of (EventFits most_levels) (EventNests most_levels) (λ e f. attributes_nest most_levels e.attributes f) s.events h.parts.events;
    links = all_of (LinkFits most_levels) (LinkNests most_levels) (λ l f. attributes_nest most_levels l.attributes f.attributes) s.links h.parts.links;
  },
  (h.ids, each (LinkFits most_levels) LinkIdsRead (λ l f. (f.trace_id, f.span_id)) s.links h.parts.links),
)
