-- The size of an episode's spans, after each change.
-- For the invariant of `Episode`, and the clause of `size_within`.
use Rattle.std.proofs.Common.{◌≡◌, ℕ, ◌+◌, ◌-◌, ◌^◌, min, List, [], ◌∷◌, ◌++◌, length, refl, sym, ap, ◌∙◌, arith}
use Rattle.otlp_types.specs.declared.arrival.Arrival.{Arrival}
use Rattle.span_size.specs.Size.{span_text, size_of}
use Rattle.span_size.proofs.Totals.{one-adds}

-- no spans have no size
pub size-none : 0 ≡ size_of []
unfolding size_of
size-none = refl

-- the size of one span
pub size-one : (a : Arrival) → min (length (span_text a.rec.span)) (2 ^ 64 - 1) ≡ size_of (a ∷ [])
unfolding size_of
size-one a = omega arith

-- one span more
pub size-more : (spans items : List Arrival) (a : Arrival) (size one sum : ℕ) → size ≡ size_of spans → one ≡ size_of (a ∷ []) → sum ≡ min (size + one) (2 ^ 64 - 1) → items ≡ spans ++ a ∷ [] → sum ≡ size_of items
size-more spans items a size one sum s o m e =
    m ∙ ap (λ (n : ℕ). min (n + one) (2 ^ 64 - 1)) s ∙ ap (λ (n : ℕ). min (size_of spans + n) (2 ^ 64 - 1)) o ∙ sym (one-adds spans a) ∙ ap size_of (sym e)
