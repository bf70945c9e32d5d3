-- One more push, and how many of them can be refused.
-- For the contracts of `push_all` and `lacks_room`.
use Rattle.std.proofs.Common.{◌≡◌, ℕ, ◌+◌, ◌<◌, ◌≤◌, nat_le, Bool, true, false, List, [], ◌∷◌, ◌++◌, length, Option, Some, None, refl, subst, arith, inl, inr, length-append}
use Rattle.std.specs.Prelude.{filter}
use Rattle.std.proofs.lemmas.List.Elements.{filter-append}
use Rattle.std.proofs.lemmas.Bool.{leb-true, leb-false}
use Rattle.otlp_types.specs.declared.span.Ids.{Ids}
use Rattle.otlp_types.specs.declared.arrival.Arrival.{Arrival}
use Rattle.otlp_types.specs.declared.arrival.Item.{Item}
use Rattle.otlp_types.specs.declared.arrival.Item.TheVariants.{Span}
use Rattle.lane_seq.specs.Numbers.{is_invalid}
use Rattle.lane_seq.specs.Pushes.{PushesOne, PushesAll}

module _ {P : Type 0} (takes : P → Item → P → Type 0) (refuses : P → P → Type 0) where
  pub PushesAll-push : (arrivals : List Arrival) (a : Arrival) (old between new : List P) (refused more : ℕ)
      → PushesAll takes refuses arrivals old refused between → PushesOne takes refuses a.rec.span.ids (Span a) between more new
      → PushesAll takes refuses (arrivals ++ a ∷ []) old (refused + more) new
  PushesAll-push [] a old between new refused more all one =
      (more, 0, new, omega (arith, all.0), subst (λ ports. PushesOne takes refuses a.rec.span.ids (Span a) ports more new) all.1 one, (refl, refl))
  PushesAll-push (x ∷ arrivals) a old between new refused more all one =
      (all.0, all.1 + more, all.2, omega (arith, all.3), all.4, PushesAll-push arrivals a all.2 between new all.1 more all.5 one)

  -- a push is refused only where the ids are valid
  one_counted : (a : Arrival) (ids : Option Ids) (old new : List P) (refused : ℕ) → a.rec.span.ids ≡ ids
      → PushesOne takes refuses ids (Span a) old refused new → length (filter is_invalid (a ∷ [])) + refused ≤ 1
  one_counted a None old new refused e one = rw e (omega (arith, one.0))
  one_counted a (Some ids) old new refused e (inl one) = rw e (omega (arith, one.0))
  one_counted a (Some ids) old new refused e (inr one) = rw e (omega (arith, one.0))

  pub few-push : (arrivals : List Arrival) (a : Arrival) (old new : List P) (refused more : ℕ)
      → length (filter is_invalid arrivals) + refused ≤ length arrivals → PushesOne takes refuses a.rec.span.ids (Span a) old more new
      → length (filter is_invalid (arrivals ++ a ∷ [])) + (refused + more) ≤ length (arrivals ++ a ∷ [])
  few-push arrivals a old new refused more few one =
      let last = one_counted a a.rec.span.ids old new more refl one in
      simp (filter-append, length-append) (omega arith)

-- where no push was refused before, and this one isn't
pub none-push : (refused more : ℕ) → refused ≡ 0 → more ≡ 0 → refused + more ≡ 0
none-push refused more none one = omega (arith, none, one)

-- what is so of each number below this one, and of it, is so of each below the next
pub one_more : (Q : ℕ → Type 0) (n : ℕ) → ((k : ℕ) → k < n → Q k) → Q n → (k : ℕ) → k < n + 1 → Q k
one_more Q n all one k below = go (nat_le n k) refl
  where
    go : (b : Bool) → nat_le n k ≡ b → Q k
    go true is = let e : n ≡ k = omega (arith, below, leb-true n k is) in subst Q e one
    go false is = all k (leb-false n k is)
