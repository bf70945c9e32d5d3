-- Which queue is asked first and which last behind a pop.
-- For the contract of `pops_take_turns`.
use Rattle.std.proofs.Common.{◌≡◌, ◌≢◌, ◌⊎◌, ℕ, ◌+◌, ◌<◌, ◌≤◌, nat_lt, length, refl, inl, inr, arith, subst, sym}
use Rattle.std.proofs.lemmas.Bool.{cases_order, cond_both, ltb-false}
use Rattle.lane_queue.specs.Ends.{IsAskedBefore}
use Rattle.lane_queue.specs.Turns.{behind, PoppedIsAskedLast, BehindIsAskedFirst, TwiceOnlyPastEmpty}

-- each other place is asked before this one, where the one behind it is the first
others_before : (place k : ℕ) → k ≢ place → IsAskedBefore (place + 1) place k
others_before place k other =
    elim (cases_order k place) [
      | inl same ↦ absurd (other same)
      | inr way ↦ elim way [ inl below ↦ inr (below, omega arith) | inr above ↦ inl (omega arith, inr (omega arith)) ]
    ]

-- from a place on which is the next one, or the first one behind the last, none is asked before it
none_before : (place count k first : ℕ) → (first ≡ place + 1) ⊎ ((first ≡ 0) × (count ≤ place + 1)) → k < count
    → ¬ (IsAskedBefore (place + 1) first k)
none_before place count k first (inl e) few (inl (above, inl below)) = omega arith
none_before place count k first (inl e) few (inl (above, inr wraps)) = omega arith
none_before place count k first (inl e) few (inr (below, wraps)) = omega arith
none_before place count k first (inr (e, end)) few (inl (above, way)) = omega arith
none_before place count k first (inr (e, end)) few (inr (below, wraps)) = omega arith

behind_is : (place count : ℕ) → (behind place count ≡ place + 1) ⊎ ((behind place count ≡ 0) × (count ≤ place + 1))
behind_is place count =
    cond_both (nat_lt (place + 1) count) (place + 1) 0 (λ b. (b ≡ place + 1) ⊎ ((b ≡ 0) × (count ≤ place + 1)))
    (λ less. inl refl) (λ end. inr (refl, ltb-false (place + 1) count end))

module _ {X : Type 0} where
  pub popped_is_last : PoppedIsAskedLast X
  popped_is_last capacity place x old new pops k within other =
      let P : ℕ → Type 0 = λ next. IsAskedBefore next place k in
      subst P (sym pops.next) (others_before place k other)

  pub behind_is_first : BehindIsAskedFirst X
  behind_is_first capacity place x old new pops k within =
      let P : ℕ → Type 0 = λ next. ¬ (IsAskedBefore next (behind place (length new.ends)) k) in
      subst P (sym pops.next)
      (none_before place (length new.ends) k (behind place (length new.ends)) (behind_is place (length new.ends)) within)

  pub twice_past_empty : TwiceOnlyPastEmpty X
  twice_past_empty capacity place x y old new newer pops again k within other =
      again.before k within (popped_is_last capacity place x old new pops k within other)
