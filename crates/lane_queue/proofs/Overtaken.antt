-- What had been pushed was popped, once the queue was empty or gave as many items as it may hold.
-- For the contract of `none_is_overtaken`.
use Rattle.std.proofs.Common.{◌≡◌, ◌⊎◌, ℕ, zero, suc, ◌+◌, ◌<◌, ◌≤◌, nat_lt, Bool, true, false, cond, List, [], ◌∷◌, ◌++◌, length, Option, Some, None, refl, sym, ap, ◌∙◌, subst, append-nil, length-append, inl, inr, arith}
use Rattle.std.proofs.lemmas.Bool.{ltb-true}
use Rattle.lane_queue.specs.Histories.{QueueStep, push, pop, held_after, Leaves, pushes, pops}
use Rattle.lane_queue.specs.Overtaking.{NoneIsOvertaken}
use Rattle.lane_queue.proofs.Steps.{room-then, room-is, popped_then_held}
use Rattle.lane_queue.proofs.Lines.{pushes-append}

module _ {X : Type 0} where
  -- a queue holds no more than it may
  held_within : (n : ℕ) (steps : List (QueueStep X)) (from held : List X) → held_after n steps from ≡ Some held → length from ≤ n → length held ≤ n
  held_within n [] from held e l = let same : from ≡ held = cc in subst (λ (z : List X). length z ≤ n) same l
  held_within n (push x ∷ rest) from held e l =
      let b = room-is (nat_lt (length from) n) (held_after n rest (from ++ x ∷ [])) held e in
      let more : length (from ++ x ∷ []) ≡ length from + 1 = length-append from (x ∷ []) in
      held_within n rest (from ++ x ∷ []) held (room-then (nat_lt (length from) n) (held_after n rest (from ++ x ∷ [])) held e) (omega (arith, more, ltb-true (length from) n b))
  held_within n (pop ∷ rest) [] held e l = absurd (cc)
  held_within n (pop ∷ rest) (x ∷ from) held e l = held_within n rest from held e (omega (arith, l))

  -- the shorter of two lists that go on to the same one begins the longer
  begins : (xs bs more rest : List X) → xs ++ more ≡ bs ++ rest → length bs ≤ length xs → (ys : List X) × (xs ≡ bs ++ ys)
  begins xs [] more rest e l = (xs, refl)
  begins [] (b ∷ bs) more rest e l = absurd (omega (arith, l))
  begins (a ∷ xs) (b ∷ bs) more rest e l =
      let head : a ≡ b = cc in
      let tail : xs ++ more ≡ bs ++ rest = cc in
      let found = begins xs bs more rest tail (omega (arith, l)) in (found.0, (λ i. head i ∷ found.1 i))

  pub none_overtaken : NoneIsOvertaken X
  none_overtaken n earlier later held left before after gave =
      let all : pushes earlier ++ pushes later ≡ pops (earlier ++ later) ++ left = sym (pushes-append earlier later) ∙ popped_then_held n (earlier ++ later) left after in
      let first : pushes earlier ≡ pops earlier ++ held = popped_then_held n earlier held before in
      let few : length held ≤ n = held_within n earlier [] held before (omega arith) in
      let so_long : length (pushes earlier) ≡ length (pops earlier) + length held = ap length first ∙ length-append (pops earlier) held in
      go gave all so_long few
    where
      go : (left ≡ []) ⊎ (length (pops earlier) + n ≤ length (pops (earlier ++ later))) → pushes earlier ++ pushes later ≡ pops (earlier ++ later) ++ left
          → length (pushes earlier) ≡ length (pops earlier) + length held → length held ≤ n → (rest : List X) × (pops (earlier ++ later) ≡ pushes earlier ++ rest)
      go (inl none) all so_long few = (pushes later, sym (append-nil (pops (earlier ++ later))) ∙ ap (λ z. pops (earlier ++ later) ++ z) (sym none) ∙ sym all)
      go (inr many) all so_long few = begins (pops (earlier ++ later)) (pushes earlier) left (pushes later) (sym all) (omega (arith, so_long, few, many))
