-- No history holds more than the queue may.
-- For the contract of `few_are_held`.
use Rattle.std.proofs.Common.{◌≡◌, ℕ, ◌<◌, ◌≤◌, nat_lt, List, [], ◌∷◌, ◌++◌, length, Some, None, refl, ◌∙◌, arith, length-append}
use Rattle.std.proofs.lemmas.Bool.{ltb-true, cond-true}
use Rattle.lane_queue.specs.Histories.{QueueStep, push, pop, held_after, FewAreHeld}
use Rattle.lane_queue.proofs.Steps.{room-then, room-is}

module _ {X : Type 0} (n : ℕ) where
  within : (earlier later : List (QueueStep X)) (from left : List X) → length from ≤ n → held_after n (earlier ++ later) from ≡ Some left
      → (held : List X) × (held_after n earlier from ≡ Some held) × (length held ≤ n)
  within [] later from left few e = (from, refl, few)
  within (push x ∷ rest) later from left few e =
      let room = room-is (nat_lt (length from) n) (held_after n (rest ++ later) (from ++ x ∷ [])) left e in
      let below : length from < n = ltb-true (length from) n room in
      let still : length (from ++ x ∷ []) ≤ n = omega (arith, below, length-append from (x ∷ [])) in
      let more = within rest later (from ++ x ∷ []) left still (room-then (nat_lt (length from) n) (held_after n (rest ++ later) (from ++ x ∷ [])) left e) in
      (more.0, cond-true (nat_lt (length from) n) (held_after n rest (from ++ x ∷ [])) None room ∙ more.1, more.2)
  within (pop ∷ rest) later [] left few e = absurd (cc e)
  within (pop ∷ rest) later (y ∷ from) left few e = within rest later from left (omega (arith, few)) e

pub few_held : {X : Type 0} → FewAreHeld X
few_held capacity earlier later left e = within capacity earlier later [] left (omega arith) e
