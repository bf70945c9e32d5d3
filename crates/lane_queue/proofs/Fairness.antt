-- As many pops in a row as there are queues pass over none of them that isn't empty.
-- For the contract of `few_overtake`.
use Rattle.std.proofs.Common.{◌≡◌, ◌≢◌, ◌⊎◌, ℕ, zero, suc, ◌+◌, ◌<◌, ◌≤◌, List, [], ◌∷◌, length, slice_get, slice_set, refl, sym, ap, subst, ◌∙◌, inl, inr, arith}
use Rattle.std.proofs.lemmas.Bool.{cases_order}
use Rattle.std.proofs.lemmas.Option.{slice_get_within}
use Rattle.lane_queue.specs.Ends.{EndState, ReceiverState, IsAskedBefore, PopsAt, WasEmptyAt}
use Rattle.lane_queue.specs.Turns.{ArePopped, AreOfOthers, FewOvertake}

length_set : {X : Type 0} (xs : List X) (i : ℕ) (y : X) → length (slice_set xs i y) ≡ length xs
length_set [] i y = refl
length_set (x ∷ xs) zero y = refl
length_set (x ∷ xs) (suc i) y = ap suc (length_set xs i y)

get_set : {X : Type 0} (xs : List X) (i k : ℕ) (y : X) → i ≢ k → slice_get (slice_set xs i y) k ≡ slice_get xs k
get_set [] i k y other = refl
get_set (x ∷ xs) zero zero y other = absurd (other refl)
get_set (x ∷ xs) zero (suc k) y other = refl
get_set (x ∷ xs) (suc i) zero y other = refl
get_set (x ∷ xs) (suc i) (suc k) y other = get_set xs i k y (λ e. other (ap suc e))

-- ---- whose turn comes within so many pops

-- where the places are asked in turn from `next` on, this one is among the first `many`
abbrev IsNear : (next k count many : ℕ) → Type 0
IsNear next k count many = ((next ≤ k) × (k < next + many)) ⊎ ((k < next) × (next ≤ count) × (k + count < next + many))

-- where it isn't asked before the one that is popped, it is nearer at the next pop
nearer : (next place k count many : ℕ) → place < count → place ≢ k → IsNear next k count (suc many) → IsAskedBefore next place k ⊎ IsNear (place + 1) k count many
nearer next place k count many within other (inl (on, near)) = elim (cases_order place k) [
  | inl same ↦ absurd (other same)
  | inr way ↦ elim way [
    | inl below ↦ elim (cases_order place next) [
      | inl same ↦ inr (inl (omega arith, omega arith))
      | inr turn ↦ elim turn [ inl wraps ↦ inl (inl (on, inr wraps)) | inr later ↦ inr (inl (omega arith, omega arith)) ]
    ]
    | inr above ↦ inl (inl (on, inl above))
  ]
]
nearer next place k count many within other (inr (past, few, near)) = elim (cases_order place k) [
  | inl same ↦ absurd (other same)
  | inr way ↦ elim way [
    | inl below ↦ inr (inl (omega arith, omega arith))
    | inr above ↦ elim (cases_order place next) [
      | inl same ↦ inr (inr (omega arith, omega arith, omega arith))
      | inr turn ↦ elim turn [ inl wraps ↦ inl (inr (above, wraps)) | inr later ↦ inr (inr (omega arith, omega arith, omega arith)) ]
    ]
  ]
]

-- behind any pop each other place is among the first that are asked but one
behind_a_pop : (place k count many : ℕ) → place < count → k < count → place ≢ k → count ≤ suc many → IsNear (place + 1) k count many
behind_a_pop place k count many within at other enough = elim (cases_order place k) [
  | inl same ↦ absurd (other same)
  | inr way ↦ elim way [ inl below ↦ inl (omega arith, omega arith) | inr above ↦ inr (omega arith, omega arith, omega arith) ]
]

-- ---- the law

module _ {X : Type 0} (capacity k : ℕ) where
  -- what was popped elsewhere changes nothing of this queue
  was_empty : (place : ℕ) (x : X) (old new : ReceiverState X) → PopsAt capacity place x old new → place ≢ k → WasEmptyAt capacity new.ends k → WasEmptyAt capacity old.ends k
  was_empty place x old new pops other (end, at, empty) =
      (end, sym (ap (λ (ends : List (EndState X)). slice_get ends k) pops.takes.2 ∙ get_set old.ends place k _ other) ∙ at, empty)

  place_within : (place : ℕ) (x : X) (old new : ReceiverState X) → PopsAt capacity place x old new → place < length old.ends
  place_within place x old new pops = slice_get_within old.ends place pops.takes.0 pops.takes.1

  same_count : (place : ℕ) (x : X) (old new : ReceiverState X) → PopsAt capacity place x old new → length new.ends ≡ length old.ends
  same_count place x old new pops = ap (λ (ends : List (EndState X)). length ends) pops.takes.2 ∙ length_set old.ends place _

  passed : (pops : List (ℕ × X)) (old new : ReceiverState X) → ArePopped capacity old pops new → AreOfOthers k pops → k < length old.ends → IsNear old.next k (length old.ends) (length pops) → WasEmptyAt capacity old.ends k
  passed [] old new popped others within (inl (on, near)) = absurd (omega (arith, on, near))
  passed [] old new popped others within (inr (past, few, near)) = absurd (omega (arith, past, few, near))
  passed ((place, x) ∷ pops) old new (between, first, rest) (other, others) within near =
      elim (nearer old.next place k (length old.ends) (length pops) (place_within place x old between first) other near) [
        | inl asked ↦ first.before k within asked
        | inr nearer_still ↦
            let same = same_count place x old between first in
            let at : IsNear between.next k (length between.ends) (length pops) =
            subst (λ (n : ℕ). IsNear n k (length between.ends) (length pops)) (sym first.next) (subst (λ (n : ℕ). IsNear (place + 1) k n (length pops)) (sym same) nearer_still) in
            was_empty place x old between first other (passed pops between new rest others (omega (arith, within, same)) at)
      ]

  enough : (pops : List (ℕ × X)) (old new : ReceiverState X) → ArePopped capacity old pops new → AreOfOthers k pops → k < length old.ends → length old.ends ≤ length pops → WasEmptyAt capacity old.ends k
  enough [] old new popped others within many = absurd (omega (arith, within, many))
  enough ((place, x) ∷ pops) old new (between, first, rest) (other, others) within many =
      let same = same_count place x old between first in
      let near = behind_a_pop place k (length old.ends) (length pops) (place_within place x old between first) within other many in
      let at : IsNear between.next k (length between.ends) (length pops) =
      subst (λ (n : ℕ). IsNear n k (length between.ends) (length pops)) (sym first.next) (subst (λ (n : ℕ). IsNear (place + 1) k n (length pops)) (sym same) near) in
      was_empty place x old between first other (passed pops between new rest others (omega (arith, within, same)) at)

pub few_overtake : {X : Type 0} → FewOvertake X
few_overtake capacity k pops old new popped others within many = enough capacity k pops old new popped others within many
