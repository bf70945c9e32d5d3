-- Lists of ends to each of which items are pushed, and ticks that are given one after the other.
-- For the contracts of `end_all`, `tick_all`, `tick` and `work`.
use Rattle.std.proofs.Common.{◌≡◌, ℕ, zero, suc, ◌+◌, List, [], ◌∷◌, ◌++◌, ◌<◌, length, get_or, set, take, drop, sym, refl, ap, ◌∙◌, append_assoc, add-one, arith}
use Rattle.std.specs.Prelude.{map}
use Rattle.otlp_types.specs.declared.arrival.Item.{Item}
use Rattle.otlp_types.specs.declared.arrival.Item.TheVariants.{Tick, End}
use Rattle.lane_queue.specs.Ends.{EndState, queues}
use Rattle.lane_worker.specs.Serving.{with_end}
use Rattle.lane_worker.specs.Ticking.{with_tick, with_ticks}

module _ {X : Type 0} (f : X → X) where
  -- the elements before this place are mapped, the others are as they were
  abbrev pub mapped : (place : ℕ) → List X → List X
  mapped place xs = map f (take place xs) ++ drop place xs

  pub mapped_more : (xs : List X) (place : ℕ) (d : X) → place < length xs → set (mapped place xs) place (f (get_or (mapped place xs) place d)) ≡ mapped (suc place) xs
  mapped_more [] place d within = absurd (omega arith)
  mapped_more (y ∷ xs) zero d within = refl
  mapped_more (y ∷ xs) (suc place) d within = ap (λ l. f y ∷ l) (mapped_more xs place d (omega arith))

  -- the element at this place is mapped too
  pub mapped_set : (xs now : List X) (place : ℕ) (d y : X) → place < length xs → now ≡ mapped place xs → y ≡ f (get_or now place d) → set now place y ≡ mapped (place + 1) xs
  mapped_set xs now place d y lt h is = ap (set now place) is ∙ ((λ i. set (h i) place (f (get_or (h i) place d))) ∙ (mapped_more xs place d lt ∙ ap (λ k. mapped k xs) (sym (add-one place))))

pub queues_end : (number : ℕ) (ends : List (EndState Item)) → queues (map (with_end number) ends) ≡ queues ends
queues_end number [] = refl
queues_end number (e ∷ ends) = ap (λ l. e.queue ∷ l) (queues_end number ends)

pub ticks_more : (moment : ℕ) (rest : List ℕ) (number : ℕ) (ends : List (EndState Item)) → map (with_ticks rest number) (map (with_tick moment) ends) ≡ map (with_ticks (moment ∷ rest) number) ends
ticks_more moment rest number [] = refl
ticks_more moment rest number (e ∷ ends) =
    let same : (e.items ++ Tick moment ∷ []) ++ (map (λ m. Tick m) rest ++ End number ∷ []) ≡ e.items ++ (Tick moment ∷ (map (λ m. Tick m) rest ++ End number ∷ [])) = append_assoc e.items (Tick moment ∷ []) (map (λ m. Tick m) rest ++ End number ∷ []) in
    λ i. record { queue = e.queue; waits = e.waits; items = same i } ∷ ticks_more moment rest number ends i
