-- What the ticker's thread did.
use Rattle.std.specs.Prelude.{◌≡◌, ℕ, List, [], ◌∷◌, ◌++◌, map, Option, Some, None}
use Rattle.otlp_types.specs.declared.arrival.Item.{Item}
use Rattle.otlp_types.specs.declared.arrival.Item.TheVariants.{Tick, End}
use Rattle.lane_queue.specs.Ends.{EndState, with_item}

-- the ticks gave these moments, one after the other, and then none
abbrev pub TicksAll : {T : Type 0} → (gives : T → Option ℕ → T → Type 0) → List ℕ → (old new : T) → Type 0
TicksAll gives [] old new = gives old None new
TicksAll {T} gives (moment ∷ moments) old new = (next : T) × gives old (Some moment) next × TicksAll gives moments next new

-- the end after a tick of this moment was pushed there
abbrev pub with_tick : (moment : ℕ) → EndState Item → EndState Item
with_tick moment end = with_item end (Tick moment)

-- the end after a tick of each of these moments was pushed there, and then an End of this number
abbrev pub with_ticks : List ℕ → (number : ℕ) → EndState Item → EndState Item
with_ticks moments number end = record end { items = end.items ++ (map (λ m. Tick m) moments ++ End number ∷ []) }
