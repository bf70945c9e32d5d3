-- Worked cases of the route, computed.
-- No contract rests on it: it shows the definitions on worked cases.
use Rattle.std.specs.Prelude.{◌≡◌, ℕ, List, [], ◌∷◌, ◌++◌, refl}
use Rattle.span_ids.specs.Route.{shard_of}

-- the first fifteen bytes of the trace ids below
front : List ℕ
front = 0x5b ∷ 0x8e ∷ 0xff ∷ 0xf7 ∷ 0x98 ∷ 0x03 ∷ 0x81 ∷ 0x03 ∷ 0xd2 ∷ 0x69 ∷ 0xb6 ∷ 0x33 ∷ 0x81 ∷ 0x3f ∷ 0xc6 ∷ []

-- over two shards
of_two : (shard_of (front ++ 0x0c ∷ []) 2 ≡ 0) × (shard_of (front ++ 0x0d ∷ []) 2 ≡ 1)
unfolding front
of_two = (refl, refl)

-- over three
of_three : (shard_of (front ++ 0x0c ∷ []) 3 ≡ 2) × (shard_of (front ++ 0x0d ∷ []) 3 ≡ 0)
unfolding front
of_three = (refl, refl)
