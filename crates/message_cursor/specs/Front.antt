-- What stands at the front of some bytes, for private clauses.
use Rattle.std.specs.Prelude.{◌≡◌, ℕ, ◌<◌, List, length, Ok, None}
use Rattle.protobuf_wire.specs.Wire.{Value, Field, next_field, fields_of}
use Rattle.message_cursor.specs.Walk.{first_field, after}

abbrev pub field : ℕ → Value → Field
field n v = record { number = n; value = v }

-- this is the field at the front, and behind it stand those bytes
pub record FirstIs (sent : List ℕ) (f : Field) (rest : List ℕ) : Type 0 where
  pub first : next_field sent ≡ Ok (f, rest)
  pub some : 0 < length sent
  pub shorter : length rest < length sent

-- of these fields none has this number, since the first has a greater one
pub record IsAbove (n : ℕ) (sent : List ℕ) : Type 0 where
  pub above : (fs : List Field) → fields_of sent ≡ Ok fs → (first_field n fs ≡ None) × (after n fs ≡ fs)
