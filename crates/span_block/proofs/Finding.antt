-- A search through the fields of a message.
-- For next_message of messages.rt.
use Rattle.std.proofs.Common.{◌≡◌, ℕ, List, Ok, refl}
use Rattle.protobuf_wire.specs.Wire.{Field, fields_of}
use Rattle.span_block.specs.Walk.{messages}

-- of these bytes of the message the fields are left, and no message in front of them
pub record StillLeft (n : ℕ) (message rest : List ℕ) : Type 0 where
  pub left : (fs : List Field) → fields_of message ≡ Ok fs → (gs : List Field) × (fields_of rest ≡ Ok gs) × (messages n gs ≡ messages n fs)

pub all_messages : (n : ℕ) (message : List ℕ) → StillLeft n message message
all_messages n message = record { left = λ fs e. (fs, e, refl) }
