-- Two fields, written one after the other.
-- For number_and_text of writing.rt.
use Rattle.std.proofs.Common.{◌≡◌, ℕ, List, [], ◌∷◌, ◌++◌, ◌∙◌, ap}
use Rattle.protobuf_wire.specs.Wire.{Field}
use Rattle.protobuf_writer.specs.Writing.{message_bytes, Adds}
use Rattle.protobuf_writer.proofs.Adding.{then}

pub two : (a b c : List ℕ) (f g : Field) → a ≡ [] → Adds a b (f ∷ []) → Adds b c (g ∷ []) → c ≡ message_bytes (f ∷ g ∷ [])
two a b c f g e p q = then a b c (f ∷ []) (g ∷ []) p q ∙ ap (λ s. s ++ message_bytes (f ∷ g ∷ [])) e
