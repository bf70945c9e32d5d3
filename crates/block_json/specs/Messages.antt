-- Messages of a block as they are handed from one function to the next, for private clauses.
use Rattle.std.specs.Prelude.{◌≡◌, ℕ, List, map, Ok}
use Rattle.std.specs.List.{AllByRecursion}
use Rattle.protobuf_wire.specs.Wire.{Field, fields_of}
use Rattle.protobuf_writer.specs.Writing.{message_bytes}
use Rattle.span_block.specs.Pairs.{fields_read}
use Rattle.span_block.specs.Walk.{messages}

-- the bytes are x as `wire` has it, of which P holds
pub record IsOf {A : Type 0} (wire : A → List Field) (P : A → Type 0) (message : List ℕ) (x : A) : Type 0 where
  pub written : message ≡ message_bytes (wire x)
  pub holds : P x

-- the bytes are fields, and those of this number are the elements of xs, one after the other, of each of which P holds
pub record AreIn {A : Type 0} (wire : A → List Field) (P : A → Type 0) (number : ℕ) (message : List ℕ) (xs : List A) : Type 0 where
  pub read : fields_of message ≡ Ok (fields_read message)
  pub written : messages number (fields_read message) ≡ map message_bytes (map wire xs)
  pub holds : AllByRecursion P xs
