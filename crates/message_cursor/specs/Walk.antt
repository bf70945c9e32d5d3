-- What is found in fields that stand in order of their numbers.
use Rattle.std.specs.Prelude.{◌≡◌, ℕ, Ok, List, [], ◌∷◌, Option, Some, None, ◌==◌, nat_lt, if◌then◌else◌}
use Rattle.std.specs.Borrow.{Bor}
use Rattle.protobuf_wire.specs.Wire.{Value, Field, varint, fixed64, bytes, fixed32, fields_of}

-- what the first field of this number holds: behind a greater one there is none
abbrev pub first_field : ℕ → List Field → Option Value
first_field n [] = None
first_field n (f ∷ fs) = if f.number == n then Some f.value else if nat_lt n f.number then None else first_field n fs

-- the fields behind that one; where there is none, from the first greater one on
abbrev pub after : ℕ → List Field → List Field
after n [] = []
after n (f ∷ fs) = if f.number == n then fs else if nat_lt n f.number then f ∷ fs else after n fs

-- by the kinds of proto3, of which each has a default
abbrev pub number_in : Option Value → ℕ
number_in (Some (varint k)) = k
number_in _ = 0

abbrev pub fixed64_in : Option Value → ℕ
fixed64_in (Some (fixed64 k)) = k
fixed64_in _ = 0

abbrev pub fixed32_in : Option Value → ℕ
fixed32_in (Some (fixed32 k)) = k
fixed32_in _ = 0

abbrev pub bytes_in : Option Value → List ℕ
bytes_in (Some (bytes s)) = s
bytes_in _ = []

-- the messages in the fields of this number, up to the first greater one
abbrev pub messages : ℕ → List Field → List (List ℕ)
messages n [] = []
messages n (f ∷ fs) = if f.number == n then bytes_in (Some f.value) ∷ messages n fs else if nat_lt n f.number then [] else messages n fs

-- the next of these messages was taken; behind the last the fields are at their end
abbrev pub NextMessage : ℕ → List Field → Option (Bor (List ℕ)) → (new : List ℕ) → Type 0
NextMessage n fs (Some m) new = (gs : List Field) × (fields_of new ≡ Ok gs) × (messages n fs ≡ m.now ∷ messages n gs)
NextMessage n fs None new = (messages n fs ≡ []) × (new ≡ [])

-- of these fields the first of this number was asked for: that is what it holds, and of these bytes the fields behind it are left
pub record Asked {A : Type 0} (read : Option Value → A) (n : ℕ) (fs : List Field) (answer : A) (new : List ℕ) : Type 0 where
  pub found : answer ≡ read (first_field n fs)
  pub left : fields_of new ≡ Ok (after n fs)
