-- What a reader answers, next to what its definition reads.
use Rattle.std.specs.Prelude.{◌≡◌, Option, Some, None, Result, Ok, Err}
use Rattle.otlp_reading.specs.declared.decode_error.DecodeError.{DecodeError}
use Rattle.otlp_reading.specs.declared.decode_error.DecodeError.TheVariants.{Json, Shape, NoMemory}

-- A fault, next to the reading: Json never comes from a reader of values, Shape only where there is no reading, and
-- NoMemory always may.
abbrev pub Fails : {X : Type 0} → DecodeError → Option X → Type 0
Fails Json read = ⊥
Fails Shape read = read ≡ None
Fails NoMemory read = Unit {0}

-- what a reader answers is the reading, or such a fault
abbrev pub Gives : {X : Type 0} → Result X DecodeError → Option X → Type 0
Gives (Ok x) read = read ≡ Some x
Gives (Err e) read = Fails e read

-- the same, where what is answered is seen through f
abbrev pub GivesAs : {X Y : Type 0} → (X → Y) → Result X DecodeError → Option Y → Type 0
GivesAs f (Ok x) read = read ≡ Some (f x)
GivesAs f (Err e) read = Fails e read
