-- What a reader answers, next to what its definition reads.
use Rattle.std.specs.Prelude.{◌≡◌, Result, Ok, Err}
use Rattle.otlp_protobuf.specs.declared.decode_error.DecodeError.{DecodeError}
use Rattle.otlp_protobuf.specs.declared.decode_error.DecodeError.TheVariants.{Refused, NoMemory}
use Rattle.otlp_protobuf.specs.Kinds.{Read}

-- a refusal is the definition's; where memory was refused nothing is said
abbrev pub Fails : {X : Type 0} → DecodeError → Read X → Type 0
Fails (Refused fault) read = read ≡ Err fault
Fails NoMemory read = Unit {0}

-- what a reader answers is what is read, or the fault
abbrev pub Gives : {X : Type 0} → Result X DecodeError → Read X → Type 0
Gives (Ok x) read = read ≡ Ok x
Gives (Err e) read = Fails e read

-- the same, where what is answered is seen through f
abbrev pub GivesAs : {X Y : Type 0} → (X → Y) → Result X DecodeError → Read Y → Type 0
GivesAs f (Ok x) read = read ≡ Ok (f x)
GivesAs f (Err e) read = Fails e read
