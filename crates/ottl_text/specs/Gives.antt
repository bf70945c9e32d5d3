-- What a reader answers, next to what its definition reads.
use Rattle.std.specs.Prelude.{◌≡◌, Result, Ok, Err}
use Rattle.ottl_text.specs.declared.fault.Fault.{Fault}
use Rattle.ottl_text.specs.declared.fault.ParseError.{ParseError}
use Rattle.ottl_text.specs.declared.fault.ParseError.TheVariants.{Refused, NoMemory}
use Rattle.ottl_text.specs.declared.fault.FaultKind.{FaultKind}
use Rattle.ottl_text.specs.declared.kind_error.KindError.{KindError}
use Rattle.ottl_text.specs.declared.kind_error.KindError.TheVariants as kinds

-- what is read, or the first fault
abbrev pub Read : Type 0 → Type 0
Read A = Result A Fault

-- what is read of what is read, unless that met a fault
infixl 10 ◌>>=◌
abbrev pub ◌>>=◌ : {A B E : Type 0} → Result A E → (A → Result B E) → Result B E
Ok a >>= f = f a
Err e >>= f = Err e

-- the answer, where what is read is seen through f
abbrev pub seen_as : {A B E : Type 0} → (A → B) → Result A E → Result B E
seen_as f (Ok a) = Ok (f a)
seen_as f (Err e) = Err e

-- a refusal is the definition's; where memory was refused nothing is said
abbrev pub Fails : {A : Type 0} → ParseError → Read A → Type 0
Fails (Refused fault) read = read ≡ Err fault
Fails NoMemory read = Unit {0}

-- what a reader answers, seen through f, is what is read, or the fault
abbrev pub GivesAs : {A B : Type 0} → (A → B) → Result A ParseError → Read B → Type 0
GivesAs f (Ok a) read = read ≡ Ok (f a)
GivesAs f (Err e) read = Fails e read

-- the same of a piece, before its column is known
abbrev pub KindFails : {A : Type 0} → KindError → Result A FaultKind → Type 0
KindFails (kinds.Refused kind) read = read ≡ Err kind
KindFails kinds.NoMemory read = Unit {0}

abbrev pub KindGives : {A B : Type 0} → (A → B) → Result A KindError → Result B FaultKind → Type 0
KindGives f (Ok a) read = read ≡ Ok (f a)
KindGives f (Err e) read = KindFails e read
