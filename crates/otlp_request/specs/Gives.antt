-- What a reader of bodies answers, next to what its definitions say.
use Rattle.std.specs.Prelude.{ℕ, Bool, List, Result, Ok, Err}
use Rattle.otlp_types.specs.declared.request.Request.{Request}
use Rattle.otlp_encoding.specs.declared.encoding.Encoding.{Encoding}
use Rattle.otlp_request.specs.declared.bad_data.DecodeError.{DecodeError}
use Rattle.otlp_request.specs.declared.bad_data.DecodeError.TheVariants.{Bad, NoMemory}
use Rattle.otlp_request.specs.Reads.{Reads, IsRefusedFor}

-- a request that the body is; or a cause for which it is none; or memory was refused
abbrev pub Gives : Encoding → (keeps_doubles : Bool) → List ℕ → Result Request DecodeError → Type 0
Gives encoding keeps_doubles body (Ok request) = Reads encoding keeps_doubles body request
Gives encoding keeps_doubles body (Err (Bad cause)) = IsRefusedFor encoding keeps_doubles body cause
Gives encoding keeps_doubles body (Err NoMemory) = Unit {0}
