-- A body is one request or none, and none for one cause.
use Rattle.std.specs.Prelude.{◌≡◌, ℕ, Bool, List}
use Rattle.otlp_types.specs.declared.request.Request.{Request}
use Rattle.otlp_encoding.specs.declared.encoding.Encoding.{Encoding}
use Rattle.otlp_request.specs.declared.bad_data.BadData.{BadData}
use Rattle.otlp_request.specs.Reads.{Reads, IsRefusedFor}

abbrev pub IsOneRequest : Type 0
IsOneRequest = (encoding : Encoding) (keeps_doubles : Bool) (body : List ℕ) (r q : Request) → Reads encoding keeps_doubles body r → Reads encoding keeps_doubles body q → r ≡ q

abbrev pub IsRequestOrNone : Type 0
IsRequestOrNone = (encoding : Encoding) (keeps_doubles : Bool) (body : List ℕ) (r : Request) (cause : BadData)
    → Reads encoding keeps_doubles body r → IsRefusedFor encoding keeps_doubles body cause → ⊥

abbrev pub HasOneCause : Type 0
HasOneCause = (encoding : Encoding) (keeps_doubles : Bool) (body : List ℕ) (a b : BadData)
    → IsRefusedFor encoding keeps_doubles body a → IsRefusedFor encoding keeps_doubles body b → a ≡ b
