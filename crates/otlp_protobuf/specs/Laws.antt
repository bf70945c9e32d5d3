-- Laws of messages and requests.
use Rattle.std.specs.Prelude.{◌≡◌, ℕ, ◌≤◌, Bool, List, [], ◌∷◌, ◌++◌, length, Ok, Err, IsErr}
use Rattle.protobuf_wire.specs.declared.fault.WireFault.{WireFault}
use Rattle.protobuf_wire.specs.Wire.{Field, fields_of}
use Rattle.otlp_types.specs.declared.request.Request.{Request}
use Rattle.otlp_protobuf.specs.Kinds.{Read, ◌>>=◌, merged_in, merged}
use Rattle.otlp_protobuf.specs.Reading.{request_of}

-- what fields make of a message, one after another
unfoldable pub fold_fields : {S : Type 0} → (S → Field → Read S) → S → List Field → Read S
fold_fields step s [] = Ok s
fold_fields step s (f ∷ fs) = step s f >>= λ t. fold_fields step t fs

-- where the bytes are fields, a message with them is what these fields make of it
abbrev pub MergedIsFold : Type 0 → Type 0
MergedIsFold S = (step : S → Field → Read S) (s : S) (bytes : List ℕ) (fs : List Field) → fields_of bytes ≡ Ok fs → merged step s bytes ≡ fold_fields step s fs

-- where they aren't, they are no message
abbrev pub NothingIsMerged : Type 0 → Type 0
NothingIsMerged S = (step : S → Field → Read S) (s : S) (bytes : List ℕ) (e : WireFault) → fields_of bytes ≡ Err e → IsErr (merged step s bytes)

-- as many turns as there are bytes are enough: more change nothing
abbrev pub MergingTurnsSuffice : Type 0 → Type 0
MergingTurnsSuffice S = (step : S → Field → Read S) (n m : ℕ) (s : S) (bytes : List ℕ) → length bytes ≤ n → length bytes ≤ m → merged_in n step s bytes ≡ merged_in m step s bytes

-- two requests in a row are one request, with the spans of the first and then those of the second
abbrev pub RequestsConcatenate : Type 0
RequestsConcatenate = (keeps_doubles : Bool) (a b : List ℕ) (r q : Request) → request_of keeps_doubles a ≡ Ok r → request_of keeps_doubles b ≡ Ok q
    → request_of keeps_doubles (a ++ b) ≡ Ok (record { resource_spans = r.resource_spans ++ q.resource_spans })
