-- A record's text reads as its request.
-- For text::text_of.
use Rattle.std.proofs.Common.{◌≡◌, ◌≤◌, ℕ, true, List, Some, Result, Ok, Err, sym, subst}
use Rattle.std.specs.Prelude.{IfOk}
use Rattle.serde_json.specs.Data.{depth}
use Rattle.otlp_types.specs.declared.request.Request.{Request}
use Rattle.otlp_json.specs.Writing.{data_of, canonical_text}
use Rattle.otlp_reading.specs.Reading.{request_of}
use Rattle.otlp_reading.specs.Decoding.{IsJson, IsRequest}

pub reads_back : {V E : Type 0} (items : V → List ℕ) (r : Result V E) (given request : Request) → given ≡ request
    → IfOk r (λ v. items v ≡ canonical_text given)
    → IfOk r (λ v. depth (data_of given) ≤ 127 → IsJson (items v) (data_of given) × (request_of true (data_of given) ≡ Some given))
    → IfOk r (λ v. depth (data_of request) ≤ 127 → IsRequest true (canonical_text request) request)
reads_back items (Ok v) given request same text back =
    subst (λ (q : Request). depth (data_of q) ≤ 127 → IsRequest true (canonical_text q) q) same
    (λ deep. (data_of given, subst (λ (t : List ℕ). IsJson t (data_of given)) text (back deep).0, (back deep).1))
reads_back items (Err e) given request same text back = tt
