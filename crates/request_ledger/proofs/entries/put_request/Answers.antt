-- The fields that were put are those of the request.
use Rattle.std.proofs.Common.{◌≡◌, ℕ, List, ◌∷◌, ◌++◌, OnOk, subst}
use Rattle.std.specs.Int.{w16, w64, to_le_bytes}
use Rattle.request_ledger.specs.Format.{record_of}
use Rattle.request_ledger.specs.Entries.{request_of, request_bytes, kind_of}
use Rattle.request_ledger.proofs.entries.put_request.Goals as goal

pub returns-clause-ok : goal.returns-clause-ok
returns-clause-ok c =
    let kind : c.kind_of.result ≡ kind_of c.args.encoding = c.kind_of.ensures in
    let came : c.to_le_bytes-came.result ≡ to_le_bytes w64 c.args.moment = c.to_le_bytes-came.ensures in
    let lane : c.to_le_bytes-lane.result ≡ to_le_bytes w16 c.args.connection.lane = c.to_le_bytes-lane.ensures in
    let ordinal : c.to_le_bytes-ordinal.result ≡ to_le_bytes w64 c.args.connection.ordinal = c.to_le_bytes-ordinal.ensures in
    let put = λ (p : List ℕ). OnOk c.put_fields.result (c.put_fields.new.out.items ≡ c.args.out.now.items ++ record_of p) in
    let same : c.kind_of.result ∷ c.to_le_bytes-came.result ++ c.to_le_bytes-lane.result ++ c.to_le_bytes-ordinal.result ++ c.args.text.now ≡ request_bytes (request_of c.args.moment c.args.connection c.args.encoding c.args.text.now) =
    λ i. kind i ∷ came i ++ lane i ++ ordinal i ++ c.args.text.now in
    subst put same c.put_fields.ensures.ok
