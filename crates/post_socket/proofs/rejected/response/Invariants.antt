use Rattle.std.proofs.Common.{length}
use Rattle.otlp_protobuf.proofs.Merging.{Merges}
use Rattle.post_socket.specs.Rejected as spec
use Rattle.post_socket.proofs.rejected.response.Given as goal

abbrev pub invariant-fields : goal.invariant-fields
invariant-fields l = Merges spec.response_step 0 l.body l.rejected l.fields

abbrev pub decreases-fields : goal.decreases-fields
decreases-fields l = length l.fields
