use Rattle.std.proofs.Common.{length}
use Rattle.otlp_protobuf.proofs.Merging.{Merges}
use Rattle.post_socket.specs.Rejected as spec
use Rattle.post_socket.proofs.rejected.partial_success.Given as goal

abbrev pub invariant-inside : goal.invariant-inside
invariant-inside l = Merges spec.spans_step l.fn.before l.bytes l.rejected l.fields

abbrev pub decreases-inside : goal.decreases-inside
decreases-inside l = length l.fields
