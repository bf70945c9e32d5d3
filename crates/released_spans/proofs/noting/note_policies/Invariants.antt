use Rattle.std.proofs.Common.{◌≡◌, map}
use Rattle.otlp_types.specs.declared.arrival.Arrival.{Arrival}
use Rattle.released_spans.proofs.Noted.{noted_to}
use Rattle.released_spans.proofs.noting.note_policies.Given as goal

abbrev pub invariant-loop-place : goal.invariant-loop-place
invariant-loop-place l = map (λ (a : Arrival). a.rec) l.spans ≡ noted_to l.place l.names l.policies (map (λ (a : Arrival). a.rec) l.fn.spans)
