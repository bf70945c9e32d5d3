use Rattle.std.proofs.Common.{◌≡◌, ℕ, ◌<◌, option_map}
use Rattle.std.specs.Prelude.{slice_get}
use Rattle.otlp_flatten.proofs.runs.run.Given as goal

abbrev pub invariant-loop-i : goal.invariant-loop-i
invariant-loop-i g l = (k : ℕ) → k < l.i → option_map (λ x. g.P.SharedPart.part_of (g.T.HasRecord.record_in x)) (slice_get l.spans k) ≡ option_map (λ x. g.P.SharedPart.part_of (g.T.HasRecord.record_in x)) (slice_get l.spans 0)
