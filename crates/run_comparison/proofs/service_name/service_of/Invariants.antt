use Rattle.std.proofs.Common.{◌≡◌, drop}
use Rattle.run_comparison.specs.Services.{first_service}
use Rattle.run_comparison.proofs.service_name.service_of.Given as goal

abbrev pub invariant-loop-attribute : goal.invariant-loop-attribute
invariant-loop-attribute l = first_service (drop l.attribute-index l.attribute-items) ≡ first_service l.fn.span.rec.resource.attributes
