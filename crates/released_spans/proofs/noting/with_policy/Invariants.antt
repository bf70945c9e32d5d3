use Rattle.std.proofs.Common.{◌≡◌, ◌++◌, drop, if◌then◌else◌}
use Rattle.released_spans.specs.Noting.{with_policy}
use Rattle.released_spans.proofs.noting.with_policy.Given as goal

abbrev pub invariant-loop-attribute : goal.invariant-loop-attribute
invariant-loop-attribute l = l.made.items ++ (if l.is_named then drop l.attribute-index l.attributes else with_policy l.name (drop l.attribute-index l.attributes)) ≡ with_policy l.name l.attributes
