use Rattle.std.proofs.Common.{◌≡◌, drop}
use Rattle.toml.specs.View.{view}
use Rattle.tsc_config.specs.PolicyOrder.{first_named}
use Rattle.tsc_config.proofs.composites.first_named.Given as goal

-- the parts that were passed over aren't named
abbrev pub invariant-loop-part : goal.invariant-loop-part
invariant-loop-part l = first_named (view l.text) (drop l.part-index l.parts) ≡ first_named (view l.text) l.parts
