use Rattle.std.proofs.Common.{◌≡◌, ◌++◌, drop}
use Rattle.std.specs.Prelude.{string_bytes, map}
use Rattle.std.specs.List.{concat}
use Rattle.metrics_text.specs.Deciders.{decided_lines, policies_text}
use Rattle.metrics_text.proofs.deciders.put_policies.Given as goal

-- the lines that are there, with those that are left, are the whole
abbrev pub invariant-loop-policy : goal.invariant-loop-policy
invariant-loop-policy l =
    string_bytes l.text ++ concat (map decided_lines (drop l.policy-index l.policies))
    ≡ string_bytes l.fn.text ++ policies_text l.policies
