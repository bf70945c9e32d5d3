use Rattle.std.proofs.Common.{◌≡◌, ◌++◌, drop, map}
use Rattle.policy_tree.specs.Expressions.{of_kind}
use Rattle.policy_tree.proofs.expressions.put_texts.Given as goal

abbrev pub invariant-loop-text : goal.invariant-loop-text
invariant-loop-text l = l.found ++ map (of_kind l.kind) (drop l.text-index l.texts) ≡ l.fn.found ++ map (of_kind l.kind) l.texts
