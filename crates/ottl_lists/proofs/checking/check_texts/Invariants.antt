use Rattle.std.proofs.Common.{◌≡◌, drop}
use Rattle.std.specs.List.{list_all}
use Rattle.expression.specs.Expressions.{is_expression}
use Rattle.ottl_lists.proofs.checking.check_texts.Given as goal

abbrev pub invariant-loop-text : goal.invariant-loop-text
invariant-loop-text l = list_all is_expression (drop l.text-index l.texts) ≡ list_all is_expression l.texts
