use Rattle.std.proofs.Common.{◌≡◌, ◌≢◌, [], true, drop}
use Rattle.tsc_config.specs.Reading.{some_is_none}
use Rattle.tsc_config.proofs.expressions.check_all.Given as goal

-- some expression is none where one of those that are left is none; and where one was too big, there is one
abbrev pub invariant-loop-expression : goal.invariant-loop-expression
invariant-loop-expression l = record {
  left : some_is_none (drop l.expression-index l.expressions) ≡ some_is_none l.expressions;
  some : l.is_big ≡ true → l.expressions ≢ [];
}
