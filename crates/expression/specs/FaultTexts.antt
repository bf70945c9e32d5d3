-- What a fault is told as.
use Rattle.std.specs.Prelude.{ℕ, List, codes}
use Rattle.expression.specs.declared.expression.ExpressionFault.{ExpressionFault}
use Rattle.expression.specs.declared.expression.ExpressionFault.TheVariants.{NotAnExpression, TooBig, NoMemory}

abbrev pub fault_text : ExpressionFault → List ℕ
fault_text NotAnExpression = codes "the text is no regular expression"
fault_text TooBig = codes "the regular expression is too big"
fault_text NoMemory = codes "no memory"
