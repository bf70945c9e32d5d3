use Rattle.ottl_text.specs.Syntax.{term_of}
use Rattle.ottl_print.specs.Printing.{has_parentheses}
use Rattle.ottl_print.proofs.Counted.{chosen_joined}
use Rattle.ottl_print.proofs.sizes.operator_size.Goals as goal

pub returns-clause-same : goal.returns-clause-same
returns-clause-same c s n h r =
    let made = c.joined in
    chosen_joined s n made.result.levels made.result.row c.has_parentheses-parentheses.result (has_parentheses c.args.sparing c.args.binary (term_of c.args.left.now) s n) (λ few. c.has_parentheses-parentheses.ensures s n h r (λ e. few)) (made.ensures.same s n h r)
