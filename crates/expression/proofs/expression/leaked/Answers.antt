use Rattle.expression.proofs.Meanings.{matches-as, is-expression}
use Rattle.expression.proofs.expression.leaked.Goals as goal

pub invariant_of-result : goal.invariant_of-result
invariant_of-result c =
    let r = c.requires in
    rw (c.in_ok-text.ensures.ok, c.in_ok-matcher.ensures)
    (is-expression c.args.regex c.args.text.now r.source r.config r.read, matches-as c.args.regex c.args.text.now r.source r.config r.read)

pub returns-clause-expression : goal.returns-clause-expression
returns-clause-expression c = is-expression c.args.regex c.args.text.now c.requires.source c.requires.config c.requires.read
