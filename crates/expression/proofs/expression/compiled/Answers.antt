use Rattle.expression.proofs.Meanings.{refused, is-expression, expression-of-reads}
use Rattle.expression.proofs.expression.compiled.Goals as goal

pub returns-in-Err-Syntax-clause-refused : goal.returns-in-Err-Syntax-clause-refused
returns-in-Err-Syntax-clause-refused c =
    let said = c.in-Err-Syntax in
    λ _. refused c.args.text.now _
    (rw (c.size_limit.ensures, c.new.ensures.config, c.new.ensures.source) at (said.ensures.by_grammar said.field-0-0 said.field-0-is))
    (rw said.field-0-is at said.ensures.kind)

pub returns-in-Err-CompiledTooBig-clause-big : goal.returns-in-Err-CompiledTooBig-clause-big
returns-in-Err-CompiledTooBig-clause-big c =
    let said = c.in-Err-CompiledTooBig in
    let pattern = rw said.field-0-is at said.ensures.kind in
    λ _. expression-of-reads c.args.text.now _ _ (rw (c.size_limit.ensures, c.new.ensures.config, c.new.ensures.source) at pattern.2)

pub returns-in-Ok-clause-expression : goal.returns-in-Ok-clause-expression
returns-in-Ok-clause-expression c =
    let made = c.in-Ok.ensures in
    is-expression c.in-Ok.regex c.args.text.now (rw (c.size_limit.ensures, c.new.ensures.source) at made.source)
    (rw (c.size_limit.ensures, c.new.ensures.config) at made.config) made.read
