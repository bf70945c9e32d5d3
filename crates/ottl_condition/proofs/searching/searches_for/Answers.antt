use Rattle.std.proofs.Common.{◌≡◌, ℕ, List, [], drop, arith}
use Rattle.std.proofs.lemmas.Grind.{common_steps}
use Rattle.ottl_text.specs.Syntax.{term_of}
use Rattle.ottl_condition.specs.Meaning.{patterns_of}
use Rattle.ottl_condition.proofs.Known.{knows-itself}
use Rattle.ottl_condition.proofs.searching.searches_for.Goals as goal

pub returns : goal.returns
returns c =
    let patterns : List (List ℕ) = patterns_of (term_of c.args.condition.now) in
    let texts = c.as_slice-pattern-items.result.now in
    let given : texts ≡ patterns = grind (arith, common_steps) in
    let none : drop c.loop-pattern.pattern-index texts ≡ [] = grind (arith, common_steps) in
    let all : c.loop-pattern.searches ≡ texts = grind (arith, common_steps, none, c.loop-pattern.invariant) in
    rw (all, given) (knows-itself patterns)
