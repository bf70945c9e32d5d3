use Rattle.std.proofs.Common.{◌+◌, arith}
use Rattle.ottl_print.proofs.Counted.{not_joined}
use Rattle.ottl_print.proofs.sizes.joined.Goals as goal

pub returns-else-parentheses-clause-same : goal.returns-else-parentheses-clause-same
returns-else-parentheses-clause-same c s n h r =
    let left = c.args.left in
    let levels_small = h.levels_are in
    let both = c.larger-else-parentheses.ensures.same left.levels (left.row + 2 + c.args.right) (omega (arith, levels_small)) c.capped-else-parentheses.ensures.same in
    rw c.if-parentheses.false (not_joined s n left.levels left.row c.args.right c.larger-else-parentheses.result h r both c.capped-else-parentheses-2.result c.capped-else-parentheses-2.ensures.same)
