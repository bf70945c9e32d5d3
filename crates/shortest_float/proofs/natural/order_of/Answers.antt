use Rattle.std.proofs.Common.{◌^◌, ◌<◌, ◌∙◌}
use Rattle.std.proofs.lemmas.List.Elements.{All-from_get_or}
use Rattle.shortest_float.proofs.WordValues.{order_is}
use Rattle.shortest_float.proofs.natural.order_of.Goals as goal

pub returns : goal.returns
returns c =
    let a = c.args in
    let left = All-from_get_or (λ w. w < 2 ^ 64) a.left.now 0 (λ i within. (c.type_inv.left i).fits) in
    let right = All-from_get_or (λ w. w < 2 ^ 64) a.right.now 0 (λ i within. (c.type_inv.right i).fits) in
    c.cmp.ensures ∙ order_is a.left.now a.right.now c.requires left right
