use Rattle.std.proofs.Common.{sym, arith}
use Rattle.std.proofs.lemmas.Option.{slice_get_within}
use Rattle.shard_core.proofs.AllBut.{all_but_set}
use Rattle.shard_core.proofs.ends.all_but.Goals as goal

pub returns : goal.returns
returns c =
    let ends = c.args.ends.now.items in
    sym (all_but_set ends c.args.place (λ k b apart at. c.loop-at.invariant k b (let within = slice_get_within ends k b at in omega (arith, within, c.len-at-end.ensures)) apart at))
