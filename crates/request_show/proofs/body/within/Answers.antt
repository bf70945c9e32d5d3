use Rattle.std.proofs.Common.{◌≤◌, length, arith}
use Rattle.std.proofs.lemmas.Grind.{common_steps}
use Rattle.request_show.specs.Body.{greatest_length}
use Rattle.request_show.proofs.Bodies.{whole_of}
use Rattle.request_show.proofs.body.within.Goals as goal

pub returns-then-len-le-MAX_BODY_LEN-clause-whole : goal.returns-then-len-le-MAX_BODY_LEN-clause-whole
returns-then-len-le-MAX_BODY_LEN-clause-whole c = λ remaining start.
    let few : length c.args.body.items ≤ greatest_length = grind (arith, common_steps) in
    whole_of remaining c.args.body.items start few
