use Rattle.std.proofs.Common.{inr, subst}
use Rattle.batch_post.specs.Posts.{posts_state}
use Rattle.collector_main.proofs.sending.export_on.Goals as goal

pub returns : goal.returns
returns g c =
    let answer = c.serve_through-answer.result.1 in
    let first = posts_state c.new-watched.result.destination in
    let after = posts_state c.serve_through-answer.result.0.destination in
    let tells = c.serve_through-answer.ensures in
    (first.taken, after.taken, inr (after.failures, answer, tells.sink, tells.ran, c.served_to.ensures))
