use Rattle.batch_post.proofs.Deliveries.{new_log}
use Rattle.batch_post.proofs.posts.Posts.new.Goals as goal

pub invariant_of-result : goal.invariant_of-result
invariant_of-result g c = new_log c.args.rule (g.B.Backend.log c.args.backend) c.requires
