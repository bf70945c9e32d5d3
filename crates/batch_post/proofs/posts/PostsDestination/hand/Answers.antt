use Rattle.std.proofs.Common.{Ok, Err, subst}
use Rattle.span_sink.specs.Manners.{may_refuse}
use Rattle.span_sink.specs.Hands.{HandsTo}
use Rattle.span_sink.specs.declared.sink.SinkFault.TheVariants.{Refused}
use Rattle.batch_post.specs.declared.outcome.BatchFate.TheVariants.{Delivered, GivenUp}
use Rattle.batch_post.specs.Posts.{PostsState, posts_state}
use Rattle.batch_post.proofs.Deliveries.{known_posted, hands_delivered, hands_given_up}
use Rattle.batch_post.proofs.posts.PostsDestination.hand.Goals as goal

pub invariant_of-self : goal.invariant_of-self
invariant_of-self g c =
    let log = g.B.Backend.log in
    (known_posted c.self.inside.rule (log c.self.inside.backend) (log c.deliver.new.backend) (log c.settle.new.self) c.args.line.now Delivered c.in-Delivered.ensures c.settle.ensures c.self.invariant).0

pub invariant_of-self-in-GivenUp : goal.invariant_of-self-in-GivenUp
invariant_of-self-in-GivenUp g c =
    let log = g.B.Backend.log in
    (known_posted c.self.inside.rule (log c.self.inside.backend) (log c.deliver.new.backend) (log c.settle-in-GivenUp.new.self) c.args.line.now GivenUp c.in-GivenUp.ensures c.settle-in-GivenUp.ensures c.self.invariant).0

pub returns-in-Delivered-clause-hands : goal.returns-in-Delivered-clause-hands
returns-in-Delivered-clause-hands g c =
    let log = g.B.Backend.log in
    subst (λ (s : PostsState). HandsTo may_refuse (posts_state s) c.args.line.now (Ok tt) (posts_state (record { rule = c.self.inside.rule; log = log c.settle.new.self }))) c.self.view_is
    (hands_delivered c.self.inside.rule (log c.self.inside.backend) (log c.deliver.new.backend) (log c.settle.new.self) c.args.line.now c.in-Delivered.ensures c.settle.ensures c.self.invariant)

pub returns-in-GivenUp-clause-hands : goal.returns-in-GivenUp-clause-hands
returns-in-GivenUp-clause-hands g c =
    let log = g.B.Backend.log in
    subst (λ (s : PostsState). HandsTo may_refuse (posts_state s) c.args.line.now (Err Refused) (posts_state (record { rule = c.self.inside.rule; log = log c.settle-in-GivenUp.new.self }))) c.self.view_is
    (hands_given_up c.self.inside.rule (log c.self.inside.backend) (log c.deliver.new.backend) (log c.settle-in-GivenUp.new.self) c.args.line.now c.in-GivenUp.ensures c.settle-in-GivenUp.ensures c.self.invariant)
