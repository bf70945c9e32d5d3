use Rattle.std.proofs.Common.{refl, ◌++◌, ◌∷◌, []}
use Rattle.std.specs.List.{flat_map}
use Rattle.batch_post.specs.declared.outcome.BatchFate.TheVariants.{Delivered, GivenUp}
use Rattle.batch_post.specs.declared.rule.RetryVerdict.TheVariants.{Taken, Waits, Ends}
use Rattle.batch_post.specs.Logs.{told}
use Rattle.batch_post.specs.Deliveries.{Attempt, Retried, Course, retried_entries}
use Rattle.batch_post.proofs.Attempts.{verdict_again, verdict_taken, verdict_ends, all_again, retried_more, wait_more, attempted, tried_on, said, delivered_so}
use Rattle.batch_post.proofs.delivering.deliver.Goals as goal

pub loop-init : goal.loop-init
loop-init g c = ([], tt, refl, refl, c.now-began.ensures)

pub returns-in-Taken : goal.returns-in-Taken
returns-in-Taken g c =
    let log = g.B.Backend.log in
    let rule = c.args.rule.now in
    let began = c.now-began.result in
    let before = c.loop.invariant.0 in
    let last : Attempt = record { outcome = c.attempt-outcome.result; random = c.random-random.result; moment = c.now.result; left = c.left-left.result } in
    let course : Course = record { began = began; before = before; last = last } in
    delivered_so rule (log c.args.backend.now) (log c.left-left.new.self) c.args.batch.now Delivered course c.loop.invariant.1 c.loop.invariant.2
    (said rule began before last c.loop.wait c.saturating_sub-elapsed.result Taken c.loop.invariant.3 c.saturating_sub-elapsed.ensures c.in-Taken.ensures)
    (verdict_taken rule last.outcome c.loop.wait last.random c.saturating_sub-elapsed.result last.left c.in-Taken.ensures)
    (attempted (log c.args.backend.now) (log c.loop.backend) _ _ _ _ (told began ∷ flat_map (retried_entries c.args.batch.now) before) c.args.batch.now last c.loop.invariant.4 c.attempt-outcome.ensures c.random-random.ensures c.now.ensures c.left-left.ensures)

pub returns-in-Ends : goal.returns-in-Ends
returns-in-Ends g c =
    let log = g.B.Backend.log in
    let rule = c.args.rule.now in
    let began = c.now-began.result in
    let before = c.loop.invariant.0 in
    let last : Attempt = record { outcome = c.attempt-outcome.result; random = c.random-random.result; moment = c.now.result; left = c.left-left.result } in
    let course : Course = record { began = began; before = before; last = last } in
    delivered_so rule (log c.args.backend.now) (log c.left-left.new.self) c.args.batch.now GivenUp course c.loop.invariant.1 c.loop.invariant.2
    (said rule began before last c.loop.wait c.saturating_sub-elapsed.result Ends c.loop.invariant.3 c.saturating_sub-elapsed.ensures c.in-Ends.ensures)
    (verdict_ends rule last.outcome c.loop.wait last.random c.saturating_sub-elapsed.result last.left c.in-Ends.ensures)
    (attempted (log c.args.backend.now) (log c.loop.backend) _ _ _ _ (told began ∷ flat_map (retried_entries c.args.batch.now) before) c.args.batch.now last c.loop.invariant.4 c.attempt-outcome.ensures c.random-random.ensures c.now.ensures c.left-left.ensures)

pub loop-preserved : goal.loop-preserved
loop-preserved g c =
    let log = g.B.Backend.log in
    let rule = c.args.rule.now in
    let began = c.now-began.result in
    let before = c.loop.invariant.0 in
    let it : Attempt = record { outcome = c.attempt-outcome.result; random = c.random-random.result; moment = c.now.result; left = c.left-left.result } in
    let r : Retried = record { attempt = it; wait = c.in-Waits.milliseconds } in
    let tries = attempted (log c.args.backend.now) (log c.loop.backend) _ _ _ _ (told began ∷ flat_map (retried_entries c.args.batch.now) before) c.args.batch.now it c.loop.invariant.4 c.attempt-outcome.ensures c.random-random.ensures c.now.ensures c.left-left.ensures in (
      before ++ r ∷ [],
      retried_more rule began before r c.loop.invariant.1 (said rule began before it c.loop.wait c.saturating_sub-elapsed.result (Waits c.in-Waits.milliseconds) c.loop.invariant.3 c.saturating_sub-elapsed.ensures c.in-Waits.ensures),
      all_again before r c.loop.invariant.2 (verdict_again rule it.outcome c.loop.wait it.random c.saturating_sub-elapsed.result it.left c.in-Waits.milliseconds c.in-Waits.ensures),
      wait_more rule before r c.loop.wait c.next_wait-wait.result c.loop.invariant.3 c.next_wait-wait.ensures,
      tried_on (log c.args.backend.now) (log c.left-left.new.self) (log c.wait.new.self) c.args.batch.now began before r tries c.wait.ensures,
    )
