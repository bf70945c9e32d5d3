use Rattle.lane_seq.proofs.PushSteps.{PushesAll-push, few-push, none-push}
use Rattle.lane_seq.proofs.pushing.push_all.Goals as goal

pub loop-arrival-preserved : goal.loop-arrival-preserved
loop-arrival-preserved g c = record {
  pushed = PushesAll-push g.P.Port.takes g.P.Port.refuses c.loop-arrival.yielded c.in-Some.arrival c.args.ports.now c.loop-arrival.ports c.push_one-full.new.ports c.loop-arrival.full c.push_one-full.result c.loop-arrival.invariant.pushed c.push_one-full.ensures.pushed;
  few = few-push g.P.Port.takes g.P.Port.refuses c.loop-arrival.yielded c.in-Some.arrival c.loop-arrival.ports c.push_one-full.new.ports c.loop-arrival.full c.push_one-full.result c.loop-arrival.invariant.few c.push_one-full.ensures.pushed;
  waiting = λ waits. none-push c.loop-arrival.full c.push_one-full.result (c.loop-arrival.invariant.waiting waits) (c.push_one-full.ensures.waiting waits);
}
