use Rattle.script_session.specs.Pulling.{PullsAll, GoesOn}
use Rattle.script_session.proofs.output.Output.pull_all.Given as goal

abbrev pub invariant-loop-arrival : goal.invariant-loop-arrival
invariant-loop-arrival g l = record {
  pulls : PullsAll l.fn.self l.yielded (λ reason. 0) l.self;
  goes_on : GoesOn l.fn.self l.self;
}
