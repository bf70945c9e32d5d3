use Rattle.std.proofs.Common.{[], ◌∷◌}
use Rattle.script_session.proofs.Adds.{none-dropped}
use Rattle.script_session.proofs.Pulls.{PullsAll-append, goes-on-then}
use Rattle.script_session.specs.Staying.{PullsAll-none, goes-on}
use Rattle.script_session.proofs.output.Output.pull_all.Goals as goal

pub loop-arrival-init : goal.loop-arrival-init
loop-arrival-init g c = record { pulls = PullsAll-none c.args.self.now _ none-dropped; goes_on = goes-on c.args.self.now }

pub loop-arrival-preserved : goal.loop-arrival-preserved
loop-arrival-preserved g c = record {
  pulls = PullsAll-append c.args.self.now c.loop-arrival.self c.pull.new.self c.loop-arrival.yielded (c.in-Some.arrival ∷ [])
      (λ reason. 0) (λ reason. 0) c.loop-arrival.invariant.pulls c.pull.ensures.pulls;
  goes_on = goes-on-then c.args.self.now c.loop-arrival.self c.pull.new.self c.loop-arrival.invariant.goes_on c.pull.ensures.goes_on;
}
