use Rattle.run_weave.proofs.ManyTurns.{by_turns}
use Rattle.run_weave.proofs.Rans.{workers_ran}
use Rattle.run_weave.proofs.workers_ran_by_turns.Goals as goal

pub returns : goal.returns
returns g c = workers_ran _ _ (by_turns (λ s. s.allowed) (λ s. s.driver) g.D.Driver.asks g.D.Driver.hears) _
