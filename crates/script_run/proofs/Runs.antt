-- Each script that is played is a run of the core.
-- For the contract of `scripts_are_runs_of_the_core`.
use Rattle.script_run.specs.Laws.{EachIsARunOfCore}
use Rattle.script_run.proofs.Quiet.{writes_reply, takes_queued, takes_nothing, takes_tick, closes}
use Rattle.script_run.proofs.Whole.{each_is_a_run}

-- the law
pub each_is_a_run_of_core : EachIsARunOfCore
each_is_a_run_of_core = each_is_a_run (λ s sizes some. record {
  writes_reply = writes_reply s sizes;
  takes_queued = λ old new queues k. takes_queued s sizes old new queues k some;
  takes_nothing = λ old new k. takes_nothing s sizes old new k some;
  takes_tick = λ moment old new k. takes_tick s sizes moment old new k some;
  closes = λ old new k. closes s sizes old new k some;
})
