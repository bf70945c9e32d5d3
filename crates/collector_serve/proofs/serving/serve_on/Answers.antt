use Rattle.pipeline.proofs.Told.{core_told}
use Rattle.collector_serve.proofs.Driven.{served_told}
use Rattle.collector_serve.proofs.serving.serve_on.Goals as goal

pub returns-clause-ran : goal.returns-clause-ran
returns-clause-ran g c = core_told g.Output.Destination.manner _ _ c.args.config _ _ _ _ _ _ _ c.run_by_turns_to-destination.ensures.ran

pub returns-clause-driven : goal.returns-clause-driven
returns-clause-driven g c = served_told g.Output.Destination.manner _ _ c.args.config _ _ _ _ _ _ _ c.run_by_turns_to-destination.ensures.ran
