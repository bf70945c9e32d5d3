use Rattle.pipeline.proofs.Columns.{are_long}
use Rattle.pipeline.proofs.making.run_ends.Goals as goal

pub returns-clause-columns : goal.returns-clause-columns
returns-clause-columns g c = (c.in_ok-grid.ensures.senders, are_long _ c.requires.0.some_shard c.in_ok-grid.grid.columns.items c.in_ok-grid.ensures.even)
