use Rattle.toml.specs.View.{table_view}
use Rattle.tsc_config.proofs.Blank.{blank_answers}
use Rattle.tsc_config.proofs.config.read.Goals as goal

pub returns-in-Ok-clause-memory : goal.returns-in-Ok-clause-memory
returns-in-Ok-clause-memory c = blank_answers c.args.text.now (table_view c.in-Ok.table) c.config_of.result c.in-Ok.ensures.ok c.config_of.ensures.of_table
