use Rattle.std.proofs.Common.{sym, ◌∙◌}
use Rattle.toml.specs.View.{table_view}
use Rattle.tsc_config.proofs.Bounds.{table_not_big}
use Rattle.tsc_config.proofs.config.config_of.Goals as goal

pub returns-in-Some-clause-too_big : goal.returns-in-Some-clause-too_big
returns-in-Some-clause-too_big c = λ big. absurd (table_not_big (table_view c.args.table.now) c.in-Some.fault (sym c.table_fault.ensures ∙ c.in-Some.is) big)
