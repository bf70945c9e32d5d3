use Rattle.std.proofs.Common.{◌∙◌, sym}
use Rattle.lane_turns.proofs.Told.{some_open}
use Rattle.lane_turns.proofs.serving.is_over.Goals as goal

pub returns-then-matches-clause-goes_on : goal.returns-then-matches-clause-goes_on
returns-then-matches-clause-goes_on c = λ e is_end. some_open c.args.table.now.slots (sym c.is_empty.ensures ∙ e)
