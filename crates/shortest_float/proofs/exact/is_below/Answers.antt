use Rattle.std.proofs.Common.{ap, ◌∙◌}
use Rattle.std.specs.Ordering.{is_lt}
use Rattle.shortest_float.proofs.Compared.{is_lt-cmp}
use Rattle.shortest_float.proofs.exact.is_below.Goals as goal

pub returns : goal.returns
returns c = c.is_lt.ensures ∙ ap is_lt c.compare_twice.ensures ∙ is_lt-cmp _ _
