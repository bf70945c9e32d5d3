use Rattle.std.proofs.Common.{sym, ap, ◌∙◌}
use Rattle.std.specs.List.{slice_set}
use Rattle.policy_tree.specs.declared.limit.Limit.TheVariants.{Spans}
use Rattle.rate_budget.proofs.Asked.{ask-here}
use Rattle.rate_budget.proofs.budgets.ask_in.Goals as goal

pub returns-then-counts-i-clause-after : goal.returns-then-counts-i-clause-after
returns-then-counts-i-clause-after c =
    ap (slice_set c.loop-i.counts c.loop-i.i) c.ask.ensures.after
    ∙ ask-here c.loop-i.counts c.loop-i.i c.args.node c.args.second c.args.n (record { node = 0; limit = Spans 0; second = 0; spent = 0 }) c.loop-i-test.true c.if-counts-i.true
    ∙ sym c.loop-i.invariant.after
