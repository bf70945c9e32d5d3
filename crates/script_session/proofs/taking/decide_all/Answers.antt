use Rattle.std.proofs.Common.{inl, inr, sym, subst}
use Rattle.rate_budget.specs.Budget.{AsksBudgets}
use Rattle.shard_core.specs.Held.{settings}
use Rattle.shard_core.specs.Taking.{Decides}
use Rattle.shard_core.specs.declared.answer.Decided.{Decided}
use Rattle.script_session.specs.Pulling.{Export, DecidesAll}
use Rattle.script_session.proofs.Nodes.{nodes-then}
use Rattle.script_session.proofs.Kept.{kept-first, kept-then}
use Rattle.script_session.proofs.Decides.{DecidesSome-none, DecidesSome-push, DecidesSome-end}
use Rattle.script_session.proofs.taking.decide_all.Goals as goal

pub deciding-init : goal.deciding-init
deciding-init g c = record {
  decided = λ e past none stands is. DecidesSome-none _ e past c.args.shard.now c.args.limiter.now c.args.output.now none stands is;
  kept = kept-first c.args.shard.now c.args.limiter.now c.args.output.now c.requires.nodes;
}

pub deciding-preserved : goal.deciding-preserved
deciding-preserved g c =
    let before = c.deciding.invariant in
    let step = c.decide_told-decided.ensures in
    let settled = c.settle_decided.ensures in
    record {
      decided = λ e past none stands is.
          DecidesSome-push _ e past c.deciding.shard c.decide_told-decided.new.shard c.deciding.limiter c.decide_told-decided.new.limiter c.args.output.now c.deciding.output c.settle_decided.new.desk
          c.decide_told-decided.result c.if-not-settle_decided.ensures.some before.kept.settings_same (before.decided e past none stands is) step.decides settled.takes.0;
      kept = kept-then c.args.shard.now c.deciding.shard c.decide_told-decided.new.shard c.args.limiter.now c.deciding.limiter c.decide_told-decided.new.limiter c.args.output.now c.deciding.output c.settle_decided.new.desk
          before.kept step.keeps step.settings step.ends settled.takes.1;
    }

pub deciding-smaller : goal.deciding-smaller
deciding-smaller g c = elim c.decide_told-decided.ensures.fewer [ inl nothing ↦ absurd (c.if-not-settle_decided.ensures.some nothing) | inr fewer ↦ fewer ]

pub returns-then-not-settle_decided-clause-decides : goal.returns-then-not-settle_decided-clause-decides
returns-then-not-settle_decided-clause-decides g c = λ e past none stands is.
    let before = c.deciding.invariant in
    let last = c.decide_told-decided.ensures in
    let nothing = c.if-not-settle_decided.ensures.some in
    let D = λ (answer : Decided). Decides AsksBudgets c.deciding.shard c.decide_told-decided.new.shard answer c.deciding.limiter c.decide_told-decided.new.limiter in
    let P = λ (export : Export). DecidesAll (settings c.args.shard.now) e past c.args.output.now c.decide_told-decided.new.shard c.decide_told-decided.new.limiter export in
    subst P (sym nothing.1) (DecidesSome-end _ e past c.deciding.shard c.decide_told-decided.new.shard c.deciding.limiter c.decide_told-decided.new.limiter c.args.output.now c.deciding.output
    before.kept.settings_same (before.decided e past none stands is) (subst D nothing.0 last.decides) (last.unchanged nothing.0) (last.all_dealt nothing.0))

pub returns-then-not-settle_decided-clause-nodes : goal.returns-then-not-settle_decided-clause-nodes
returns-then-not-settle_decided-clause-nodes g c = nodes-then c.args.limiter.now c.deciding.limiter c.decide_told-decided.new.limiter c.deciding.invariant.kept.same_nodes c.decide_told-decided.ensures.keeps
