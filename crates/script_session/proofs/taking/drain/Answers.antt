use Rattle.std.proofs.Common.{[], ◌∷◌, ◌++◌, List, Bool, ◌∙◌, refl, sym, ap, append_assoc}
use Rattle.std.specs.List.{list_all}
use Rattle.script_session.proofs.Kept.{kept-first, kept-then}
use Rattle.script_session.proofs.Runs.{TakesItems-none, TakesItems-append}
use Rattle.script_session.proofs.Several.{first-queued, rest-queued, queued-keeps_ends}
use Rattle.script_session.proofs.taking.drain.Goals as goal

pub draining-init : goal.draining-init
draining-init g c = record {
  popped = [];
  split = refl;
  took = TakesItems-none c.args.shard.now c.args.limiter.now c.args.output.now;
  queued = c.requires.queued;
  capacity = refl;
  nothing_due = c.requires.nothing_due;
  running = c.requires.running;
  kept = kept-first c.args.shard.now c.args.limiter.now c.args.output.now c.requires.nodes;
}

pub draining-preserved : goal.draining-preserved
draining-preserved g c =
    let before = c.draining.invariant in
    let item = c.in-Some.item in
    let first = c.in-Some.ensures.first in
    let step = c.take_item.ensures in
    let is = first-queued item c.pop.new.self.items c.draining.queue.items first before.queued in
    let ends = step.ends ∙ queued-keeps_ends item c.draining.shard.standing.ends is in
    record {
      popped = before.popped ++ item ∷ [];
      split = before.split ∙ ap (λ xs. before.popped ++ xs) first ∙ sym (append_assoc before.popped (item ∷ []) c.pop.new.self.items);
      took = TakesItems-append c.args.shard.now c.draining.shard c.take_item.new.shard c.args.limiter.now c.draining.limiter c.take_item.new.limiter before.popped (item ∷ [])
          c.args.output.now c.draining.output c.take_item.new.output before.kept.settings_same before.took step.takes;
      queued = rest-queued item c.pop.new.self.items c.draining.queue.items first before.queued;
      capacity = c.in-Some.ensures.capacity ∙ before.capacity;
      nothing_due = step.nothing_due;
      running = ap (λ (ends : List Bool). list_all (λ b. b) ends) ends ∙ before.running;
      kept = kept-then c.args.shard.now c.draining.shard c.take_item.new.shard c.args.limiter.now c.draining.limiter c.take_item.new.limiter c.args.output.now c.draining.output c.take_item.new.output
          before.kept step.nodes step.settings ends step.goes_on;
    }
