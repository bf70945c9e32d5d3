use Rattle.std.proofs.Common.{ℕ, ◌++◌, ◌∷◌, [], map, append_assoc, ap, sym, subst, ◌∙◌, arith}
use Rattle.std.proofs.lemmas.List.{length-append}
use Rattle.std.specs.Vec.Iter.{into_iter_items}
use Rattle.span_world.specs.Core.{config_of}
use Rattle.span_world.specs.Answers.{the_step, StopsAt}
use Rattle.world_theory.proofs.Parts.{headline}
use Rattle.span_world.proofs.Replaying.{runs_on, stops}
use Rattle.span_world.proofs.world.World.replay.Goals as goal

pub returns-in-Err-clause-stops : goal.returns-in-Err-clause-stops
returns-in-Err-clause-stops c =
    let all = c.loop-step.invariant.all ∙ ap (λ z. c.loop-step.yielded ++ z) c.in-Some.ensures.steps.0 in
    subst (λ (n : ℕ). StopsAt (config_of c.args.config) c.args.lanes c.args.shards (map the_step c.args.steps.items) n c.in-Err.refusal) (sym c.loop-step.invariant.place)
    (stops (config_of c.args.config) c.args.lanes c.args.shards c.loop-step.world (ap config_of c.loop-step.invariant.config) c.loop-step.yielded c.loop-step.invariant.run c.in-Some.step
    c.args.steps.items (into_iter_items c.next.new.self) all c.in-Err.refusal c.step.new.self c.in-Err.ensures)

pub loop-step-preserved : goal.loop-step-preserved
loop-step-preserved c =
    let all = c.loop-step.invariant.all ∙ ap (λ z. c.loop-step.yielded ++ z) c.in-Some.ensures.steps.0 in
    let done = c.in_default-step.ensures in
    record {
      place = omega (arith, length-append c.loop-step.yielded (c.in-Some.step ∷ []));
      config = done.0 ∙ c.loop-step.invariant.config;
      run = runs_on (config_of c.args.config) c.args.lanes c.args.shards c.loop-step.world (ap config_of c.loop-step.invariant.config) c.loop-step.yielded c.loop-step.invariant.run c.in-Some.step c.step.new.self done.1;
      all = all ∙ sym (append_assoc c.loop-step.yielded (c.in-Some.step ∷ []) (into_iter_items c.next.new.self));
    }

pub returns-clause-holds : goal.returns-clause-holds
returns-clause-holds c = headline (config_of c.args.config) c.args.lanes c.args.shards (map the_step c.loop-step.yielded) c.loop-step.world.world c.requires c.loop-step.invariant.run
