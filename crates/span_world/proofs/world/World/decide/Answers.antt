use Rattle.std.proofs.Common.{◌≡◌, ◌+◌, ◌++◌, Some, None, Option, List, Bool, true, is_some, refl, ap, sym, subst, arith, ◌∙◌}
use Rattle.shard_journal.specs.Settings.{settings_of}
use Rattle.journal_theory.specs.Journal.{Settings, answered}
use Rattle.world_theory.specs.World.{CoreShard, settings_for}
use Rattle.world_theory.specs.Step.{decide}
use Rattle.span_world.specs.Core.{config_of}
use Rattle.span_world.specs.Answers.{next_decision}
use Rattle.span_world.specs.contracts.world.World.{the_view}
use Rattle.world_theory.proofs.Routing.{read_is, reads_same, put_back}
use Rattle.span_world.proofs.Items.{refused_step, can_decide, decides, decided_is}
use Rattle.span_world.proofs.Looking.{looks_put}
use Rattle.span_world.proofs.world.World.decide.Goals as goal

-- what the next decision does, where it may be made
some_of : {X : Type 0} (o : Option X) → is_some o ≡ true → (x : X) × (o ≡ Some x)
some_of None e = absurd (cc e)
some_of (Some x) e = (x, refl)

pub invariant_of-self-2 : goal.invariant_of-self-2
invariant_of-self-2 c =
    (c.self.invariant.0, looks_put (settings_of c.self.inside.settings) c.self.inside.shards.items c.self.inside.looks.items c.args.shard c.decide.new.self c.decide.new.look c.self.invariant.1 c.in_ok-decide.ensures.look, rw c.may_decide.ensures.same c.self.invariant.2)

pub returns-in_err-decide : goal.returns-in_err-decide
returns-in_err-decide c =
    let g = read_is c.self.inside.shards.items c.args.shard c.index.result.now (omega arith) c.index.ensures in
    let m = read_is c.self.inside.shards.items c.args.shard c.index_mut.result.now (omega arith) c.index_mut.ensures.value in
    let is = ap (settings_for (config_of (the_view c.self.inside).config)) c.self.invariant.0 in
    let may = subst (λ (s : Settings). is_some (next_decision s c.index.result.now c.args.answers.items) ≡ true) is
    (ap (λ (a : List Bool). is_some (next_decision (settings_of c.self.inside.settings) c.index.result.now a)) (sym c.as_slice-given.ensures.value) ∙ sym c.may_decide.ensures.enabled ∙ c.if-not-may_decide.false) in
    let back = c.in_err-decide.ensures.err in
    refused_step c.args.self.now _ (decide c.args.shard c.args.answers.items) c.from_residual.result c.from_residual.ensures
    (rw (← c.self.view_is, back.0, back.2, put_back c.self.inside.shards.items c.args.shard c.index_mut.result.now m) refl)
    (rw (← c.self.view_is) (can_decide (config_of (the_view c.self.inside).config) (the_view c.self.inside).world c.args.shard c.index.result.now g c.args.answers.items may))

pub returns : goal.returns
returns c =
    let g = read_is c.self.inside.shards.items c.args.shard c.index.result.now (omega arith) c.index.ensures in
    let m = read_is c.self.inside.shards.items c.args.shard c.index_mut.result.now (omega arith) c.index_mut.ensures.value in
    let same = reads_same c.self.inside.shards.items c.args.shard c.index.result.now c.index_mut.result.now g m in
    let is = ap (settings_for (config_of (the_view c.self.inside).config)) c.self.invariant.0 in
    let may =
    ap (λ (a : List Bool). is_some (next_decision (settings_of c.self.inside.settings) c.index.result.now a)) (sym c.as_slice-given.ensures.value) ∙ sym c.may_decide.ensures.enabled ∙ c.if-not-may_decide.false in
    let here = subst (λ (x : CoreShard). is_some (next_decision (settings_of c.self.inside.settings) x c.args.answers.items) ≡ true) same may in
    let did = some_of (next_decision (settings_of c.self.inside.settings) c.index_mut.result.now c.args.answers.items) here in
    let next = subst (λ (s : Settings). next_decision s c.index_mut.result.now c.args.answers.items ≡ Some did.0) is did.1 in
    let asked = ap (next_decision (settings_of c.self.inside.settings) c.index_mut.result.now) c.from_vec-answers.ensures ∙ did.1 in
    let kept = decided_is (the_view c.self.inside).world c.args.shard c.index_mut.result.now c.args.answers.items did.0 c.decide.new.self c.decide.new.counted.items
    (c.in_ok-decide.ensures.shard did.0 asked
    ∙ ap (λ (a : List Bool). record c.index_mut.result.now { journal = answered c.index_mut.result.now.journal a; dealt = c.index_mut.result.now.dealt + 1; unshipped = c.index_mut.result.now.unshipped ++ did.0.released }) c.from_vec-answers.ensures)
    (c.in_ok-decide.ensures.counted did.0 asked) in
    rw (← c.self.view_is) (refl, decides (config_of (the_view c.self.inside).config) (the_view c.self.inside).world c.args.shard c.index_mut.result.now m c.args.answers.items did.0 next ∙ ap (λ z. Some z) (sym kept))
