use Rattle.std.proofs.Common.{ℕ, false, length, refl, sym, ap, subst, ◌∙◌, arith}
use Rattle.std.proofs.lemmas.List.{length-replicate}
use Rattle.script_run.specs.Connections.{Contacts}
use Rattle.script_run.specs.World.{empty_queues}
use Rattle.script_session.specs.Pulling.{AreQuiet, ends_of}
use Rattle.config_shards.specs.Shards.{settings_by}
use Rattle.script_session.proofs.Nodes.{nodes-new}
use Rattle.script_session.proofs.Quiet.{none-due-now, ends-now}
use Rattle.script_session.proofs.replay.session_of.Goals as goal

pub invariant_of-result-clause-none_due : goal.invariant_of-result-clause-none_due
invariant_of-result-clause-none_due g c =
    let made = c.in-Ok.ensures.shards in
    none-due-now (ends_of c.args.config.now.lanes false) _ _ refl made.2

pub invariant_of-result-clause-ends : goal.invariant_of-result-clause-ends
invariant_of-result-clause-ends g c =
    let made = c.in-Ok.ensures.shards in
    let lanes = ap (λ (k : Contacts). length k.connected) c.in-Ok.ensures.connections ∙ length-replicate c.args.config.now.lanes 0 in
    let P = λ (n : ℕ). AreQuiet (ends_of n false) c.in-Ok.parts.shards.items in
    ends-now (length c.in-Ok.parts.connections.connected) false false _ _ refl refl (subst P (sym lanes) made.2)

pub invariant_of-result-clause-some : goal.invariant_of-result-clause-some
invariant_of-result-clause-some g c = let made = c.in-Ok.ensures.shards in omega (arith, made.0, c.requires.ranges.some_shard)

pub invariant_of-result-clause-empty : goal.invariant_of-result-clause-empty
invariant_of-result-clause-empty g c = let made = c.in-Ok.ensures.shards in c.in-Ok.ensures.queues ∙ ap (empty_queues c.args.config.now.queue_capacity) (sym made.0)

pub invariant_of-result-clause-nodes : goal.invariant_of-result-clause-nodes
invariant_of-result-clause-nodes g c = let made = c.in-Ok.ensures.shards in nodes-new (settings_by c.args.config.now) c.in-Ok.parts.limiter c.in-Ok.parts.shards.items c.in-Ok.ensures.limiter made.1
