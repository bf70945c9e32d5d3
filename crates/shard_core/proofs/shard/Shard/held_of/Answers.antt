-- What is held of a trace, and how it stands by that.
-- For the clauses of `Shard::held_of`.
use Rattle.std.proofs.Common.{◌≡◌, ◌<◌, ap, subst, ◌∙◌}
use Rattle.decision_cache.specs.Lists.{asked}
use Rattle.shard_core.specs.Held.{Held}
use Rattle.shard_core.specs.HeldTrace.{held_by, trace_held, state_told}
use Rattle.shard_core.proofs.HeldTraces.{told-found}
use Rattle.shard_core.proofs.shard.Shard.held_of.Goals as goal

held : (c : goal.After-held_by) → c.held_by.result ≡ trace_held c.args.trace c.args.self.now
held c = c.held_by.ensures ∙ ap (λ e. held_by e (asked c.args.trace c.self.inside.cache)) c.get.ensures ∙ ap (trace_held c.args.trace) c.self.view_is

pub returns-clause-held : goal.returns-clause-held
returns-clause-held c = held c

pub returns-clause-found : goal.returns-clause-found
returns-clause-found c past dealt s d f =
    let W = λ (h : Held). 0 < h.waits.decision_wait in
    let L = λ (h : Held). 0 < h.num_traces in
    ap state_told (held c) ∙ told-found c.args.self.now c.args.trace past dealt (subst W c.self.view_is c.self.invariant.0) (subst L c.self.view_is c.self.invariant.1) d f s
