use Rattle.std.proofs.Common.{ℕ, List, length, refl, sym, ap, subst, ◌∙◌, false}
use Rattle.std.specs.List.{AllByRecursion}
use Rattle.otlp_types.specs.declared.arrival.Item.{Item}
use Rattle.lane_queue.specs.Queues.{QueueState}
use Rattle.script_run.specs.World.{empty_queues}
use Rattle.script_session.specs.Pulling.{Export, AreQuiet, HoldsQueued, ends_of, rounds_of}
use Rattle.script_session.proofs.Queues.{submits-kept, empty-queued, queues-left}
use Rattle.script_session.proofs.Receives.{receives}
use Rattle.script_session.proofs.Quiet.{released-length, quiet-now, open-now, none-due-now, ends-now}
use Rattle.span_sink.specs.LineSinks.{LineSinkState}
use Rattle.script_session.proofs.session.Session.receive.Goals as goal

pub take_received-requires-clause-open : goal.take_received-requires-clause-open
take_received-requires-clause-open g c =
    let self = c.args.self.now in
    open-now (length self.connections.connected) self.closed self.shards.items self.shards.items refl c.requires.open self.none_due self.ends

pub take_received-requires-clause-queued : goal.take_received-requires-clause-queued
take_received-requires-clause-queued g c =
    let self = c.args.self.now in
    let P = λ (qs : List (QueueState Item)). AllByRecursion HoldsQueued qs in
    let empty = ap (λ v. v.items) c.replace-queues.ensures.value ∙ self.empty in
    (submits-kept _ _ _ _ _ _ _ _ _ c.submit-reply.ensures.submits).0 (subst P (sym empty) (empty-queued self.queue_capacity (length self.shards.items)))

pub returns-clause-plays : goal.returns-clause-plays
returns-clause-plays g c = λ s w are.
    let self = c.args.self.now in
    let reply = c.submit-reply.result.0 in
    let after = c.submit-reply.result.1.items in
    let later = c.submit-reply.new.connections in
    let taken : Export = c.take_received.new.output in
    let rounds = rounds_of c.is_received.result after in
    let empty = ap (λ v. v.items) c.replace-queues.ensures.value ∙ self.empty ∙ ap (empty_queues self.queue_capacity) (released-length self.shards.items w.journals are.released_all) in
    let r = receives s _ w c.args.number c.args.moment c.args.body.now self.connections later _ after reply self.shards.items c.take_received.new.shards.items self.limiter c.take_received.new.limiter self.output c.count_reply.new.self c.hand_reply.new.output
    taken c.send.new.self self.closed rounds are empty c.submit-reply.ensures.submits
    (λ e. ap (λ b. rounds_of b after) (c.is_received.ensures ∙ e)) (λ e. ap (λ b. rounds_of b after) (c.is_received.ensures ∙ e)) c.count_reply.ensures.same c.count_reply.ensures.counted c.hand_reply.ensures.written c.hand_reply.ensures.counted
    c.hand_reply.ensures.batch c.hand_reply.ensures.goes_on.0 refl self.sent c.take_received.ensures.takes (c.take_received.ensures.settings s are.settings_are) c.send.ensures.had_room c.send.ensures.sent in
    (r.0, (sym are.closed_is ∙ c.requires.open, ap (λ (k : LineSinkState). k.is_down) (sym are.sink_is) ∙ c.requires.up, r.1), r.2)

pub invariant_of-self-clause-none_due : goal.invariant_of-self-clause-none_due
invariant_of-self-clause-none_due g c =
    let self = c.args.self.now in
    let quiet = quiet-now (length self.connections.connected) self.closed self.shards.items self.shards.items refl c.requires.open self.none_due self.ends in
    none-due-now (ends_of (length self.connections.connected) false) _ _ refl (c.take_received.ensures.quiet _ quiet)

pub invariant_of-self-clause-ends : goal.invariant_of-self-clause-ends
invariant_of-self-clause-ends g c =
    let self = c.args.self.now in
    let quiet = quiet-now (length self.connections.connected) self.closed self.shards.items self.shards.items refl c.requires.open self.none_due self.ends in
    let P = λ (n : ℕ). AreQuiet (ends_of n false) c.take_received.new.shards.items in
    ends-now (length c.submit-reply.new.connections.connected) false self.closed _ _ refl c.requires.open (subst P (sym c.submit-reply.ensures.lanes) (c.take_received.ensures.quiet _ quiet))

pub invariant_of-self-clause-empty : goal.invariant_of-self-clause-empty
invariant_of-self-clause-empty g c =
    let self = c.args.self.now in
    let empty = ap (λ v. v.items) c.replace-queues.ensures.value ∙ self.empty in
    c.take_received.ensures.emptied ∙ queues-left _ _ _ _ _ _ _ _ _ self.queue_capacity (length self.shards.items) c.is_received.result c.submit-reply.ensures.submits c.is_received.ensures empty
    ∙ ap (empty_queues self.queue_capacity) (sym c.take_received.ensures.length)
