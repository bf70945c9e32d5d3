use Rattle.std.proofs.Common.{◌≡◌, ℕ, ◌+◌, List, length, refl, sym, ap, subst, ◌∙◌, rules, true, false}
use Rattle.otlp_types.specs.declared.arrival.Item.{Item}
use Rattle.shard_core.specs.Held.{Held}
use Rattle.script_run.specs.Connections.{Contacts}
use Rattle.script_run.specs.World.{ends_from}
use Rattle.script_session.specs.Pulling.{Export, RoundsTaken, AreQuiet, ends_of}
use Rattle.script_session.proofs.Nodes.{lent-nodes}
use Rattle.script_session.proofs.Several.{ends_from-same}
use Rattle.script_session.proofs.Quiet.{quiets, closes, released-length, quiet-now, returned, told, Standing, standing}
use Rattle.script_session.proofs.session.Session.close.Goals as goal

pub end_all-requires-clause-quiet : goal.end_all-requires-clause-quiet
end_all-requires-clause-quiet g c =
    let self = c.args.self.now in
    let P = λ (n : ℕ). AreQuiet (ends_of n false) c.deref_mut.result.now in
    subst P (sym c.lanes.ensures.lanes) (quiet-now (length self.connections.connected) self.closed self.shards.items c.deref_mut.result.now c.deref_mut.ensures.value c.requires self.none_due self.ends)

pub end_all-requires-clause-nodes : goal.end_all-requires-clause-nodes
end_all-requires-clause-nodes g c = let self = c.args.self.now in lent-nodes self.limiter self.shards.items c.deref_mut.result.now c.deref_mut.ensures.value self.nodes

pub returns-clause-plays : goal.returns-clause-plays
returns-clause-plays g c = λ s w are.
    let self = c.args.self.now in
    let before : Export = self.output in
    let after : Export = c.end_all.new.output in
    let lanes : c.lanes.result ≡ length w.contacts.connected = c.lanes.ensures.lanes ∙ ap (λ (k : Contacts). length k.connected) are.contacts_are in
    let same = ends_from-same 0 (c.lanes.result + 1) c.deref_mut.result.now w.journals (ap length c.deref_mut.ensures.value ∙ released-length self.shards.items w.journals are.released_all) ∙ ap (λ (n : ℕ). ends_from 0 (n + 1) w.journals) lanes in
    let P = λ (rounds : List (List (List Item))). RoundsTaken c.deref_mut.result.now self.limiter before rounds c.end_all.new.shards c.end_all.new.limiter after in
    let t = told s self.shards c.deref_mut.result.now c.end_all.new.shards self.limiter c.end_all.new.limiter (ends_from 0 (length w.contacts.connected + 1) w.journals) before after c.deref_mut.ensures.value
    (c.end_all.ensures.length ∙ c.deref_mut.ensures.len) (subst P same c.end_all.ensures.takes) (c.end_all.ensures.settings s) are.settings_are in
    let q = quiets s _ (record w { closed = true }) self.connections self.shards.items _ self.limiter c.end_all.new.limiter before after c.send.new.self true _
    (closes s w self.connections self.shards.items self.limiter self.output self.closed are) refl self.sent t.0 t.1 c.send.ensures.had_room c.send.ensures.sent in
    (q.0, (sym are.closed_is ∙ c.requires, q.1), q.2)

pub invariant_of-self : goal.invariant_of-self
invariant_of-self g c =
    let self = c.args.self.now in
    let lanes = length self.connections.connected in
    let Q = λ (n : ℕ). AreQuiet (ends_of n true) c.end_all.new.shards in
    let S = λ (hs : List Held). Standing c.end_all.new.limiter lanes true self.queues.items self.queue_capacity hs in
    let k = returned self.shards c.end_all.new.shards (c.end_all.ensures.length ∙ c.deref_mut.ensures.len) S
    (standing c.end_all.new.limiter lanes true true self.queues.items self.queue_capacity self.shards.items c.end_all.new.shards c.end_all.ensures.nodes
    (subst Q c.lanes.ensures.lanes c.end_all.ensures.quiet) refl (c.end_all.ensures.length ∙ ap length c.deref_mut.ensures.value) self.some self.empty) in
    record { nodes = k.nodes; none_due = k.none_due; ends = k.ends; some = k.some; empty = k.empty; sent = search rules; batches = search rules; room = search rules }
