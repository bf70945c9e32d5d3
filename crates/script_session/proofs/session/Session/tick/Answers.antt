use Rattle.std.proofs.Common.{List, length, refl, sym, ap, subst, ◌∙◌, rules, false}
use Rattle.otlp_types.specs.declared.arrival.Item.{Item}
use Rattle.otlp_types.specs.declared.arrival.Item.TheVariants.{Tick}
use Rattle.shard_core.specs.Held.{Held}
use Rattle.script_run.specs.World.{to_each}
use Rattle.script_session.specs.Pulling.{Export, EachTakes}
use Rattle.script_session.proofs.Nodes.{lent-nodes}
use Rattle.script_session.proofs.Several.{to_each-same}
use Rattle.script_session.proofs.Quiet.{quiets, one-round, released-length, quiet-now, open-now, returned, told, Standing, standing}
use Rattle.span_sink.specs.LineSinks.{LineSinkState}
use Rattle.script_session.proofs.session.Session.tick.Goals as goal

pub tell_each-requires-clause-open : goal.tell_each-requires-clause-open
tell_each-requires-clause-open g c =
    let self = c.args.self.now in
    open-now (length self.connections.connected) self.closed self.shards.items c.deref_mut.result.now c.deref_mut.ensures.value c.requires.open self.none_due self.ends

pub tell_each-requires-clause-nodes : goal.tell_each-requires-clause-nodes
tell_each-requires-clause-nodes g c = let self = c.args.self.now in lent-nodes self.limiter self.shards.items c.deref_mut.result.now c.deref_mut.ensures.value self.nodes

pub returns-clause-plays : goal.returns-clause-plays
returns-clause-plays g c = λ s w are.
    let self = c.args.self.now in
    let items = to_each (Tick c.args.moment) w.journals in
    let before : Export = self.output in
    let after : Export = c.tell_each.new.output in
    let same = to_each-same (Tick c.args.moment) c.deref_mut.result.now w.journals (ap length c.deref_mut.ensures.value ∙ released-length self.shards.items w.journals are.released_all) in
    let P = λ (items : List (List Item)). EachTakes c.deref_mut.result.now self.limiter before items c.tell_each.new.shards c.tell_each.new.limiter after in
    let round = one-round c.deref_mut.result.now c.tell_each.new.shards self.limiter c.tell_each.new.limiter items before after (subst P same c.tell_each.ensures.takes) in
    let t = told s self.shards c.deref_mut.result.now c.tell_each.new.shards self.limiter c.tell_each.new.limiter _ before after c.deref_mut.ensures.value (c.tell_each.ensures.length ∙ c.deref_mut.ensures.len) round
    (c.tell_each.ensures.settings s) are.settings_are in
    let q = quiets s _ w self.connections self.shards.items _ self.limiter c.tell_each.new.limiter before after c.send.new.self self.closed _ are refl self.sent t.0 t.1 c.send.ensures.had_room c.send.ensures.sent in
    (q.0, (sym are.closed_is ∙ c.requires.open, ap (λ (k : LineSinkState). k.is_down) (sym are.sink_is) ∙ c.requires.up, q.1), q.2)

pub invariant_of-self : goal.invariant_of-self
invariant_of-self g c =
    let self = c.args.self.now in
    let lanes = length self.connections.connected in
    let quiet = quiet-now lanes self.closed self.shards.items c.deref_mut.result.now c.deref_mut.ensures.value c.requires.open self.none_due self.ends in
    let S = λ (hs : List Held). Standing c.tell_each.new.limiter lanes self.closed self.queues.items self.queue_capacity hs in
    let k = returned self.shards c.tell_each.new.shards (c.tell_each.ensures.length ∙ c.deref_mut.ensures.len) S
    (standing c.tell_each.new.limiter lanes false self.closed self.queues.items self.queue_capacity self.shards.items c.tell_each.new.shards c.tell_each.ensures.nodes
    (c.tell_each.ensures.quiet _ quiet) c.requires.open (c.tell_each.ensures.length ∙ ap length c.deref_mut.ensures.value) self.some self.empty) in
    record { nodes = k.nodes; none_due = k.none_due; ends = k.ends; some = k.some; empty = k.empty; sent = search rules; batches = search rules; room = search rules }
