use Rattle.std.proofs.Common.{◌≡◌, true, List, Bool, sym, subst, ◌∙◌}
use Rattle.std.specs.Vec.{with_items}
use Rattle.otlp_types.specs.declared.arrival.Item.{Item}
use Rattle.lane_queue.specs.Queues.{QueueState}
use Rattle.shard_core.specs.Held.{Held}
use Rattle.script_session.specs.Pulling.{Export, EachTakes, RoundsTaken, rounds_of, HaveSettings, AreQuiet, has_all_nodes, items_in}
use Rattle.script_session.proofs.Nodes.{lent-nodes}
use Rattle.script_session.proofs.Several.{RoundsTaken-none}
use Rattle.script_session.proofs.Quiet.{one-round, returned}
use Rattle.script_session.proofs.taking.take_received.Goals as goal

pub take_queued-requires-clause-nodes : goal.take_queued-requires-clause-nodes
take_queued-requires-clause-nodes g c = lent-nodes c.args.limiter.now c.args.shards.now.items c.deref_mut.result.now c.deref_mut.ensures.value c.requires.nodes

pub returns-then-received-clause-nodes : goal.returns-then-received-clause-nodes
returns-then-received-clause-nodes g c =
    let P = λ (hs : List Held). has_all_nodes c.take_queued.new.limiter hs ≡ true in
    returned c.args.shards.now c.take_queued.new.shards (c.take_queued.ensures.length ∙ c.deref_mut.ensures.len) P c.take_queued.ensures.nodes

pub returns-then-received-clause-takes : goal.returns-then-received-clause-takes
returns-then-received-clause-takes g c =
    let old = c.args.shards.now in
    let new = c.take_queued.new.shards in
    let e0 : Export = c.args.output.now in
    let e1 : Export = c.take_queued.new.output in
    let l0 = c.args.limiter.now in
    let l1 = c.take_queued.new.limiter in
    let P = λ (hs : List Held). EachTakes hs l0 e0 (items_in c.deref_mut-then-received.result.now) new l1 e1 in
    let Q = λ (qs : List (QueueState Item)). EachTakes old.items l0 e0 (items_in qs) new l1 e1 in
    let N = λ (hs : List Held). EachTakes old.items l0 e0 (items_in c.args.queues.now.items) hs l1 e1 in
    let R = λ (b : Bool). RoundsTaken old.items l0 e0 (rounds_of b c.args.queues.now.items) (with_items old new).items l1 e1 in
    let took = subst Q c.deref_mut-then-received.ensures.value (subst P c.deref_mut.ensures.value c.take_queued.ensures.takes) in
    subst R (sym c.if-received.true) (one-round old.items (with_items old new).items l0 l1 (items_in c.args.queues.now.items) e0 e1 (returned old new (c.take_queued.ensures.length ∙ c.deref_mut.ensures.len) N took))

pub returns-else-received-clause-takes : goal.returns-else-received-clause-takes
returns-else-received-clause-takes g c =
    let e : Export = c.args.output.now in
    let old = c.args.shards.now.items in
    let l = c.args.limiter.now in
    let R = λ (b : Bool). RoundsTaken old l e (rounds_of b c.args.queues.now.items) old l e in
    subst R (sym c.if-received.false) (RoundsTaken-none old l e)

pub returns-then-received-clause-quiet : goal.returns-then-received-clause-quiet
returns-then-received-clause-quiet g c = λ ends quiet.
    let P = λ (hs : List Held). AreQuiet ends hs in
    returned c.args.shards.now c.take_queued.new.shards (c.take_queued.ensures.length ∙ c.deref_mut.ensures.len) P (c.take_queued.ensures.quiet ends (subst P (sym c.deref_mut.ensures.value) quiet))

pub returns-then-received-clause-settings : goal.returns-then-received-clause-settings
returns-then-received-clause-settings g c = λ s alike.
    let P = λ (hs : List Held). HaveSettings s hs in
    returned c.args.shards.now c.take_queued.new.shards (c.take_queued.ensures.length ∙ c.deref_mut.ensures.len) P (c.take_queued.ensures.settings s (subst P (sym c.deref_mut.ensures.value) alike))
