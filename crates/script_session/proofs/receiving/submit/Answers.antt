use Rattle.std.proofs.Common.{◌≡◌, Bool, sym, ap, subst, ◌∙◌}
use Rattle.lane_queue.specs.Queues.{QueueState}
use Rattle.lane_seq.specs.Pushes.{LaneState}
use Rattle.otlp_types.specs.declared.arrival.Item.{Item}
use Rattle.script_session.specs.Submitting.{Submits}
use Rattle.script_session.proofs.Submitted.{received, refusal, refused, submits-read, submits-refused}
use Rattle.script_session.proofs.receiving.submit.Goals.{then-is_received, else-is_received}
use Rattle.script_session.proofs.receiving.submit.Goals as goal

pub returns-clause-submits : goal.returns-clause-submits
returns-clause-submits c =
    let a = c.args in
    let reply = c.submit-reply.result in
    let says = c.submit-reply.ensures in
    let before = a.queues.items in
    let after = c.end.result.ports.items in
    let lane = c.keeping_doubles-lane.result in
    let first = lane.ports in
    let last = c.submit-reply.new.self.ports in
    let is_before : first ≡ before = ap (λ (l : LaneState (QueueState Item)). l.ports) c.keeping_doubles-lane.ensures ∙ ap (λ (l : LaneState (QueueState Item)). l.ports) c.new.ensures in
    let keeps : lane.keeps_doubles ≡ a.keeps_doubles = ap (λ (l : LaneState (QueueState Item)). l.keeps_doubles) c.keeping_doubles-lane.ensures in
    subst (λ (k : Bool). Submits k a.connections.now a.number a.moment a.body.now before reply after c.if-is_received.connections) keeps
    (elim c.if-is_received.branch [
      | then-is_received w ↦ submits-read lane.keeps_doubles a.connections.now c.connect.new.self c.if-is_received.connections a.number a.moment a.body.now before after first last reply c.in-Ok.conn c.submit-reply.new.conn
          c.in-Ok.ensures.conn c.in-Ok.ensures.connected (w.connections-is ∙ w.put.ensures) is_before c.end.ensures.ports (received reply _ (sym w.if-is_received.ensures) says.received)
      | else-is_received w ↦
          let no = sym w.if-is_received.ensures in
          submits-refused lane.keeps_doubles a.connections.now c.if-is_received.connections a.number a.moment a.body.now before after first last reply (w.connections-is ∙ c.in-Ok.ensures.connected) is_before c.end.ensures.ports
          (ap (λ (l : LaneState (QueueState Item)). l.ports) (says.refused (refusal reply no)).0) (refused lane.keeps_doubles reply a.body.now no says.bad)
    ])
