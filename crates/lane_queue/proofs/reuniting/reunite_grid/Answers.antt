use Rattle.std.proofs.Common.{◌≡◌, ◌∙◌, ◌+◌, length, refl, sym, subst, arith, Some}
use Rattle.std.proofs.lemmas.List.{length-map}
use Rattle.std.proofs.lemmas.List.Elements.{All-pop}
use Rattle.lane_queue.specs.Grid.{ends_of, AreOfLength, HasRoom}
use Rattle.lane_queue.proofs.Grids.{are_long}
use Rattle.lane_queue.proofs.Reunion.{reunite_first, last_row, reunite_more, reunited}
use Rattle.lane_queue.proofs.reuniting.reunite_grid.Goals as goal

pub loop-receiver-init : goal.loop-receiver-init
loop-receiver-init g c = (c.requires.rows.0, refl, c.requires.rows.1, reunite_first g.C.Room.capacity (ends_of c.args.columns.items) c.args.receivers.items c.requires.tied)

pub take_row-row-requires-clause-some : goal.take_row-row-requires-clause-some
take_row-row-requires-clause-some g c =
    let h = c.loop-receiver.invariant in
    let more : length c.loop-receiver.receivers.items ≡ length c.pop.new.self.items + 1 = omega (arith, c.loop-receiver.receivers.ok.0, c.pop.new.self.ok.0, c.in-Some.ensures.len) in
    are_long (length c.pop.new.self.items) (ends_of c.loop-receiver.columns.items) (subst (λ n. AreOfLength n (ends_of c.loop-receiver.columns.items)) more h.3.tied.long)

pub take_row-row-requires-clause-room : goal.take_row-row-requires-clause-room
take_row-row-requires-clause-room g c =
    let h = c.loop-receiver.invariant in
    let last = (All-pop (HasRoom (c.args.columns.len)) c.loop-receiver.rows.items c.take_last.new.self.items (Some c.take_last.result) c.take_last.ensures.items h.2).1 in
    (last.0, omega (arith, h.1, last.1))

pub reunite-requires : goal.reunite-requires
reunite-requires g c =
    let h = c.loop-receiver.invariant in
    let took = c.take_row-row.ensures in
    (last_row (ends_of c.take_row-row.new.columns.items) (ends_of c.loop-receiver.columns.items) c.take_row-row.result.items c.pop.new.self.items c.loop-receiver.receivers.items c.in-Some.receiver h.3.tied c.in-Some.ensures.items took.taken
    (sym c.take_row-row.result.ok.0 ∙ (took.len ∙ (sym took.columns ∙ (c.take_row-row.new.columns.ok.0 ∙ sym (length-map c.take_row-row.new.columns.items _)))))).0

pub loop-receiver-preserved : goal.loop-receiver-preserved
loop-receiver-preserved g c =
    let h = c.loop-receiver.invariant in
    let took = c.take_row-row.ensures in (
      omega (arith, h.0, c.in-Some.ensures.len, c.take_last.ensures.len),
      took.columns ∙ h.1,
      (All-pop (HasRoom (c.args.columns.len)) c.loop-receiver.rows.items c.take_last.new.self.items (Some c.take_last.result) c.take_last.ensures.items h.2).0,
      reunite_more g.C.Room.capacity (ends_of c.args.columns.items) c.args.receivers.items (ends_of c.take_row-row.new.columns.items) (ends_of c.loop-receiver.columns.items) c.take_row-row.result.items c.pop.new.self.items c.loop-receiver.receivers.items c.in-Some.receiver h.3 c.in-Some.ensures.items took.taken
          (sym c.take_row-row.result.ok.0 ∙ (took.len ∙ (sym took.columns ∙ (c.take_row-row.new.columns.ok.0 ∙ sym (length-map c.take_row-row.new.columns.items _)))))
          c.reunite.ensures,
    )

pub returns : goal.returns
returns g c = reunited g.C.Room.capacity (ends_of c.args.columns.items) c.args.receivers.items (ends_of c.loop-receiver.columns.items) c.loop-receiver.receivers.items c.loop-receiver.invariant.3 (sym c.loop-receiver.receivers.ok.0 ∙ c.in_default.ensures.cases.0)
