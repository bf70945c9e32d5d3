use Rattle.std.proofs.Common.{◌≡◌, ◌∙◌, ◌<◌, ◌++◌, ◌∷◌, [], refl, sym, ap, subst, length, set, slice_get, Some, arith}
use Rattle.lane_queue.specs.Grid.{ends_of, dealt}
use Rattle.lane_queue.proofs.Dealing.{get_at, dealt_none, dealt_less, long_at, ends_set, ends_get}
use Rattle.lane_queue.proofs.reuniting.take_row.Goals as goal

pub loop-place-init : goal.loop-place-init
loop-place-init g c =
    let room = c.requires.room in (
      c.args.room.ok.0 ∙ ap length room.0,
      refl,
      room.1,
      ap (dealt (ends_of c.args.columns.now.items)) room.0 ∙ dealt_none (ends_of c.args.columns.now.items),
    )

pub take_last-requires : goal.take_last-requires
take_last-requires g c =
    let h = c.loop-place.invariant in
    let column = c.index_mut-column.result.now in
    let at = ends_get c.loop-place.columns.items c.loop-place.place column (get_at c.loop-place.columns.items c.loop-place.place column c.index_mut-column.ensures.value (omega (arith, c.loop-place-test.true, c.loop-place.columns.ok.0, h.1))) in
    let some : 0 < length column.items = long_at (ends_of c.loop-place.columns.items) (ends_of c.args.columns.now.items) c.loop-place.row.items c.loop-place.place column.items h.3 (sym c.loop-place.row.ok.0 ∙ h.0) c.requires.some at in
    omega (arith, column.ok.0)

pub loop-place-preserved : goal.loop-place-preserved
loop-place-preserved g c =
    let h = c.loop-place.invariant in
    let column = c.index_mut-column.result.now in
    let x = c.take_last.result in
    let row = c.loop-place.row.items in
    let columns = ends_of c.loop-place.columns.items in
    let left = c.take_last.new.self.items in
    let same : length row ≡ c.loop-place.place = sym c.loop-place.row.ok.0 ∙ h.0 in
    let at = ends_get c.loop-place.columns.items c.loop-place.place column (get_at c.loop-place.columns.items c.loop-place.place column c.index_mut-column.ensures.value (omega (arith, c.loop-place-test.true, c.loop-place.columns.ok.0, h.1))) in
    let there : slice_get columns (length row) ≡ Some (left ++ x ∷ []) = ap (slice_get columns) same ∙ (at ∙ ap Some c.take_last.ensures.items) in
    let less = dealt_less columns row x left there in
    let moved : dealt (set columns c.loop-place.place left) (row ++ x ∷ []) ≡ dealt columns row = subst (λ k. dealt (set columns k left) (row ++ x ∷ []) ≡ dealt columns row) same less in (
      omega (arith, c.push_reserved.ensures.len, h.0),
      h.1,
      omega (arith, c.push_reserved.ensures.capacity, h.2),
      (λ i. dealt (ends_set c.loop-place.columns.items c.loop-place.place c.take_last.new.self i) (c.push_reserved.ensures.items i)) ∙ (moved ∙ h.3),
    )
