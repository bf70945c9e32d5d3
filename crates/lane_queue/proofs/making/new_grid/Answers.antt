use Rattle.std.proofs.Common.{◌≡◌, ◌∙◌, ◌+◌, length, sym, subst, arith}
use Rattle.std.proofs.lemmas.List.{length-map}
use Rattle.lane_queue.specs.Grid.{ends_of}
use Rattle.lane_queue.proofs.Grids.{Growing, grow_first, grow_more, wait_first, wait_more}
use Rattle.lane_queue.proofs.making.new_grid.Goals as goal

pub loop-init : goal.loop-init
loop-init g c = (
  c.in_ok-columns.ensures.count,
  c.in_ok-all.ensures.len,
  c.in_ok-all.ensures.capacity,
  subst (λ l. Growing c.args.senders 0 (ends_of c.in_ok-columns.columns.items) l) (sym c.in_ok-all.ensures.items) (grow_first c.args.senders (ends_of c.in_ok-columns.columns.items) c.in_ok-columns.ensures.empty),
  wait_first c.args.waits c.args.senders (ends_of c.in_ok-columns.columns.items) c.in_ok-columns.ensures.empty,
)

pub loop-preserved : goal.loop-preserved
loop-preserved g c =
    let h = c.loop.invariant in
    let made = c.in_ok-row.ensures in
    let lc : length (ends_of c.loop.columns.items) ≡ c.args.senders = length-map c.loop.columns.items _ ∙ (sym c.loop.columns.ok.0 ∙ h.0) in
    let lr : length c.in_ok-row.row.items ≡ c.args.senders = sym c.in_ok-row.row.ok.0 ∙ made.senders in (
      c.deal.ensures.count ∙ h.0,
      omega (arith, c.push_reserved.ensures.len, h.1),
      omega (arith, c.push_reserved.ensures.capacity, h.2),
      subst (λ l. Growing c.args.senders (c.loop.counter + 1) (ends_of c.deal.new.columns.items) l) (sym c.push_reserved.ensures.items)
          (grow_more c.args.senders c.loop.counter (ends_of c.loop.columns.items) (ends_of c.deal.new.columns.items) c.loop.all.items c.in_ok-row.row.items c.in_ok-row.receiver h.3 lc lr made.tied made.new.0 made.new.1 c.in_ok-deal.ensures.dealt),
      wait_more c.args.waits (ends_of c.loop.columns.items) (ends_of c.deal.new.columns.items) c.in_ok-row.row.items h.4 made.waits c.in_ok-deal.ensures.dealt,
    )
