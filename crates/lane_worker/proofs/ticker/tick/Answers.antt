use Rattle.std.proofs.Common.{◌∙◌, refl, sym, ap, [], ◌∷◌}
use Rattle.std.specs.Prelude.{map}
use Rattle.lane_worker.specs.Ticking.{with_ticks}
use Rattle.lane_worker.proofs.Ends.{ticks_more}
use Rattle.lane_worker.proofs.ticker.tick.Goals as goal

pub loop-init : goal.loop-init
loop-init g c = λ rest new h. (rest, h, refl)

pub loop-preserved : goal.loop-preserved
loop-preserved g c = λ rest new h.
    let moment = c.in-Some-next.moment in
    let whole = c.loop.invariant (moment ∷ rest) new (c.next-in-loop.new.self, c.in-Some-next.ensures, h) in (
      whole.0,
      whole.1,
      ap (map (with_ticks rest c.args.number)) c.tick_all.ensures ∙ (ticks_more moment rest c.args.number c.loop.senders.items ∙ whole.2),
    )

pub returns-in_default : goal.returns-in_default
returns-in_default g c =
    let whole = c.loop.invariant [] c.next-in-loop.new.self c.in_default.ensures in record { ticked = (whole.0, whole.1, c.end_all.ensures ∙ whole.2) }
