use Rattle.std.proofs.Common.{◌≡◌, ℕ, List}
use Rattle.std.specs.Prelude.{map}
use Rattle.lane_worker.specs.Ticking.{TicksAll, with_ticks}
use Rattle.lane_worker.proofs.ticker.tick.Given as goal

-- the ticks that are given from here on are, with those that were given so far, all ticks
abbrev pub invariant-loop : goal.invariant-loop
invariant-loop g l = (rest : List ℕ) (new : g.row.T.Denot) → TicksAll g.T.Ticks.gives rest l.ticks new
    → (moments : List ℕ) × TicksAll g.T.Ticks.gives moments l.fn.ticks new
    × (map (with_ticks rest l.number) l.senders.items ≡ map (with_ticks moments l.number) l.fn.senders.items)
