use Rattle.std.proofs.Common.{◌≡◌, [], List, Bool, IfSome, false}
use Rattle.slab.specs.Slab.{get}
use Rattle.http_lane.specs.Intake.{Submits}
use Rattle.http_lane.specs.Connection.{in_head}
use Rattle.http_lane.specs.Requests.{Awaits}
use Rattle.lane_turns.specs.Acts.{Act, LaneNow, lane_now, Fits, acts_uncounted, TellsActs}
use Rattle.lane_turns.specs.Driven.{DriverRound, RunsFrom, IsDriven}
use Rattle.lane_turns.proofs.serving.serve_turns.Given as goal

-- the acts so far led here; and a run from here on is, behind the rounds so far, a whole one
abbrev pub invariant-loop : goal.invariant-loop
invariant-loop g l =
    (goal.iterator-loop g).can_next l.iterator' × (goal.iterator-loop g).is_finite l.iterator'
    × IfSome l.spare (λ engine. Awaits engine (in_head l.allowed []))
    × (acts : List Act) × Fits (Submits g.ShardPort.Port.takes g.ShardPort.Port.refuses) l.allowed l.fn.lane.number (lane_now l.fn.lane (g.Ledger.Counter.counted l.fn.counts)) (get l.table) acts (lane_now l.lane (g.Ledger.Counter.counted l.counts))
    × (acts_uncounted acts ≡ false)
    × ((rounds : List (DriverRound g.row.Poller.Denot g.row.ShardPort.Denot)) (last : g.row.Poller.Denot) (after : LaneNow g.row.ShardPort.Denot) (is_full : Bool)
    → RunsFrom g.Poller.Driver.asks g.Poller.Driver.hears (Submits g.ShardPort.Port.takes g.ShardPort.Port.refuses) l.allowed (lane_now l.fn.lane (g.Ledger.Counter.counted l.fn.counts)) l.driver (get l.table) acts (lane_now l.lane (g.Ledger.Counter.counted l.counts)) rounds last after is_full
    → IsDriven g.Poller.Driver.asks g.Poller.Driver.hears (Submits g.ShardPort.Port.takes g.ShardPort.Port.refuses) l.allowed l.fn.driver (lane_now l.fn.lane (g.Ledger.Counter.counted l.fn.counts)) last after is_full)
    × TellsActs (g.Time.Clock.heard l.lent.clock.now) 0 l.told l.fn.lane.number acts
