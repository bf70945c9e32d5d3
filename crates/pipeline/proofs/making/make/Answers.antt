use Rattle.std.proofs.Common.{◌≡◌, ◌+◌, sym, subst, arith, vec_len, All}
use Rattle.lane_queue.specs.Grid.{ends_of, HasRoom}
use Rattle.pipeline.specs.Promise.{nodes_of}
use Rattle.pipeline.proofs.Ends.{has_ends, lanes_wait}
use Rattle.pipeline.proofs.making.make.Goals as goal

pub returns-clause-ends : goal.returns-clause-ends
returns-clause-ends g c =
    let made = c.in-Ok.ensures in
    let team = c.in_ok-team.ensures in
    has_ends (nodes_of c.args.config.now) c.args.config.now.shards (ends_of c.in-Ok.made.columns.items) _ _ c.in-Ok.made.ends.receivers.items _ c.in-Ok.made.ends.exports.items _ c.in-Ok.made.ends.seats.items _ c.in-Ok.made.shipments
    team.ports team.ends.1 team.ends.2 team.ends.0 made.grid.0 made.grid.1 made.seats made.shipped.0 (omega (arith, c.in-Ok.made.ends.exports.ok.0, made.exports.0))

pub returns-clause-rows : goal.returns-clause-rows
returns-clause-rows g c = subst (λ r. (vec_len r ≡ c.args.config.now.shards) × All (HasRoom (c.args.config.now.lanes + 1)) r.items) (sym c.in-Ok-rooms_for.ensures.rows) c.in-Ok.ensures.rows

pub returns-clause-waits : goal.returns-clause-waits
returns-clause-waits g c = lanes_wait c.args.config.now.waits_for_room (ends_of c.in-Ok.made.columns.items) _ _ c.in_ok-team.ensures.ports c.in-Ok.ensures.waits
