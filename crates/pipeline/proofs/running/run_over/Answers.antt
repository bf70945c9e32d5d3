use Rattle.std.specs.List.{list_any}
use Rattle.std.proofs.Common.{◌≡◌, ◌+◌, ◌++◌, ◌||◌, ◌<◌, ◌≤◌, ◌∙◌, ℕ, [], ◌∷◌, All, refl, ap, sym, subst, arith, length, map, vec_len, vec_capacity}
use Rattle.std.proofs.lemmas.List.{length-map, map-append}
use Rattle.lane_queue.specs.Ends.{AreTied, HasHistoryAt}
use Rattle.lane_queue.specs.Grid.{ends_of, HasRoom, IsTiedGrid, HaveHistories}
use Rattle.shard_core.specs.Held.{settings}
use Rattle.shared_budget.specs.Budget.{AreOfOneBudget, HaveOneHistoryEach}
use Rattle.world_theory.specs.World.{settings_for}
use Rattle.run_weave.specs.Jobs.{TickerDid}
use Rattle.run_weave.specs.Workers.{LaneOut, ShardIn, ShardOut, Given, Left, senders_of, Worked}
use Rattle.pipeline.specs.Made.{HasEnds}
use Rattle.pipeline.specs.Promise.{core_of, nodes_of}
use Rattle.pipeline.proofs.Done.{lanes_did, shards_did}
use Rattle.pipeline.proofs.Worked.{twice, all_both, counted_by_all, any_mapped, Done, tied_left, shipped_left, seats_left, worked}
use Rattle.pipeline.proofs.running.run_over.Given.{Over}
use Rattle.pipeline.proofs.running.run_over.Goals.{After-add}
use denote.Exit.{yes, no}
use denote.Param.{param}
use denote.Param.Send.{IsSend, arg_send, param_send}
use Rattle.pipeline.proofs.JobsSent.{ends_send, lane_job_send, lane_left_send, shard_job_send, shard_left_send, ticker_job_send}
use Rattle.pipeline.proofs.SinkWent.{went}
use Rattle.pipeline.proofs.running.run_over.Goals as goal

pub returns-in-Ok-run_team-clause-sink : goal.returns-in-Ok-run_team-clause-sink
returns-in-Ok-run_team-clause-sink g c =
    let did = c.in-Ok-run_team.ensures.main in
    let handed = c.sink_takes_lines.ensures _ _ _ did.works.leads in
    let took = c.takes_handed_lines.ensures _ _ _ _ handed.2 in
    went _ _ _ _ c.requires.new_exporter.3 took

pub run_team-requires-send-First : goal.run_team-requires-send-First
run_team-requires-send-First g c κs within =
    let acceptor : IsSend (param 0 g.row.Server) = record { owned = c.type_bounds.send-Server.owned; leaving = c.type_bounds.send-Server.leaving } in
    param_send _ _ (arg_send _ no _ (lane_job_send _ (param 0 g.row.Server) (param 6 g.row.QueueRoom) (param 3 g.row.Observer) (param 4 g.row.Mark) (param 5 g.row.Time) (param 8 g.row.Runtime) g.QueueRoom.Room acceptor c.type_bounds.sync-Observer c.type_bounds.sync-Mark c.type_bounds.sync-Time c.type_bounds.sync-Runtime))

pub run_team-requires-send-Second : goal.run_team-requires-send-Second
run_team-requires-send-Second g c κs within = param_send _ _ (arg_send _ no _ (ticker_job_send _ _ (param 6 g.row.QueueRoom) _ g.QueueRoom.Room c.type_bounds.send-TickSource c.type_bounds.sync-Runtime))

pub run_team-requires-send-Third : goal.run_team-requires-send-Third
run_team-requires-send-Third g c κs within = param_send _ _ (arg_send _ no _ (shard_job_send _ (param 6 g.row.QueueRoom) (param 7 g.row.ExportRoom) (param 3 g.row.Observer) (param 8 g.row.Runtime) g.QueueRoom.Room g.ExportRoom.Room c.type_bounds.sync-Observer c.type_bounds.sync-Runtime))

pub run_team-requires-send-First-Left : goal.run_team-requires-send-First-Left
run_team-requires-send-First-Left g c κs within = param_send _ _ (arg_send _ yes _ (lane_left_send (param 6 g.row.QueueRoom) g.QueueRoom.Room))

pub run_team-requires-send-Second-Left : goal.run_team-requires-send-Second-Left
run_team-requires-send-Second-Left g c κs within = param_send _ _ (arg_send _ yes _ (ends_send (param 6 g.row.QueueRoom) g.QueueRoom.Room))

pub run_team-requires-send-Third-Left : goal.run_team-requires-send-Third-Left
run_team-requires-send-Third-Left g c κs within = param_send _ _ (arg_send _ no _ (shard_left_send _ (param 6 g.row.QueueRoom) (param 7 g.row.ExportRoom) (param 8 g.row.Runtime) g.QueueRoom.Room g.ExportRoom.Room c.type_bounds.sync-Runtime))

-- what all were given
abbrev given_of : (g : Over) → After-add g → Given g.row.Server.Denot g.row.TickSource.Denot
given_of g c = record {
  acceptors = map (λ j. j.acceptor) c.in-Ok.made.team.first.items;
  ticks = c.in-Ok.made.team.second.ticks;
  columns = map (λ j. j.lane.ports) c.in-Ok.made.team.first.items;
  ticker = c.in-Ok.made.team.second.senders.items;
  shards = map (λ j. record { seat = j.seat; receiver = j.receiver; sender = j.sender }) c.in-Ok.made.team.third.items;
  exporter = c.args.exporter;
  shipments = c.in-Ok.made.shipments;
}

-- what all left
abbrev left_of : (g : Over) → After-add g → Left
left_of g c = record {
  lanes = map (λ l. record { senders = l.senders.items; counted = l.counts; is_full = l.is_full }) c.in-Ok-run_team.left.first.items;
  ticker = c.in-Ok-run_team.left.second.items;
  shards = map (λ l. record { seat = l.seat; receiver = l.receiver; sender = l.sender; counted = l.counts; is_full = l.is_full }) c.in-Ok-run_team.left.third.items;
  exporter = record { exporter = c.in-Ok-run_team.last.exporter; receiver = c.in-Ok-run_team.last.receiver; counted = c.in-Ok-run_team.last.counts; is_full = c.in-Ok-run_team.last.is_full };
}

-- all did what they promise
all_done : (g : Over) (c : After-add g) → Done g.Server.LaneServer.serves g.TickSource.Ticks.gives (settings_for (core_of c.args.config.now) (c.args.config.now.lanes + 1)) (nodes_of c.args.config.now)
    c.args.config.now.keeps_doubles g.QueueRoom.Room.capacity c.args.config.now.lanes c.args.config.now.shards (given_of g c) (left_of g c)
all_done g c =
    let made = c.in-Ok.made in
    let e = c.in-Ok.ensures in
    let ran = c.in-Ok-run_team.ensures in
    let left = left_of g c in
    let third = made.team.third.items in
    let ins = (given_of g c).shards in
    let nodes = nodes_of c.args.config.now in
    let shards = c.args.config.now.shards in
    let ports = (given_of g c).columns in
    let ticker = (given_of g c).ticker in record {
      lane_count = omega (arith, length-map made.team.first.items (λ j. j.acceptor), made.team.first.ok.0, e.lanes.0);
      shard_count = omega (arith, length-map {B = ShardIn} third (λ j. record { seat = j.seat; receiver = j.receiver; sender = j.sender }), made.team.third.ok.0, e.shards.0);
      senders = refl;
      ends = subst (λ z. HasEnds nodes shards ports ticker (map (λ x. x.receiver) ins) (map (λ x. x.sender) ins) z made.shipments) (sym (twice (λ x. x.seat) (λ j. record { seat = j.seat; receiver = j.receiver; sender = j.sender }) third))
          (subst (λ z. HasEnds nodes shards ports ticker (map (λ x. x.receiver) ins) z (map (λ j. j.seat) third) made.shipments) (sym (twice (λ x. x.sender) (λ j. record { seat = j.seat; receiver = j.receiver; sender = j.sender }) third))
          (subst (λ z. HasEnds nodes shards ports ticker z (map (λ j. j.sender) third) (map (λ j. j.seat) third) made.shipments) (sym (twice (λ x. x.receiver) (λ j. record { seat = j.seat; receiver = j.receiver; sender = j.sender }) third)) e.ends));
      new_batch = c.requires.new_exporter.0;
      up = c.requires.new_exporter.3;
      exporter_ends = c.requires.exporter_ends;
      lanes_did = lanes_did g.Server.LaneServer.serves c.args.config.now.keeps_doubles g.QueueRoom.Room.capacity (λ j. j.number) (λ j. j.acceptor) (λ j. j.lane)
          (λ l. record { senders = l.senders.items; counted = l.counts; is_full = l.is_full }) _ (λ j l h. h) 0 made.team.first.items c.in-Ok-run_team.left.first.items e.numbers.0
          (all_both (λ j. (j.lane.number ≡ j.number) × (j.room.items ≡ []) × (length j.lane.ports ≤ vec_capacity j.room)) (λ j. (j.lane.connected ≡ 0) × (j.lane.keeps_doubles ≡ c.args.config.now.keeps_doubles)) (λ j. (j.lane.number ≡ j.number) × (j.lane.connected ≡ 0) × (j.lane.keeps_doubles ≡ c.args.config.now.keeps_doubles)) made.team.first.items (λ j h k. (h.0, k.0, k.1)) e.lanes.1 e.new_lanes) ran.first;
      ticker_did = subst (λ n. TickerDid g.TickSource.Ticks.gives n made.team.second.ticks made.team.second.senders.items c.in-Ok-run_team.left.second.items) e.ticker.0 ran.second;
      shards_did = shards_did g.QueueRoom.Room.capacity (settings_for (core_of c.args.config.now) (c.args.config.now.lanes + 1)) (λ j. j.number) (λ j. record { seat = j.seat; receiver = j.receiver; sender = j.sender }) (λ j. settings j.shard)
          (λ l. record { seat = l.seat; receiver = l.receiver; sender = l.sender; counted = l.counts; is_full = l.is_full }) _ (λ j l h. h) 0 third c.in-Ok-run_team.left.third.items e.numbers.1 e.new_shards ran.third;
      exporter_did = ran.main;
    }

-- what was gathered is what was left
columns_are : (g : Over) (c : After-add g) → ends_of c.push_reserved.new.self.items ≡ senders_of (left_of g c)
columns_are g c =
    ap ends_of c.push_reserved.ensures.items ∙ (map-append (λ v. v.items) c.gather_lanes.new.columns.items (c.in-Ok-run_team.left.second ∷ [])
    ∙ ap (λ z. z ++ c.in-Ok-run_team.left.second.items ∷ []) (c.gather_lanes.ensures.columns ∙ (ap (λ z. ends_of z ++ map (λ lane. lane.senders.items) c.in-Ok-run_team.left.first.items) c.in-Ok.ensures.columns.0
    ∙ sym (twice (λ out. out.senders) (λ l. record { senders = l.senders.items; counted = l.counts; is_full = l.is_full }) c.in-Ok-run_team.left.first.items))))

receivers_short : (g : Over) (c : After-add g) → c.gather_shards.new.ends.receivers.items ≡ map (λ shard. shard.receiver) c.in-Ok-run_team.left.third.items
receivers_short g c = c.gather_shards.ensures.receivers ∙ ap (λ z. z ++ map (λ shard. shard.receiver) c.in-Ok-run_team.left.third.items) c.in-Ok.ensures.receivers.0

receivers_are : (g : Over) (c : After-add g) → c.gather_shards.new.ends.receivers.items ≡ map (λ x. x.receiver) (left_of g c).shards
receivers_are g c = receivers_short g c ∙ sym (twice (λ x. x.receiver) (λ l. record { seat = l.seat; receiver = l.receiver; sender = l.sender; counted = l.counts; is_full = l.is_full }) c.in-Ok-run_team.left.third.items)

exports_are : (g : Over) (c : After-add g) → c.gather_shards.new.ends.exports.items ≡ map (λ x. x.sender) (left_of g c).shards
exports_are g c = c.gather_shards.ensures.exports ∙ (ap (λ z. z ++ map (λ shard. shard.sender) c.in-Ok-run_team.left.third.items) c.in-Ok.ensures.exports.0
    ∙ sym (twice (λ x. x.sender) (λ l. record { seat = l.seat; receiver = l.receiver; sender = l.sender; counted = l.counts; is_full = l.is_full }) c.in-Ok-run_team.left.third.items))

seats_are : (g : Over) (c : After-add g) → c.gather_shards.new.ends.seats.items ≡ map (λ x. x.seat) (left_of g c).shards
seats_are g c = c.gather_shards.ensures.seats ∙ (ap (λ z. z ++ map (λ shard. shard.seat) c.in-Ok-run_team.left.third.items) c.in-Ok.ensures.seats.0
    ∙ sym (twice (λ x. x.seat) (λ l. record { seat = l.seat; receiver = l.receiver; sender = l.sender; counted = l.counts; is_full = l.is_full }) c.in-Ok-run_team.left.third.items))

pub join_all-requires-clause-tied : goal.join_all-requires-clause-tied
join_all-requires-clause-tied g c = subst (λ z. IsTiedGrid z c.gather_shards.new.ends.receivers.items) (sym (columns_are g c))
    (subst (λ z. IsTiedGrid (senders_of (left_of g c)) z) (sym (receivers_are g c)) (tied_left _ _ _ _ _ _ _ _ (given_of g c) (left_of g c) (all_done g c)))

pub join_all-requires-clause-rows : goal.join_all-requires-clause-rows
join_all-requires-clause-rows g c =
    let e = c.in-Ok.ensures in
    let counts = c.in-Ok-run_team.ensures.counts in
    let popped : length c.gather_shards.new.ends.receivers.items ≡ length c.in-Ok-run_team.left.third.items = ap length (receivers_short g c) ∙ length-map c.in-Ok-run_team.left.third.items (λ shard. shard.receiver) in
    let pushed : c.args.config.now.lanes + 1 ≡ vec_len c.push_reserved.new.self = omega (arith, c.push_reserved.ensures.len, c.gather_lanes.ensures.columns_room.0, c.in-Ok.made.rooms.columns.ok.0, ap length e.columns.0, counts.0, e.lanes.0) in (
      omega (arith, e.rows.0, c.gather_shards.new.ends.receivers.ok.0, popped, c.in-Ok-run_team.left.third.ok.0, counts.1, e.shards.0),
      subst (λ n. All (HasRoom n) c.in-Ok.made.rooms.rows.items) pushed e.rows.1,
    )

pub join_all-requires-clause-shipped : goal.join_all-requires-clause-shipped
join_all-requires-clause-shipped g c = subst (λ z. AreTied z c.in-Ok-run_team.last.receiver.ends) (sym (exports_are g c)) (shipped_left _ _ _ _ _ _ _ _ (given_of g c) (left_of g c) (all_done g c))

pub join_all-requires-clause-seats : goal.join_all-requires-clause-seats
join_all-requires-clause-seats g c =
    let law = c.asked_seats_may_be_compared.ensures in
    subst AreOfOneBudget (sym (seats_are g c)) (seats_left _ _ _ _ _ _ _ _ (given_of g c) (left_of g c) law.new law.asked law.same (all_done g c))

pub returns-in-Ok-run_team-clause-worked : goal.returns-in-Ok-run_team-clause-worked
returns-in-Ok-run_team-clause-worked g c =
    let b = (goal.at.returns-in-Ok-run_team-clause-worked g c).After-add in
    let left = left_of g b in
    let first = c.in-Ok-run_team.left.first.items in
    let third = c.in-Ok-run_team.left.third.items in
    let joined = c.join_all.ensures in
    let all = worked _ _ _ _ _ _ _ _ (given_of g b) left g.ExportRoom.Room.capacity (all_done g b)
    (subst (λ z. HaveHistories g.QueueRoom.Room.capacity z (map (λ x. x.receiver) left.shards)) (columns_are g b) (subst (λ z. HaveHistories g.QueueRoom.Room.capacity (ends_of c.push_reserved.new.self.items) z) (receivers_are g b) joined.items))
    (subst (λ z. (place : ℕ) → place < length left.exporter.receiver.ends → HasHistoryAt g.ExportRoom.Room.capacity z left.exporter.receiver.ends place) (exports_are g b) joined.shipments)
    (subst HaveOneHistoryEach (seats_are g b) joined.seats) in record {
      given = given_of g b;
      left = left;
      worked = subst (λ n. Worked g.Server.LaneServer.serves g.TickSource.Ticks.gives (settings_for (core_of c.args.config.now) (c.args.config.now.lanes + 1)) (nodes_of c.args.config.now) c.args.config.now.keeps_doubles n c.args.config.now.export_capacity c.args.config.now.lanes c.args.config.now.shards (given_of g b) left) (sym c.requires.runs.1)
          (subst (λ n. Worked g.Server.LaneServer.serves g.TickSource.Ticks.gives (settings_for (core_of c.args.config.now) (c.args.config.now.lanes + 1)) (nodes_of c.args.config.now) c.args.config.now.keeps_doubles g.QueueRoom.Room.capacity n c.args.config.now.lanes c.args.config.now.shards (given_of g b) left) (sym c.requires.runs.2) all);
      waits = c.in-Ok.ensures.waits;
      acceptors_are = c.in-Ok.ensures.acceptors;
      ticks_are = c.in-Ok.ensures.ticker.1;
      exporter_is = refl;
      exporter_left = refl;
      counted = counted_by_all (λ l. l.counts) (λ l. l.counts) first third c.in-Ok-run_team.last.counts c.in-Ok.made.rooms.counts.items c.gather_lanes.new.counted.counts.items c.gather_shards.new.counted.counts.items c.add.new.self.counts.items
          c.in-Ok.ensures.counts_room.0 c.gather_lanes.ensures.counts c.gather_shards.ensures.counts c.add.ensures.counts
          ∙ cc (twice (λ (out : LaneOut). out.counted) (λ l. record { senders = l.senders.items; counted = l.counts; is_full = l.is_full }) first, twice (λ (x : ShardOut). x.counted) (λ l. record { seat = l.seat; receiver = l.receiver; sender = l.sender; counted = l.counts; is_full = l.is_full }) third);
      full = c.add.ensures.full ∙ (ap (λ b. b || c.in-Ok-run_team.last.is_full) (c.gather_shards.ensures.full ∙ ap (λ b. b || list_any (λ shard. shard.is_full) third) c.gather_lanes.ensures.full)
          ∙ cc (any_mapped (λ (out : LaneOut). out.is_full) (λ l. record { senders = l.senders.items; counted = l.counts; is_full = l.is_full }) first, any_mapped (λ (x : ShardOut). x.is_full) (λ l. record { seat = l.seat; receiver = l.receiver; sender = l.sender; counted = l.counts; is_full = l.is_full }) third));
    }
