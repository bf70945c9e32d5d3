-- The steps of the core: where each is enabled, and the one world that it gives.
-- A step that names a lane, a shard or a sender that the world doesn't have isn't enabled.
use Rattle.std.specs.Prelude.{ℕ, ◌+◌, Bool, true, false, not, ◌&&◌, ◌||◌, if◌then◌else◌, ◌==◌, nat_lt, is_some, List, [], ◌∷◌, ◌++◌, length, filter, count_by, slice_get, slice_set, Option, Some, None, option_map, option_and_then}
use Rattle.std.specs.List.{list_any}
use Rattle.journal_theory.specs.Journal.{Entry, answered, has_ended}
use Rattle.journal_theory.specs.Fate.{Effect, effect_of_taking, counts}
use Rattle.journal_theory.specs.Answered.{effect_answered_at}
use Rattle.journal_theory.specs.Marked.{marks_apply_to_ids}
use Rattle.otlp_types.specs.declared.arrival.Arrival.{Arrival}
use Rattle.otlp_types.specs.declared.arrival.Record.{Record}
use Rattle.otlp_types.specs.declared.arrival.Item.TheVariants.{Span, Tick, End}
use Rattle.span_ids.specs.declared.keys.ConnKey.{ConnKey}
use Rattle.span_ids.specs.declared.outcome.Reason.{Reason}
use Rattle.span_ids.specs.declared.outcome.Reason.TheVariants.{InvalidId, QueueFull, NoMemory, ExporterDown}
use Rattle.world_theory.specs.World.{may_give_up, CoreConfig, CoreLane, CoreShard, World, new_world, settings, ticker, has_due, is_same_conn, goes_to}

-- a step of the core: moments are milliseconds, lanes, shards and senders are named by their numbers from 0
pub data Step : Type 0 where
  -- the lane's connection of this ordinal receives the spans of a request
  receive : (lane ordinal moment : ℕ) → List Record → Step
  -- the lane's first unrouted span for the shard goes to the shard's queue
  route : (lane shard : ℕ) → Step
  -- the same span finds the shard's queue full
  refuse : (lane shard : ℕ) → Step
  -- the shard takes the first span of its queue; memory was refused to the span, or to the put of an evicted decision
  take : (shard : ℕ) → (refused lost : Bool) → Step
  -- the shard takes a tick
  tick : (shard moment : ℕ) → Step
  -- the lane receives no more
  close : (lane : ℕ) → Step
  -- the shard takes the sender's End
  end : (shard sender : ℕ) → Step
  -- the shard decides its oldest due episode, where the limiter gives these answers to the decision's askings, in the
  -- order in which the policies ask
  decide : (shard : ℕ) → (answers : List Bool) → Step
  -- the shard's first unshipped span goes to the exporter
  ship : (shard : ℕ) → Step
  -- the exporter's first span goes to the open batch
  pull : Step
  -- the open batch is handed over
  hand : Step
  -- the sink fails, and stays down
  fail : Step
  -- the open batch is given up
  drop_batch : Reason → Step

-- ---- lanes

-- the arrival came on this connection
abbrev pub is_of_conn : ConnKey → Arrival → Bool
is_of_conn conn a = is_same_conn a.key.conn conn

-- the arrivals of these records, with the connection's numbers from `next` on
abbrev pub arrivals : ConnKey → (next moment : ℕ) → List Record → List Arrival
arrivals conn next moment [] = []
arrivals conn next moment (r ∷ rest) = record { key = record { conn = conn; number = next }; moment = moment; rec = r } ∷ arrivals conn (next + 1) moment rest

-- the world with this in place of a lane
abbrev pub with_lane : World → ℕ → CoreLane → World
with_lane w lane l = record w { lanes = slice_set w.lanes lane l }

-- the arrival's ids are valid
abbrev pub has_ids : Arrival → Bool
has_ids a = is_some a.rec.span.ids

-- the lane has received these: those without ids are counted, the others wait to be routed
abbrev pub after_receive : World → (lane : ℕ) → CoreLane → List Arrival → World
after_receive w lane l new = record w {
  lanes = slice_set w.lanes lane (record l { received = l.received ++ new; unrouted = l.unrouted ++ filter has_ids new });
  counted = w.counted ++ counts InvalidId (filter (λ a. not (has_ids a)) new);
}

-- a lane that has not ended receives; a number is the place among all spans received on that connection
abbrev pub receive_on : World → (lane ordinal moment : ℕ) → List Record → CoreLane → Option World
receive_on w lane ordinal moment records l =
    let conn : ConnKey = record { lane = lane; ordinal = ordinal } in
    if l.ended then None else Some (after_receive w lane l (arrivals conn (count_by (is_of_conn conn) l.received) moment records))

-- the first that passes, and the others
abbrev pub take_first : (Arrival → Bool) → List Arrival → Option (Arrival × List Arrival)
take_first p [] = None
take_first p (a ∷ rest) = if p a then Some (a, rest) else option_map (λ r. (r.0, a ∷ r.1)) (take_first p rest)

-- the lane's first unrouted span for the shard, and its others
abbrev pub next_for : World → CoreLane → (shard : ℕ) → Option (Arrival × List Arrival)
next_for w l shard = take_first (goes_to (length w.shards) shard) l.unrouted

-- that span goes to the end of the shard's queue
abbrev pub after_route : World → (lane shard : ℕ) → CoreLane → CoreShard → Arrival × List Arrival → World
after_route w lane shard l sh next = record w {
  lanes = slice_set w.lanes lane (record l { unrouted = next.1 });
  shards = slice_set w.shards shard (record sh { queue = sh.queue ++ next.0 ∷ [] });
}

-- that span is counted
abbrev pub after_refuse : World → (lane : ℕ) → CoreLane → Arrival × List Arrival → World
after_refuse w lane l next = record w {
  lanes = slice_set w.lanes lane (record l { unrouted = next.1 });
  counted = w.counted ++ counts QueueFull (next.0 ∷ []);
}

-- ---- shards

-- the shard's journal and queue after it took an entry, with what that released and counted
abbrev pub after_taking : CoreConfig → World → (shard : ℕ) → CoreShard → Entry → (queue : List Arrival) → World
after_taking c w shard sh e queue =
    let did = effect_of_taking (settings c w) e sh.journal in
    record w {
      shards = slice_set w.shards shard (record { queue = queue; journal = e ∷ sh.journal; dealt = 0; unshipped = sh.unshipped ++ did.released });
      counted = w.counted ++ did.counted;
    }

-- the shard takes the first span of its queue, where nothing is due and the marks can apply
abbrev pub take_on : CoreConfig → World → (shard : ℕ) → (refused lost : Bool) → CoreShard → List Arrival → Option World
take_on c w shard refused lost sh [] = None
take_on c w shard refused lost sh (a ∷ rest) =
    if not (has_due (settings c w) sh) && marks_apply_to_ids (settings c w) sh.journal refused lost a.rec.span.ids
    then Some (after_taking c w shard sh (record { item = Span a; refused = refused; lost = lost; answers = [] }) rest) else None

-- the shard takes a tick, where nothing is due and the ticker's End was not taken
abbrev pub tick_on : CoreConfig → World → (shard moment : ℕ) → CoreShard → Option World
tick_on c w shard moment sh =
    if not (has_due (settings c w) sh) && not (has_ended sh.journal (ticker w))
    then Some (after_taking c w shard sh (record { item = Tick moment; refused = false; lost = false; answers = [] }) sh.queue) else None

-- a lane may send its End: it has ended, and none of its spans for the shard is unrouted or queued
abbrev pub lane_is_done : World → (shard : ℕ) → CoreShard → (lane : ℕ) → CoreLane → Bool
lane_is_done w shard sh lane l = l.ended && not (list_any (goes_to (length w.shards) shard) l.unrouted) && not (list_any (λ a. a.key.conn.lane == lane) sh.queue)

-- a sender that may send its End: a lane that is done, or the ticker
abbrev pub sender_is_done : World → (shard : ℕ) → CoreShard → (sender : ℕ) → Option CoreLane → Bool
sender_is_done w shard sh sender (Some l) = lane_is_done w shard sh sender l
sender_is_done w shard sh sender None = sender == ticker w

-- the shard takes a sender's End, where nothing is due, it was not taken before, and the sender may send it
abbrev pub end_on : CoreConfig → World → (shard sender : ℕ) → CoreShard → Option World
end_on c w shard sender sh =
    if not (has_due (settings c w) sh) && not (has_ended sh.journal sender) && sender_is_done w shard sh sender (slice_get w.lanes sender)
    then Some (after_taking c w shard sh (record { item = End sender; refused = false; lost = false; answers = [] }) sh.queue) else None

-- the world after a decision was dealt with by these answers
abbrev pub after_decision : World → (shard : ℕ) → CoreShard → (answers : List Bool) → Effect → World
after_decision w shard sh answers did = record w {
  shards = slice_set w.shards shard (record sh { journal = answered sh.journal answers; dealt = sh.dealt + 1; unshipped = sh.unshipped ++ did.released });
  counted = w.counted ++ did.counted;
}

-- the oldest due episode is decided by these answers: the first that was due at the last item and was not dealt with,
-- where there is one answer for each asking
abbrev pub decide_on : CoreConfig → World → (shard : ℕ) → (answers : List Bool) → CoreShard → Option World
decide_on c w shard answers sh = option_map (after_decision w shard sh answers) (effect_answered_at (settings c w) sh.journal sh.dealt answers)

-- the first of the unshipped goes to the end of the export list
abbrev pub ship_on : World → (shard : ℕ) → CoreShard → List Arrival → Option World
ship_on w shard sh [] = None
ship_on w shard sh (a ∷ rest) = Some (record w { shards = slice_set w.shards shard (record sh { unshipped = rest }); exported = w.exported ++ a ∷ [] })

-- ---- the exporter

-- the first of the export list goes to the batch, where that is not full
abbrev pub pull_from : CoreConfig → World → List Arrival → Option World
pull_from c w [] = None
pull_from c w (a ∷ rest) = if nat_lt (length w.batch) c.batch_size then Some (record w { exported = rest; batch = w.batch ++ a ∷ [] }) else None

-- a batch may be given up for want of memory, or because its destination refused it or is down
abbrev pub drop_batch_applies : CoreConfig → World → Reason → Bool
drop_batch_applies c w NoMemory = true
drop_batch_applies c w ExporterDown = may_give_up c w.down
drop_batch_applies c w _ = false

-- there is no span
abbrev pub is_empty : List Arrival → Bool
is_empty [] = true
is_empty (a ∷ rest) = false

-- ---- the table

-- the world that the step gives, where it is enabled
abbrev pub step : CoreConfig → World → Step → Option World
step c w (receive lane ordinal moment records) = option_and_then (receive_on w lane ordinal moment records) (slice_get w.lanes lane)
step c w (route lane shard) = option_and_then (λ l. option_and_then (λ sh. option_map (after_route w lane shard l sh) (next_for w l shard)) (slice_get w.shards shard)) (slice_get w.lanes lane)
step c w (refuse lane shard) = option_and_then (λ l. option_and_then (λ (sh : CoreShard). option_map (after_refuse w lane l) (next_for w l shard)) (slice_get w.shards shard)) (slice_get w.lanes lane)
step c w (take shard refused lost) = option_and_then (λ sh. take_on c w shard refused lost sh sh.queue) (slice_get w.shards shard)
step c w (tick shard moment) = option_and_then (tick_on c w shard moment) (slice_get w.shards shard)
step c w (close lane) = option_and_then (λ l. if l.ended then None else Some (with_lane w lane (record l { ended = true }))) (slice_get w.lanes lane)
step c w (end shard sender) = option_and_then (end_on c w shard sender) (slice_get w.shards shard)
step c w (decide shard answers) = option_and_then (decide_on c w shard answers) (slice_get w.shards shard)
step c w (ship shard) = option_and_then (λ sh. ship_on w shard sh sh.unshipped) (slice_get w.shards shard)
step c w pull = pull_from c w w.exported
step c w hand = if is_empty w.batch || w.down then None else Some (record w { handed = w.handed ++ w.batch ∷ []; batch = [] })
step c w fail = if w.down then None else Some (record w { down = true })
step c w (drop_batch reason) = if is_empty w.batch || not (drop_batch_applies c w reason) then None else Some (record w { counted = w.counted ++ counts reason w.batch; batch = [] })

-- the world after these steps, each enabled in its turn
abbrev pub run_from : CoreConfig → World → List Step → Option World
run_from c w [] = Some w
run_from c w (s ∷ rest) = option_and_then (λ next. run_from c next rest) (step c w s)

-- a run: the world after these steps from the new world with so many lanes and shards
abbrev pub run : CoreConfig → (lanes shards : ℕ) → List Step → Option World
run c lanes shards steps = run_from c (new_world lanes shards) steps
