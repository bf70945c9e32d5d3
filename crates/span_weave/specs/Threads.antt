-- What running threads did, as plain lists, and what they promise of it.
use Rattle.std.specs.Prelude.{◌≡◌, ℕ, ◌+◌, ◌<◌, ◌≤◌, Bool, true, false, not, ◌||◌, if◌then◌else◌, nat_lt, List, [], ◌∷◌, ◌++◌, length, map, filter, reverse, count_by, Option, Some, None, option_and_then}
use Rattle.std.specs.List.{AllByRecursion}
use Rattle.otlp_types.specs.declared.arrival.Arrival.{Arrival}
use Rattle.otlp_types.specs.declared.arrival.Item.{Item}
use Rattle.otlp_types.specs.declared.arrival.Item.TheVariants.{Span, Tick, End}
use Rattle.span_ids.specs.declared.outcome.Reason.{Reason}
use Rattle.span_ids.specs.declared.outcome.Reason.TheVariants.{NoMemory, ExporterDown}
use Rattle.journal_theory.specs.Journal.{Entry, Journal, IsAnswered}
use Rattle.journal_theory.specs.Fate.{DroppedSpan, counts, output}
use Rattle.journal_theory.specs.Marked.{MarksApply}
use Rattle.lane_queue.specs.Merges.{of}
use Rattle.world_theory.specs.World.{may_give_up, CoreConfig, goes_to, settings_for}
use Rattle.world_theory.specs.Step.{is_of_conn, is_empty}

-- ---- what each thread did

-- a lane's try to push a span to a shard's queue, which took it, or was full
pub data Try : Type 0 where
  pushed : Arrival → Try
  full : Arrival → Try

-- the span that was tried
abbrev pub span_of : Try → Arrival
span_of (pushed a) = a
span_of (full a) = a

-- whether the queue took it
abbrev pub was_pushed : Try → Bool
was_pushed (pushed a) = true
was_pushed (full a) = false

-- the spans that the queue took, in order
abbrev pub pushed_in : List Try → List Arrival
pushed_in [] = []
pushed_in (pushed a ∷ tries) = a ∷ pushed_in tries
pushed_in (full a ∷ tries) = pushed_in tries

-- the spans that found it full, in order
abbrev pub refused_in : List Try → List Arrival
refused_in [] = []
refused_in (pushed a ∷ tries) = refused_in tries
refused_in (full a ∷ tries) = a ∷ refused_in tries

-- what the exporter did
pub data ExporterAct : Type 0 where
  -- this shard's span went to the open batch
  pulled : (shard : ℕ) → Arrival → ExporterAct
  -- the open batch was handed over
  handed_over : ExporterAct
  -- the destination went down
  failed : ExporterAct
  -- the open batch was given up
  batch_dropped : Reason → ExporterAct

-- what the exporter pulled, each span with its shard
abbrev pub pulls : List ExporterAct → List (ℕ × Arrival)
pulls [] = []
pulls (pulled shard a ∷ acts) = (shard, a) ∷ pulls acts
pulls (handed_over ∷ acts) = pulls acts
pulls (failed ∷ acts) = pulls acts
pulls (batch_dropped reason ∷ acts) = pulls acts

-- All that the threads did.
pub record Threads : Type 0 where
  -- what a lane received on all its connections, in the order in which it received it
  pub received : (lane : ℕ) → List Arrival
  -- a lane's tries to push spans to a shard's queue, in order
  pub tries : (lane shard : ℕ) → List Try
  -- the moments of the ticks that the ticker sent to a shard, in order
  pub ticks : (shard : ℕ) → List ℕ
  -- what a shard popped, the oldest first: each item with the number of its sender, with the marks of its taking, and
  -- with the limiter's answers to the decisions at it
  pub popped : (shard : ℕ) → List (ℕ × Entry)
  -- what the exporter did, in order
  pub acts : List ExporterAct

-- the items that a shard popped of one sender, in order
abbrev pub items_of : (sender : ℕ) → List (ℕ × Entry) → List Item
items_of sender popped = map (λ (e : Entry). e.item) (of sender popped)

-- a shard's journal: what it popped, the newest first
abbrev pub journal_of : Threads → (shard : ℕ) → Journal
journal_of t shard = reverse (map (λ (x : ℕ × Entry). x.1) (t.popped shard))

-- ---- the exporter by itself

-- what the exporter's acts made: the open batch, the batches that were handed over, what was counted, and whether the
-- destination is down
pub record ExporterMade : Type 0 where
  pub batch : List Arrival
  pub handed : List (List Arrival)
  pub counted : List DroppedSpan
  pub down : Bool

-- before the first act
abbrev pub new_export : ExporterMade
new_export = record { batch = []; handed = []; counted = []; down = false }

-- a batch may be given up for want of memory, or because the destination refused it or is down
abbrev pub may_drop_batch : CoreConfig → (down : Bool) → Reason → Bool
may_drop_batch c down NoMemory = true
may_drop_batch c down ExporterDown = may_give_up c down
may_drop_batch c down _ = false

-- after one act: a full batch takes no span, an empty one is neither handed over nor given up, and nothing is handed
-- over where the destination is down
abbrev pub after_act : CoreConfig → ExporterMade → ExporterAct → Option ExporterMade
after_act c x (pulled shard a) = if nat_lt (length x.batch) c.batch_size then Some (record x { batch = x.batch ++ a ∷ [] }) else None
after_act c x handed_over = if is_empty x.batch || x.down then None else Some (record x { handed = x.handed ++ x.batch ∷ []; batch = [] })
after_act c x failed = if x.down then None else Some (record x { down = true })
after_act c x (batch_dropped reason) = if is_empty x.batch || not (may_drop_batch c x.down reason) then None else Some (record x { counted = x.counted ++ counts reason x.batch; batch = [] })

-- after these acts
abbrev pub after_acts : CoreConfig → ExporterMade → List ExporterAct → Option ExporterMade
after_acts c x [] = Some x
after_acts c x (act ∷ rest) = option_and_then (λ next. after_acts c next rest) (after_act c x act)

-- ---- what the threads promise

-- each span's key names the lane, and its number is how many spans its connection received before it
abbrev pub AreNumbered : (lane : ℕ) → List Arrival → Type 0
AreNumbered lane received = (before later : List Arrival) (a : Arrival) → received ≡ before ++ a ∷ later
    → (a.key.conn.lane ≡ lane) × (a.key.number ≡ count_by (is_of_conn a.key.conn) before)

-- What the threads promise, where the exporter's acts made `end`. A shard's senders are the lanes by their numbers and
-- then the ticker, whose number is how many lanes there are.
pub record Meets (c : CoreConfig) (lanes shards : ℕ) (t : Threads) (end : ExporterMade) : Type 0 where
  -- each lane numbers what it receives by its connections
  pub numbered : (lane : ℕ) → lane < lanes → AreNumbered lane (t.received lane)
  -- a lane tries each span that it received for a shard once, in order
  pub tried : (lane shard : ℕ) → lane < lanes → shard < shards → map span_of (t.tries lane shard) ≡ filter (goes_to shards shard) (t.received lane)
  -- a shard popped of a lane what that lane's tries put in, in order, and then its End
  pub of_lane : (lane shard : ℕ) → lane < lanes → shard < shards → items_of lane (t.popped shard) ≡ map (λ a. Span a) (pushed_in (t.tries lane shard)) ++ End lane ∷ []
  -- a shard popped of the ticker what that sent, in order, and then its End
  pub of_ticker : (shard : ℕ) → shard < shards → items_of lanes (t.popped shard) ≡ map (λ m. Tick m) (t.ticks shard) ++ End lanes ∷ []
  -- a shard popped of no other sender
  pub of_senders : (shard : ℕ) → shard < shards → AllByRecursion (λ (x : ℕ × Entry). x.0 ≤ lanes) (t.popped shard)
  -- memory was refused only where taking an item takes memory
  pub marked : (shard : ℕ) → shard < shards → MarksApply (settings_for c (lanes + 1)) (journal_of t shard)
  -- each decision that was due was given the limiter's answers, one for each asking
  pub answered : (shard : ℕ) → shard < shards → IsAnswered (settings_for c (lanes + 1)) (journal_of t shard)
  -- the exporter pulled of a shard the output of that shard's journal, in order
  pub shipped : (shard : ℕ) → shard < shards → of shard (pulls t.acts) ≡ output (settings_for c (lanes + 1)) (journal_of t shard)
  -- the exporter pulled of no other shard
  pub of_shards : AllByRecursion (λ (x : ℕ × Arrival). x.0 < shards) (pulls t.acts)
  -- its acts made this
  pub exports : after_acts c new_export t.acts ≡ Some end
  -- in the end its open batch is empty
  pub flushed : end.batch ≡ []
