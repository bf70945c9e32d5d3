-- What the program answers to a step, and to a list of steps.
use Rattle.std.specs.Prelude.{◌≡◌, ℕ, ◌+◌, ◌<◌, Bool, true, false, not, ◌&&◌, if◌then◌else◌, is_some, List, [], ◌∷◌, length, take, drop, slice_get, position, Option, Some, None, option_and_then, Result, Ok, Err}
use Rattle.journal_theory.specs.Journal.{Entry, Settings, has_ended}
use Rattle.journal_theory.specs.Fate.{Effect}
use Rattle.journal_theory.specs.Answered.{effect_answered_at}
use Rattle.journal_theory.specs.Marked.{marks_apply_to_ids}
use Rattle.otlp_types.specs.declared.arrival.Arrival.{Arrival}
use Rattle.otlp_types.specs.declared.arrival.Item.{Item}
use Rattle.otlp_types.specs.declared.arrival.Item.TheVariants.{Span, Tick as TickItem, End as EndItem}
use Rattle.world_theory.specs.World.{CoreConfig, CoreLane, CoreShard, World, has_due, goes_to}
use Rattle.world_theory.specs.Step.{Step, receive, route, refuse, take as take_step, tick, close, end, decide, ship, pull, hand, fail, drop_batch, step, run, after_taking}
use Rattle.span_world.specs.Core.{config_of, Core}
use Rattle.span_world.specs.declared.step.Step.{Step as Asked}
use Rattle.span_world.specs.declared.step.Step.TheVariants.{Receive, Route, Refuse, Take, Tick, Close, End, Decide, Ship, Pull, Hand, Fail, DropBatch}
use Rattle.span_world.specs.declared.step.StepRefusal.{StepRefusal}
use Rattle.span_world.specs.declared.step.StepRefusal.TheVariants.{NotEnabled, NoMemory}

-- the step that the program's step stands for
abbrev pub the_step : Asked → Step
the_step (Receive lane ordinal moment records) = receive lane ordinal moment records.items
the_step (Route lane shard) = route lane shard
the_step (Refuse lane shard) = refuse lane shard
the_step (Take shard refused lost) = take_step shard refused lost
the_step (Tick shard moment) = tick shard moment
the_step (Close lane) = close lane
the_step (End shard sender) = end shard sender
the_step (Decide shard answers) = decide shard answers.items
the_step (Ship shard) = ship shard
the_step Pull = pull
the_step Hand = hand
the_step Fail = fail
the_step (DropBatch reason) = drop_batch reason

-- what a step gives in a world, by its configuration
abbrev pub next_of : Core → Step → Option World
next_of before s = step (config_of before.config) before.world s

-- The step was made; or it isn't enabled, or it is and memory was refused, and nothing changed.
abbrev pub StepsTo : Core → Step → Result (Unit {0}) StepRefusal → Core → Type 0
StepsTo before s (Ok u) after = (after.config ≡ before.config) × (next_of before s ≡ Some after.world)
StepsTo before s (Err NotEnabled) after = (after ≡ before) × (next_of before s ≡ None)
StepsTo before s (Err NoMemory) after = (after ≡ before) × (is_some (next_of before s) ≡ true)

-- these steps run from the new world
abbrev pub Runs : CoreConfig → (lanes shards : ℕ) → List Step → Type 0
Runs c lanes shards steps = is_some (run c lanes shards steps) ≡ true

-- the steps before place `n` run, and the one at `n` isn't enabled then; or it runs too and memory was refused there,
-- at 0 also to the new world
abbrev pub StopsAt : CoreConfig → (lanes shards : ℕ) → List Step → ℕ → StepRefusal → Type 0
StopsAt c lanes shards steps n NotEnabled = (n < length steps) × Runs c lanes shards (take n steps) × (run c lanes shards (take (n + 1) steps) ≡ None)
StopsAt c lanes shards steps n NoMemory = (0 < n → (n < length steps) × Runs c lanes shards (take (n + 1) steps)) × Runs c lanes shards (take n steps)

-- ---- what a shard may take

-- nothing is due, and the sender's End was not taken
abbrev pub may_take : Settings → CoreShard → (sender : ℕ) → Bool
may_take s sh sender = not (has_due s sh) && not (has_ended sh.journal sender)

-- the entry of the first of these queued spans, where nothing is due and the marks can apply
abbrev pub entry_of_first : Settings → CoreShard → (refused lost : Bool) → List Arrival → Option Entry
entry_of_first s sh refused lost [] = None
entry_of_first s sh refused lost (a ∷ rest) = if not (has_due s sh) && marks_apply_to_ids s sh.journal refused lost a.rec.span.ids then Some (record { item = Span a; refused = refused; lost = lost; answers = [] }) else None

-- what the shard's next decision does by these answers, where something is due and there is one answer for each asking
abbrev pub next_decision : Settings → CoreShard → (answers : List Bool) → Option Effect
next_decision s sh answers = effect_answered_at s sh.journal sh.dealt answers

-- the item is a span
abbrev pub is_span : Item → Bool
is_span (Span a) = true
is_span (TickItem moment) = false
is_span (EndItem sender) = false

-- the shard's queue after it took an item: a span leaves it, the first that it is
abbrev pub queue_after : Item → (queue : List Arrival) → List Arrival
queue_after item queue = if is_span item then drop 1 queue else queue

-- the entry goes to the shard's journal, and its span leaves the queue; or memory was refused, and nothing changed
abbrev pub KeepsEntry : Core → (shard : ℕ) → Entry → Result (Unit {0}) StepRefusal → Core → Type 0
KeepsEntry before shard e (Ok u) after = (after.config ≡ before.config)
    × ((sh : CoreShard) → slice_get before.world.shards shard ≡ Some sh → after.world ≡ after_taking (config_of before.config) before.world shard sh e (queue_after e.item sh.queue))
KeepsEntry before shard e (Err r) after = (after ≡ before) × (r ≡ NoMemory)

-- the item goes to the shard's journal, unmarked; or memory was refused, and nothing changed
abbrev pub KeepsItem : Core → (shard : ℕ) → Item → Result (Unit {0}) StepRefusal → Core → Type 0
KeepsItem before shard item r after = KeepsEntry before shard (record { item = item; refused = false; lost = false; answers = [] }) r after

-- ---- what is routed

-- the place, among the lane's unrouted spans, of the first for the shard
abbrev pub next_place : World → (lane shard : ℕ) → Option ℕ
next_place w lane shard = option_and_then (λ (l : CoreLane). option_and_then (λ (sh : CoreShard). position (goes_to (length w.shards) shard) l.unrouted) (slice_get w.shards shard)) (slice_get w.lanes lane)
