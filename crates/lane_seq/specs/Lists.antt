-- Pushes to queues in one thread, as functions of the arrivals and of what the queues hold.
use Rattle.std.specs.Prelude.{◌≡◌, ℕ, ◌+◌, nat_lt, if◌then◌else◌, List, [], ◌∷◌, length, slice_get, slice_set, Option, Some, None}
use Rattle.span_ids.specs.Route.{shard_of}
use Rattle.otlp_types.specs.declared.span.Ids.{Ids}
use Rattle.otlp_types.specs.declared.arrival.Arrival.{Arrival}
use Rattle.otlp_types.specs.declared.arrival.Item.{Item}
use Rattle.otlp_types.specs.declared.arrival.Item.TheVariants.{Span}
use Rattle.lane_queue.specs.Queues.{QueueState, with_last, TakesLast, IsFull}
use Rattle.lane_seq.specs.Pushes.{PushesAll}

-- the queues after an item was pushed to this one of them; where it is full they are as before
abbrev pub with_offered : (shard : ℕ) → Item → Option (QueueState Item) → List (QueueState Item) → List (QueueState Item)
with_offered shard item None queues = queues
with_offered shard item (Some queue) queues = if nat_lt (length queue.items) queue.capacity then slice_set queues shard (with_last queue item) else queues

-- the queues after the span of an arrival was pushed, if its ids are valid
abbrev pub after_one : Option Ids → Item → List (QueueState Item) → List (QueueState Item)
after_one None item queues = queues
after_one (Some ids) item queues = with_offered (shard_of ids.trace (length queues)) item (slice_get queues (shard_of ids.trace (length queues))) queues

-- 1 where this queue is full
abbrev pub refused_by : Option (QueueState Item) → ℕ
refused_by None = 0
refused_by (Some queue) = if nat_lt (length queue.items) queue.capacity then 0 else 1

-- 1 where the queue of the span is full
abbrev pub refused_one : Option Ids → List (QueueState Item) → ℕ
refused_one None queues = 0
refused_one (Some ids) queues = refused_by (slice_get queues (shard_of ids.trace (length queues)))

-- the queues after the spans of these arrivals were pushed, one after the other
abbrev pub queues_after : List Arrival → List (QueueState Item) → List (QueueState Item)
queues_after [] queues = queues
queues_after (a ∷ rest) queues = queues_after rest (after_one a.rec.span.ids (Span a) queues)

-- how many of these pushes find their queue full
abbrev pub number_refused : List Arrival → List (QueueState Item) → ℕ
number_refused [] queues = 0
number_refused (a ∷ rest) queues = refused_one a.rec.span.ids queues + number_refused rest (after_one a.rec.span.ids (Span a) queues)

-- what pushes to queues in one thread do is determined: a span is refused exactly where its queue holds its capacity
abbrev pub ListPushesAreDetermined : Type 0
ListPushesAreDetermined = (arrivals : List Arrival) (old new : List (QueueState Item)) (refused : ℕ) → PushesAll TakesLast IsFull arrivals old refused new
    → (refused ≡ number_refused arrivals old) × (new ≡ queues_after arrivals old)
