-- What submitting a request does to the connections and the queues: words of private functions.
use Rattle.std.specs.Prelude.{◌≡◌, ◌⊎◌, ℕ, Bool, nat_eq, List, length, None}
use Rattle.std.specs.Map.{lookup}
use Rattle.lane_queue.specs.Queues.{QueueState, TakesLast, IsFull}
use Rattle.lane_seq.specs.Pushes.{Receives as IsPushed}
use Rattle.lane_seq.specs.declared.reply.Reply.{Reply}
use Rattle.lane_seq.specs.declared.reply.Reply.TheVariants.{Done, Partial, Busy}
use Rattle.span_ids.specs.declared.outcome.Reason.TheVariants.{InvalidId, QueueFull}
use Rattle.drop_ledger.specs.declared.count.Count.{Count}
use Rattle.drop_ledger.specs.declared.count.Count.TheVariants.{Received, Dropped}
use Rattle.otlp_types.specs.declared.request.Request.{Request}
use Rattle.otlp_types.specs.declared.arrival.Item.{Item}
use Rattle.script_run.specs.Connections.{Contacts, connection_of, with_connection, with_received}
use Rattle.script_run.specs.Requests.{reads, refuses, IsTakenFor, arrivals_of}

-- what a reply tells of the spans that were received, and of those among them that went to no shard
abbrev pub received_by : Reply → Count → ℕ
received_by (Done spans) Received = spans
received_by (Partial spans invalid full) Received = spans
received_by (Partial spans invalid full) (Dropped InvalidId) = invalid
received_by (Partial spans invalid full) (Dropped QueueFull) = full
received_by _ _ = 0

-- A request was refused, at a new connection for want of memory or by its body, or it was read: its spans were pushed
-- to the queues of their shards.
abbrev pub Submits : (keeps_doubles : Bool) → Contacts → (number moment : ℕ) → (body : List ℕ) → (before : List (QueueState Item)) → Reply → (after : List (QueueState Item)) → Contacts → Type 0
Submits keeps_doubles old number moment body before reply after new =
    ((lookup (nat_eq number) old.connections ≡ None) × (reply ≡ Busy) × (after ≡ before) × (new ≡ old))
    ⊎ ((IsTakenFor keeps_doubles body (refuses reply) × (after ≡ before) × (new ≡ with_connection number old))
    ⊎ ((request : Request) × IsTakenFor keeps_doubles body (reads request)
    × IsPushed TakesLast IsFull (arrivals_of (connection_of number old) moment request) before reply after
    × (new ≡ with_received number (length (arrivals_of (connection_of number old) moment request)) old)))
