-- What a script run does.
use Rattle.std.specs.Prelude.{◌≡◌, ℕ, zero, suc, ◌+◌, ◌++◌, ◌⊎◌, Bool, true, false, nat_eq, None, List, [], ◌∷◌, map, length, replicate}
use Rattle.std.specs.Map.{lookup}
use Rattle.otlp_types.specs.declared.arrival.Arrival.{Arrival}
use Rattle.otlp_types.specs.declared.arrival.Item.{Item}
use Rattle.otlp_types.specs.declared.arrival.Item.TheVariants.{Tick, End}
use Rattle.lane_queue.specs.Queues.{QueueState, TakesLast, IsFull}
use Rattle.lane_seq.specs.Pushes.{Receives as IsPushed}
use Rattle.lane_seq.specs.declared.reply.Reply.{Reply}
use Rattle.lane_seq.specs.declared.reply.Reply.TheVariants.{Busy}
use Rattle.rate_budget.specs.Grant.{Asking}
use Rattle.journal_theory.specs.Journal.{Settings, Journal, Entry}
use Rattle.journal_theory.specs.Fate.{output}
use Rattle.journal_theory.specs.Marked.{marks_apply}
use Rattle.span_sink.specs.LineSinks.{LineSinkState}
use Rattle.span_exporter.specs.Exports.{WritesLine}
use Rattle.tsc_script.specs.Instructions.{Instruction, receive, tick, close}
use Rattle.script_run.specs.Limiting.{with_answers, askings_after}
use Rattle.script_run.specs.Connections.{Contacts, connection_of, with_connection, with_received}
use Rattle.script_run.specs.Requests.{BodyReading, reads, refuses, IsTakenFor, arrivals_of, reply_line}
use Rattle.script_run.specs.Sending.{SentBatch, SendsInBatches}

-- what was written: a reply, or a batch, which was handed over or given up
pub data OutputEvent : Type 0 where
  replied : Reply → OutputEvent
  was_sent : SentBatch → OutputEvent

-- Between two lines of a script: the connections, the spans that were received and how many of them found their queue
-- full, what each shard has taken, what the limiter was asked, the latest asking first, what was written in turn, what
-- that left of the sink, and whether the script was closed. All that was due is decided, and all that was released was
-- sent.
pub record ScriptWorld : Type 0 where
  pub contacts : Contacts
  pub received : List Arrival
  pub full : ℕ
  pub journals : List Journal
  pub askings : List Asking
  pub events : List OutputEvent
  pub sink : LineSinkState
  pub closed : Bool

-- before the first line, with so many lanes and shards
abbrev pub new_world : (lanes shards : ℕ) → LineSinkState → ScriptWorld
new_world lanes shards sink = record {
  contacts = record { connections = []; connected = replicate lanes 0 };
  received = [];
  full = 0;
  journals = replicate shards [];
  askings = [];
  events = [];
  sink = sink;
  closed = false;
}

-- how many spans a batch holds, and a queue to a shard; and whether doubles are kept
pub record Sizes : Type 0 where
  pub batch : ℕ
  pub queue : ℕ
  pub keeps_doubles : Bool

-- an item as it is taken: whether memory was refused to it, or to the decision that its opening put out of the buffer;
-- no decision at it is answered yet
abbrev pub entry_of : Item → (refused lost : Bool) → Entry
entry_of item refused lost = record { item = item; refused = refused; lost = lost; answers = [] }

-- What a shard has taken, and what the limiter was asked by all shards, the latest asking first.
pub record ShardTurn : Type 0 where
  pub journal : Journal
  pub askings : List Asking

-- the shard has taken this item too, and decided all that is due at it by the limiter's answers
abbrev pub with_entry : Settings → ShardTurn → Entry → ShardTurn
with_entry s old e = record { journal = with_answers s old.journal old.askings e ∷ old.journal; askings = askings_after s old.journal old.askings e }

-- the shard takes these items in turn; memory may be refused where taking one takes memory
abbrev pub Takes : Settings → ShardTurn → List Item → ShardTurn → Type 0
Takes s before [] after = after ≡ before
Takes s before (item ∷ more) after = (refused lost : Bool) × (marks_apply s (entry_of item refused lost) before.journal ≡ true)
    × Takes s (with_entry s before (entry_of item refused lost)) more after

-- the shard takes these items and decides all that is due, which releases these spans
abbrev pub TakesFor : Settings → ShardTurn → List Item → ShardTurn → (released : List Arrival) → Type 0
TakesFor s before items after released = Takes s before items after × (output s after.journal ≡ output s before.journal ++ released)

-- each shard in its turn takes its items, and the limiter is lent to each in turn; what the first one releases comes
-- first
abbrev pub TakesEach : Settings → (before : List Journal) → (asked : List Asking) → (items : List (List Item)) → (after : List Journal) → (asked_now : List Asking) → (released : List Arrival) → Type 0
TakesEach s [] asked [] [] asked_now released = (released ≡ []) × (asked_now ≡ asked)
TakesEach s (j ∷ js) asked (own ∷ others) (k ∷ ks) asked_now released = (first : List Arrival) × (rest : List Arrival) × (between : List Asking)
    × TakesFor s (record { journal = j; askings = asked }) own (record { journal = k; askings = between }) first × TakesEach s js between others ks asked_now rest × (released ≡ first ++ rest)
TakesEach s _ _ _ _ _ released = ⊥

-- several rounds, one after the other: in each, each shard takes its items
abbrev pub TakesRounds : Settings → (before : List Journal) → (asked : List Asking) → (rounds : List (List (List Item))) → (after : List Journal) → (asked_now : List Asking) → (released : List Arrival) → Type 0
TakesRounds s before asked [] after asked_now released = (after ≡ before) × (asked_now ≡ asked) × (released ≡ [])
TakesRounds s before asked (items ∷ more) after asked_now released = (between : List Journal) × (asked_between : List Asking) × (first : List Arrival) × (rest : List Arrival)
    × TakesEach s before asked items between asked_between first × TakesRounds s between asked_between more after asked_now rest × (released ≡ first ++ rest)

-- The shards take these items in rounds and decide all that is due. What that releases is sent in batches.
pub record RunsToQuiet (s : Settings) (sizes : Sizes) (old : ScriptWorld) (rounds : List (List (List Item))) (new : ScriptWorld) : Type 0 where
  pub released : List Arrival
  pub takes : TakesRounds s old.journals old.askings rounds new.journals new.askings released
  pub batches : List SentBatch
  pub sends : SendsInBatches sizes.batch old.sink released batches new.sink
  pub becomes : new ≡ record old { journals = new.journals; askings = new.askings; events = old.events ++ map was_sent batches; sink = new.sink }

-- the world after a reply, which left this of the sink
abbrev pub after_reply : Reply → LineSinkState → ScriptWorld → ScriptWorld
after_reply reply sink old = record old { events = old.events ++ replied reply ∷ []; sink = sink }

-- the reply is written, and then the shards take these items
abbrev pub RepliesAndRuns : Settings → Sizes → ScriptWorld → Reply → (rounds : List (List (List Item))) → ScriptWorld → Type 0
RepliesAndRuns s sizes old reply rounds new = (sink : LineSinkState) × WritesLine old.sink (reply_line reply) sink
    × RunsToQuiet s sizes (after_reply reply sink old) rounds new

-- a queue without an item for each of so many shards
abbrev pub empty_queues : (capacity shards : ℕ) → List (QueueState Item)
empty_queues capacity shards = replicate shards (record { items = []; capacity = capacity })

-- the world where the connection with this number has received these spans, of which so many found their queue full
abbrev pub after_receiving : (number : ℕ) → List Arrival → (full : ℕ) → ScriptWorld → ScriptWorld
after_receiving number arrivals full old = record old {
  contacts = with_received number (length arrivals) old.contacts;
  received = old.received ++ arrivals;
  full = old.full + full;
}

-- A request that was refused gives no span. One that was read gives its spans to the connection; those with valid ids
-- are pushed to the empty queues of their shards, as far as these have room.
abbrev pub Answers : Settings → Sizes → ScriptWorld → (number moment : ℕ) → BodyReading → ScriptWorld → Type 0
Answers s sizes old number moment (refuses reply) new =
    RepliesAndRuns s sizes (record old { contacts = with_connection number old.contacts }) reply [] new
Answers s sizes old number moment (reads request) new =
    let arrivals = arrivals_of (connection_of number old.contacts) moment request in
    (reply : Reply) × (queues : List (QueueState Item))
    × (pushed : IsPushed TakesLast IsFull arrivals (empty_queues sizes.queue (length old.journals)) reply queues)
    × RepliesAndRuns s sizes (after_receiving number arrivals pushed.refused old) reply (map (λ q. q.items) queues ∷ []) new

-- A request comes on the connection with this number. Where a new connection was refused the reply is busy, and there
-- is no such connection.
abbrev pub Receives : Settings → Sizes → ScriptWorld → (number moment : ℕ) → (body : List ℕ) → ScriptWorld → Type 0
Receives s sizes old number moment body new =
    ((lookup (nat_eq number) old.contacts.connections ≡ None) × RepliesAndRuns s sizes old Busy [] new)
    ⊎ ((reading : BodyReading) × IsTakenFor sizes.keeps_doubles body reading × Answers s sizes old number moment reading new)

-- this item for each of these
abbrev pub to_each : {A : Type 0} → Item → List A → List (List Item)
to_each item each = map (λ one. item ∷ []) each

-- the Ends of so many senders beginning with this one, in turn, each for each of these
abbrev pub ends_from : {A : Type 0} → (sender senders : ℕ) → List A → List (List (List Item))
ends_from sender zero each = []
ends_from sender (suc more) each = to_each (End sender) each ∷ ends_from (sender + 1) more each

-- what an instruction does, where the script was not closed; behind a failed write only a close is played; at a close
-- the lanes end, and then the ticker
abbrev pub Plays : Settings → Sizes → ScriptWorld → Instruction → ScriptWorld → Type 0
Plays s sizes old (receive number moment body) new = (old.closed ≡ false) × (old.sink.is_down ≡ false) × Receives s sizes old number moment body new
Plays s sizes old (tick moment) new = (old.closed ≡ false) × (old.sink.is_down ≡ false) × RunsToQuiet s sizes old (to_each (Tick moment) old.journals ∷ []) new
Plays s sizes old close new = (old.closed ≡ false) × RunsToQuiet s sizes (record old { closed = true }) (ends_from 0 (length old.contacts.connected + 1) old.journals) new

-- what several instructions do in turn
abbrev pub PlaysAll : Settings → Sizes → ScriptWorld → List Instruction → ScriptWorld → Type 0
PlaysAll s sizes old [] new = new ≡ old
PlaysAll s sizes old (instruction ∷ more) new = (mid : ScriptWorld) × Plays s sizes old instruction mid × PlaysAll s sizes mid more new
