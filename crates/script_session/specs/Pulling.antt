-- How the open batch takes spans: words of private functions.
use Rattle.std.specs.Prelude.{◌≡◌, ℕ, ◌+◌, ◌<◌, get_or, ◌++◌, Bool, true, false, List, [], ◌∷◌, map, length, replicate, is_some, not, if◌then◌else◌, Option}
use Rattle.std.specs.List.{AllByRecursion, list_all, sum_by}
use Rattle.span_ids.specs.declared.outcome.Reason.{Reason}
use Rattle.otlp_types.specs.declared.arrival.Arrival.{Arrival}
use Rattle.otlp_types.specs.declared.arrival.Item.{Item}
use Rattle.otlp_types.specs.declared.arrival.Item.TheVariants.{Span, Tick, End}
use Rattle.lane_queue.specs.Queues.{QueueState}
use Rattle.policy_tree.specs.Tree.{limiters}
use Rattle.policy_tree.specs.Meaning.{meaning}
use Rattle.policy_eval.specs.Meaning.{knows}
use Rattle.rate_budget.specs.Grant.{Asking}
use Rattle.rate_budget.specs.Budget.{limiter_counts, has_node}
use Rattle.rate_budget.specs.declared.count.LimiterCount.{LimiterCount}
use Rattle.journal_theory.specs.Journal.{Entry, Settings, Journal}
use Rattle.journal_theory.specs.Fate.{effect, effect_dealt, released_dealt, dropped_dealt}
use Rattle.shard_core.specs.Held.{Held, StandsFor, settings, has_due}
use Rattle.span_exporter.specs.Exports.{ExporterState}
use Rattle.script_run.specs.Sending.{SentBatch, spans_of, SendsAll}
use Rattle.script_run.specs.World.{ScriptWorld, ShardTurn, with_entry, TakesFor, TakesEach, TakesRounds}
use Rattle.script_run.specs.Counts.{dropped_by_journal, Reports}
use Rattle.script_run.specs.Connections.{Contacts}
use Rattle.script_session.specs.Adding.{Adds, at_reasons, counted_in}

-- the exporter, and the report of what became of each span
abbrev pub Export : Type 0
Export = ExporterState × Option (List ℕ)

-- what stays of the exporter, whatever it is given: the size of a batch, and that its sink is down
abbrev pub GoesOn : (old new : Export) → Type 0
GoesOn old new = (new.0.size ≡ old.0.size) × (old.0.sink.is_down ≡ true → new.0.sink.is_down ≡ true)

-- The spans went into the batch in turn, which was sent each time that it was full. These numbers of spans were
-- dropped, which is counted, and what became of the batches.
pub record PullsAll (old : Export) (spans : List Arrival) (dropped : Reason → ℕ) (new : Export) : Type 0 where
  pub batches : List SentBatch
  pub full : AllByRecursion (λ (sent : SentBatch). length sent.batch ≡ old.0.size) batches
  pub are_all : spans_of batches ++ new.0.batch ≡ old.0.batch ++ spans
  pub sends : SendsAll old.0.sink batches new.0.sink
  pub adds : Adds old.1 (λ count. at_reasons dropped count + counted_in batches count) new.1
  pub size : new.0.size ≡ old.0.size
  pub ends : new.0.ends ≡ old.0.ends

-- the shard stands for the journal, and has released and counted all that was due
pub record HasReleasedAll (held : Held) (past : Journal) : Type 0 where
  pub dealt : ℕ
  pub stands : StandsFor held past dealt
  pub all_dealt : effect_dealt (settings held) past dealt ≡ effect (settings held) past

-- the limiter: its counts
abbrev pub Counts : Type 0
Counts = List LimiterCount

-- the limiter has the limiter nodes of the shard's policies
abbrev pub has_nodes_of : Counts → Held → Bool
has_nodes_of limiter h = knows (has_node limiter) (limiters (meaning h.policies))

-- the shard took these items and asked the limiter; what that released went into the batch, and what it dropped was
-- counted
pub record TakesAndPulls (s : Settings) (past : ShardTurn) (items : List Item) (old : Export) (after : ShardTurn) (new : Export) : Type 0 where
  pub released : List Arrival
  pub dropped : Reason → ℕ
  pub takes : TakesFor s past items after released
  pub drops : (reason : Reason) → dropped_by_journal s reason after.journal ≡ dropped_by_journal s reason past.journal + dropped reason
  pub pulls : PullsAll old released dropped new

-- the shard has released and counted all that was due at the journal, and the limiter has just these askings
pub record HasTaken (held : Held) (limiter : Counts) (turn : ShardTurn) : Type 0 where
  pub released_all : HasReleasedAll held turn.journal
  pub limiter_is : limiter ≡ limiter_counts (settings held).policies turn.askings

-- a shard that has released all took these items and decided all that was due by the limiter; what that released went
-- into the batch, and it has released all again
pub record TakesItems (old : Held) (first : Counts) (before : Export) (items : List Item) (new : Held) (last : Counts) (after : Export) : Type 0 where
  pub takes : (past : ShardTurn) → HasTaken old first past
      → (now : ShardTurn) × HasTaken new last now × TakesAndPulls (settings old) past items before now after

-- all that was due at the entry was decided by the limiter; what that released went into the batch, and what it dropped
-- was counted
pub record DecidesAll (s : Settings) (e : Entry) (past : ShardTurn) (before : Export) (new : Held) (last : Counts) (after : Export) : Type 0 where
  pub dealt : ℕ
  pub stands : StandsFor new (with_entry s past e).journal dealt
  pub all_dealt : effect_dealt s (with_entry s past e).journal dealt ≡ effect s (with_entry s past e).journal
  pub limiter_is : last ≡ limiter_counts s.policies (with_entry s past e).askings
  pub released : List Arrival
  pub dropped : Reason → ℕ
  pub releases : released_dealt s (with_entry s past e).journal dealt ≡ released_dealt s (e ∷ past.journal) 0 ++ released
  pub drops : (reason : Reason) → dropped_dealt s (with_entry s past e).journal dealt reason ≡ dropped_dealt s (e ∷ past.journal) 0 reason + dropped reason
  pub pulls : PullsAll before released dropped after

-- ---- several shards

-- each shard has these settings
abbrev pub HaveSettings : Settings → List Held → Type 0
HaveSettings s shards = AllByRecursion (λ h. settings h ≡ s) shards

-- these of the shard's senders have ended, and nothing is due
abbrev pub IsQuiet : List Bool → Held → Type 0
IsQuiet ends h = (h.standing.ends ≡ ends) × (has_due h ≡ false)

-- each shard is quiet
abbrev pub AreQuiet : List Bool → List Held → Type 0
AreQuiet ends shards = AllByRecursion (IsQuiet ends) shards

-- each shard is quiet, and some sender has not ended
abbrev pub AreOpen : List Held → Type 0
AreOpen shards = (ends : List Bool) × AreQuiet ends shards × (list_all (λ b. b) ends ≡ false)

-- the limiter has the limiter nodes of each shard's policies
abbrev pub has_all_nodes : Counts → List Held → Bool
has_all_nodes limiter shards = list_all (has_nodes_of limiter) shards

-- nothing is due in any shard
abbrev pub has_none_due : List Held → Bool
has_none_due shards = list_all (λ h. not (has_due h)) shards

-- which senders of each shard have ended
abbrev pub ends_in : List Held → List (List Bool)
ends_in shards = map (λ h. h.standing.ends) shards

-- of the senders, the lanes and the ticker, all have ended or none
abbrev pub ends_of : (lanes : ℕ) → (closed : Bool) → List Bool
ends_of lanes closed = replicate (lanes + 1) closed

-- each shard has released all that its journal releases
abbrev pub HaveReleased : List Held → List Journal → Type 0
HaveReleased [] [] = Unit {0}
HaveReleased (h ∷ hs) (past ∷ pasts) = HasReleasedAll h past × HaveReleased hs pasts
HaveReleased _ _ = ⊥

-- how many spans shards have counted under a reason, when they took these journals
abbrev pub dropped_by_all : Settings → Reason → List Journal → ℕ
dropped_by_all s reason pasts = sum_by (dropped_by_journal s reason) pasts

-- shards with these journals have taken what `Takes` says of the journals now, the limiter's askings now and the spans
-- released; these went into the batch, and what was dropped was counted
pub record Taking (Takes : List Journal → List Asking → List Arrival → Type 0) (s : Settings) (pasts : List Journal) (before : Export) (new : List Held) (last : Counts) (after : Export) : Type 0 where
  pub nows : List Journal
  pub asked_now : List Asking
  pub released : List Arrival
  pub dropped : Reason → ℕ
  pub have_released : HaveReleased new nows
  pub limiter_is : last ≡ limiter_counts s.policies asked_now
  pub takes : Takes nows asked_now released
  pub drops : (reason : Reason) → dropped_by_all s reason nows ≡ dropped_by_all s reason pasts + dropped reason
  pub pulls : PullsAll before released dropped after

-- each shard in its turn took its items, and the limiter was lent to each in turn; what that released went into the
-- batch, and what it dropped was counted
pub record EachTakes (old : List Held) (first : Counts) (before : Export) (items : List (List Item)) (new : List Held) (last : Counts) (after : Export) : Type 0 where
  pub takes : (s : Settings) (pasts : List Journal) (asked : List Asking) → HaveSettings s old → HaveReleased old pasts → first ≡ limiter_counts s.policies asked
      → Taking (TakesEach s pasts asked items) s pasts before new last after

-- the shards before this place are as they were
abbrev pub StayBefore : (place : ℕ) → (old new : List Held) → Type 0
StayBefore place old new = (k : ℕ) (h : Held) → k < place → get_or new k h ≡ get_or old k h

-- the same in several rounds
pub record RoundsTaken (old : List Held) (first : Counts) (before : Export) (rounds : List (List (List Item))) (new : List Held) (last : Counts) (after : Export) : Type 0 where
  pub takes : (s : Settings) (pasts : List Journal) (asked : List Asking) → HaveSettings s old → HaveReleased old pasts → first ≡ limiter_counts s.policies asked
      → Taking (TakesRounds s pasts asked rounds) s pasts before new last after

-- a span with valid ids
abbrev pub is_queued : Item → Bool
is_queued (Span a) = is_some a.rec.span.ids
is_queued (Tick m) = false
is_queued (End sender) = false

-- a queue without its items
abbrev pub emptied : QueueState Item → QueueState Item
emptied queue = record queue { items = [] }

-- the items of each queue
abbrev pub items_in : List (QueueState Item) → List (List Item)
items_in queues = map (λ queue. queue.items) queues

-- one round, in which each shard takes what its queue holds, where spans were received
abbrev pub rounds_of : (received : Bool) → List (QueueState Item) → List (List (List Item))
rounds_of received queues = if received then items_in queues ∷ [] else []

-- a queue holds spans with valid ids alone
abbrev pub HoldsQueued : QueueState Item → Type 0
HoldsQueued queue = list_all is_queued queue.items ≡ true

-- the connections, the shards, the limiter, the exporter with the report, and whether all is closed are those of a
-- world, and the shards have these settings
pub record AreOf (s : Settings) (w : ScriptWorld) (contacts : Contacts) (shards : List Held) (limiter : Counts) (output : Export) (closed : Bool) : Type 0 where
  pub contacts_are : contacts ≡ w.contacts
  pub settings_are : HaveSettings s shards
  pub released_all : HaveReleased shards w.journals
  pub limiter_is : limiter ≡ limiter_counts s.policies w.askings
  pub sink_is : output.0.sink ≡ w.sink
  pub reports : Reports s w output.1
  pub closed_is : closed ≡ w.closed
