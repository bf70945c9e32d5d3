-- What a shard's thread did.
use Rattle.std.specs.Prelude.{◌≡◌, ◌≢◌, ◌⊎◌, ℕ, ◌<◌, ◌≤◌, Bool, true, false, List, [], ◌∷◌, ◌++◌, map, filter, reverse, length}
use Rattle.std.specs.List.{AllByRecursion}
use Rattle.otlp_types.specs.declared.arrival.Item.{Item}
use Rattle.otlp_types.specs.declared.arrival.Item.TheVariants.{Tick}
use Rattle.released_spans.specs.declared.shipment.Shipment.{Shipment}
use Rattle.released_spans.specs.declared.shipment.Shipment.TheVariants.{End}
use Rattle.released_spans.specs.Shipping.{AreShipped}
use Rattle.drop_ledger.specs.declared.count.Count.{Count}
use Rattle.drop_ledger.specs.declared.count.Count.TheVariants.{Received, Handed, Dropped}
use Rattle.drop_ledger.specs.Places.{TallyState, Tallies}
use Rattle.lane_queue.specs.declared.calls.Call.{Call}
use Rattle.lane_queue.specs.declared.calls.Call.TheVariants.{Popped}
use Rattle.lane_queue.specs.Calls.{pops_of, is_empty_after}
use Rattle.lane_queue.specs.Ends.{EndState, ReceiverState}
use Rattle.lane_queue.specs.Merges.{IsMergeOf, of}
use Rattle.lane_queue.specs.Moments.{WasEmpty}
use Rattle.journal_theory.specs.Journal.{Entry, Settings, Journal, have_ended, IsAnswered, has_ids}
use Rattle.journal_theory.specs.Fate.{effect, output, under}
use Rattle.shard_core.specs.Held.{Held, StandsFor}
use Rattle.journal_theory.specs.Marked.{MarksApply}
use Rattle.shard_worker.specs.Asking.{AskedBy}
use Rattle.shard_worker.specs.Shipped.{shipped_in}

-- the popped items without their marks, each with the number of its sender
abbrev pub items : List (ℕ × Entry) → List (ℕ × Item)
items popped = map (λ (x : ℕ × Entry). (x.0, x.1.item)) popped

-- whether each popped span has valid ids, as those that lanes push do
abbrev pub HaveIds : List (ℕ × Entry) → Type 0
HaveIds popped = AllByRecursion (λ (x : ℕ × Entry). has_ids x.1.item ≡ true) popped

-- the entries whose item a shard takes: a span without valid ids belongs to no shard
abbrev pub with_ids : List (ℕ × Entry) → List (ℕ × Entry)
with_ids popped = filter (λ (x : ℕ × Entry). has_ids x.1.item) popped

-- the journal of what was popped (the oldest first), each item with its marks: the newest first
abbrev pub journal_of : List (ℕ × Entry) → Journal
journal_of popped = reverse (map (λ (x : ℕ × Entry). x.1) (with_ids popped))

-- how many spans a journal counts under each count
abbrev pub counted_in : Settings → Journal → Count → ℕ
counted_in s past Received = 0
counted_in s past Handed = 0
counted_in s past (Dropped reason) = length (under reason (effect s past).counted)

-- ---- in which order it takes what it pops: a tick behind what waited in its other queues

abbrev pub is_tick : Item → Bool
is_tick (Tick moment) = true
is_tick _ = false

-- what a shard took of what it popped in one round: an item that is no tick; or a tick behind what it popped from other
-- queues since it had popped the tick; or so, and behind the tick the item with which every sender has ended. Its calls
-- since it had popped the tick popped these queues, or found them empty
pub data Round : Type 0 where
  alone : ℕ × Entry → Round
  behind : (drained : List (ℕ × Entry)) → (tick : ℕ × Entry) → (calls : List Call) → Round
  ending : (drained : List (ℕ × Entry)) → (tick last : ℕ × Entry) → (calls : List Call) → Round

-- what was taken in a round, in order
abbrev pub taken_in : Round → List (ℕ × Entry)
taken_in (alone x) = x ∷ []
taken_in (behind drained tick calls) = drained ++ tick ∷ []
taken_in (ending drained tick last calls) = drained ++ tick ∷ last ∷ []

-- the calls of a round, in order: a tick is popped first, and taken last
abbrev pub calls_in : Round → List Call
calls_in (alone x) = Popped x.0 ∷ []
calls_in (behind drained tick calls) = Popped tick.0 ∷ calls
calls_in (ending drained tick last calls) = Popped tick.0 ∷ calls

-- what was taken in these rounds, of which the newest stands first
abbrev pub taken_by : List Round → List (ℕ × Entry)
taken_by [] = []
taken_by (round ∷ earlier) = taken_by earlier ++ taken_in round

-- and the calls of these rounds
abbrev pub calls_by : List Round → List Call
calls_by [] = []
calls_by (round ∷ earlier) = calls_by earlier ++ calls_in round

-- of which queues these were popped, in order
abbrev pub places : List (ℕ × Entry) → List ℕ
places popped = map (λ (x : ℕ × Entry). x.0) popped

-- since a tick was popped, before which these earlier items had been taken, the newest of these calls at this place
-- found its queue empty, with just what was popped from it until then; or as many items were popped from it as it may
-- hold
abbrev pub IsBehind : (capacity : ℕ) → (earlier drained : List (ℕ × Entry)) → (calls : List Call) → (place : ℕ) → Type 0
IsBehind capacity earlier drained calls place =
    ((is_empty_after place false calls ≡ true) × WasEmpty capacity (of place (items (earlier ++ drained)))) ⊎ (capacity ≤ length (of place (items drained)))

-- the calls popped the queues of these items in turn, and none of them is of the tick's own queue
abbrev pub AreSince : (tick : ℕ × Entry) → (popped : List (ℕ × Entry)) → (calls : List Call) → Type 0
AreSince tick popped calls = (of tick.0 (items popped) ≡ []) × (pops_of calls ≡ places popped)

-- what holds of a round behind these earlier items
abbrev pub IsRound : (capacity queues senders : ℕ) → (earlier : List (ℕ × Entry)) → Round → Type 0
IsRound capacity queues senders earlier (alone x) = is_tick x.1.item ≡ false
IsRound capacity queues senders earlier (behind drained tick calls) =
    AreSince tick drained calls × ((place : ℕ) → place < queues → place ≢ tick.0 → IsBehind capacity earlier drained calls place)
IsRound capacity queues senders earlier (ending drained tick last calls) =
    AreSince tick (drained ++ last ∷ []) calls × (have_ended (journal_of (earlier ++ (drained ++ tick ∷ last ∷ []))) senders ≡ true)

abbrev pub AreRounds : (capacity queues senders : ℕ) → List Round → Type 0
AreRounds capacity queues senders [] = Unit {0}
AreRounds capacity queues senders (round ∷ earlier) = IsRound capacity queues senders (taken_by earlier) round × AreRounds capacity queues senders earlier

-- What was popped from the queues, by these calls and those before, was taken in rounds: no tick was taken before a
-- call that came behind its pop had found each other queue empty, or as many items were popped from it since as it may
-- hold, unless every sender had ended with the item behind the tick.
pub record TicksWait (capacity queues senders : ℕ) (popped : List (ℕ × Entry)) (calls : List Call) : Type 0 where
  pub rounds : List Round
  pub taken : popped ≡ taken_by rounds
  pub before : List Call
  pub called : calls ≡ before ++ calls_by rounds
  pub each : AreRounds capacity queues senders rounds

-- ---- what it did

-- A shard of these settings that had taken nothing popped these items, each marked as the shard took it and with the
-- limiter's answers to the decisions at it, and ended with this shard, receiver and sender; the limiter went from one
-- state to the other.
pub record ShardWorks {L : Type 0} (asks : L → ℕ → ℕ → ℕ → Bool → L → Type 0) (capacity number : ℕ) (s : Settings) (shard : Held) (receiver : ReceiverState Item) (sender : EndState Shipment) (before after : TallyState) (first last : L) (popped : List (ℕ × Entry)) : Type 0 where
  -- they are what was popped from each sender's queue, in order
  pub of_queues : IsMergeOf receiver.ends (items popped)
  -- each tick waited for what its other queues held when it was popped; a queue may hold `capacity` items
  pub ticks_wait : TicksWait capacity (length receiver.ends) s.senders popped receiver.calls
  -- where no popped span is without valid ids, the journal has all that was popped; one without is in no journal, so it
  -- is neither shipped nor counted
  pub whole : HaveIds popped → journal_of popped ≡ reverse (map (λ (x : ℕ × Entry). x.1) popped)
  -- every sender's End is among them
  pub ended : have_ended (journal_of popped) s.senders ≡ true
  -- the shard stands for their journal
  pub dealt : ℕ
  pub stands : StandsFor shard (journal_of popped) dealt
  -- memory was refused only where taking an item takes memory
  pub marked : MarksApply s (journal_of popped)
  -- each decision has its answers, one for each of its askings
  pub answered : IsAnswered s (journal_of popped)
  -- the limiter had just the askings of these decisions, in order, and gave these answers
  pub asked : AskedBy asks s (journal_of popped) first last
  -- what was shipped is that journal's output, and then the End
  pub shipped : (shipped : List Shipment) × (sender.items ≡ shipped ++ End number ∷ []) × AreShipped shipped (output s (journal_of popped))
  -- each span with the place of the policy that decided its trace, and with none where it came late
  pub places : sender.items ≡ shipped_in s (journal_of popped) ++ End number ∷ []
  -- what was counted is what that journal counts
  pub counted : Tallies (counted_in s (journal_of popped)) before after
