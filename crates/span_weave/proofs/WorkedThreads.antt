-- Two lanes, one of which has two connections, and two shards: a refused try, a span without valid ids, an eviction, a
-- late span and a sink that fails. The threads keep all promises, and their run is computed. For the contract of
-- `weave`: its premises can be met, and its run does what the threads did.
use Rattle.std.proofs.Common.{◌≡◌, ℕ, zero, suc, ◌<◌, true, false, List, [], ◌∷◌, ◌++◌, length, map, filter, Some, refl, arith}
use Rattle.otlp_types.specs.declared.arrival.Arrival.{Arrival}
use Rattle.otlp_types.specs.declared.arrival.Record.{Record}
use Rattle.otlp_types.specs.declared.arrival.Item.TheVariants.{Span, Tick, End}
use Rattle.span_ids.specs.declared.outcome.Reason.{Reason}
use Rattle.span_ids.specs.declared.outcome.Reason.TheVariants.{InvalidId, QueueFull, NoMemory, Evicted, NotSampled, LateNotSampled, ExporterDown}
use Rattle.lane_queue.specs.Merges.{of}
use Rattle.journal_theory.specs.Journal.{IsAnswered, Entry, notes}
use Rattle.journal_theory.specs.Fate.{output, under}
use Rattle.journal_theory.specs.Marked.{MarksApply}
use Rattle.world_theory.specs.World.{CoreConfig, World, settings_for, goes_to}
use Rattle.world_theory.specs.Step.{Step, receive, route, refuse, take, tick, close, end as end_step, decide, ship, pull, hand, fail, drop_batch, run}
use Rattle.world_theory.proofs.Samples.{errors, configured, error, plain, invalid}
use Rattle.world_theory.proofs.WrongTables.{reached}
use Rattle.span_weave.specs.Threads.{Try, Threads, pushed, full, span_of, was_pushed, pushed_in, ExporterAct, pulled, handed_over, failed, batch_dropped, pulls, items_of, journal_of, ExporterMade, AreNumbered, Meets}
use Rattle.span_weave.specs.Woven.{counted_in_all, tries_in, Woven}
use Rattle.span_weave.proofs.Worlds.{entry_of}
use Rattle.span_weave.proofs.Numbering.{numbered_from}

-- traces with an error are kept, a shard has room for one trace, batches of one span
abbrev config : CoreConfig
config = configured errors (Some 1) 1 1

-- a span of a lane's connection
abbrev arrival : (lane ordinal number moment : ℕ) → Record → Arrival
arrival lane ordinal number moment r = record { key = record { conn = record { lane = lane; ordinal = ordinal }; number = number }; moment = moment; rec = r }

-- an even trace goes to shard 0, an odd one to shard 1
abbrev leaves : Arrival
leaves = arrival 0 0 0 0 (error 2)

abbrev lacks_ids : Arrival
lacks_ids = arrival 0 1 0 0 invalid

abbrev stays : Arrival
stays = arrival 0 0 1 0 (error 4)

abbrev finds_full : Arrival
finds_full = arrival 0 0 2 0 (plain 6)

abbrev decided_last : Arrival
decided_last = arrival 0 0 3 0 (error 3)

abbrev decided_first : Arrival
decided_first = arrival 1 0 0 0 (error 1)

abbrev late : Arrival
late = arrival 1 0 1 11 (plain 1)

abbrev received : (lane : ℕ) → List Arrival
received zero = leaves ∷ lacks_ids ∷ stays ∷ finds_full ∷ decided_last ∷ []
received (suc lane) = decided_first ∷ late ∷ []

abbrev tries : (lane shard : ℕ) → List Try
tries zero zero = pushed leaves ∷ pushed stays ∷ full finds_full ∷ []
tries zero (suc shard) = pushed decided_last ∷ []
tries (suc lane) zero = []
tries (suc lane) (suc shard) = pushed decided_first ∷ pushed late ∷ []

abbrev from : (sender : ℕ) → Arrival → ℕ × Entry
from sender a = (sender, entry_of (Span a) false false [])

abbrev ended : (sender : ℕ) → ℕ × Entry
ended sender = (sender, entry_of (End sender) false false [])

-- the End with which an episode is decided, whose decision asks no limiter
abbrev ended_last : (sender : ℕ) → ℕ × Entry
ended_last sender = (sender, entry_of (End sender) false false ([] ∷ []))

abbrev ticked : ℕ × Entry
ticked = (2, entry_of (Tick 10) false false ([] ∷ []))

abbrev popped : (shard : ℕ) → List (ℕ × Entry)
popped zero = from 0 leaves ∷ ended 1 ∷ from 0 stays ∷ ticked ∷ ended 0 ∷ ended 2 ∷ []
popped (suc shard) = from 1 decided_first ∷ ticked ∷ from 1 late ∷ from 0 decided_last ∷ ended 0 ∷ ended 2 ∷ ended_last 1 ∷ []

abbrev acts : List ExporterAct
acts = pulled 1 decided_first ∷ handed_over ∷ pulled 0 stays ∷ handed_over ∷ pulled 1 late ∷ failed ∷ batch_dropped ExporterDown ∷ pulled 1 decided_last ∷ batch_dropped ExporterDown ∷ []

abbrev did : Threads
did = record { received = received; tries = tries; ticks = λ shard. 10 ∷ []; popped = popped; acts = acts }

abbrev end : ExporterMade
end = record {
  batch = [];
  handed = (decided_first ∷ []) ∷ (stays ∷ []) ∷ [];
  counted = record { reason = ExporterDown; key = late.key } ∷ record { reason = ExporterDown; key = decided_last.key } ∷ [];
  down = true;
}

-- what holds of the numbers 0 and 1 holds of each below 2
below_two : (P : ℕ → Type 0) → P 0 → P 1 → (k : ℕ) → k < 2 → P k
below_two P h g zero l = h
below_two P h g (suc zero) l = g
below_two P h g (suc (suc k)) l = absurd (omega (arith, l))

-- of each of two lanes and each of two shards
each_pair : (P : (lane shard : ℕ) → Type 0) → P 0 0 → P 0 1 → P 1 0 → P 1 1 → (lane shard : ℕ) → lane < 2 → shard < 2 → P lane shard
each_pair P a b d e lane shard i j = below_two (λ l. P l shard) (below_two (P 0) a b shard j) (below_two (P 1) d e shard j) lane i

pub meets : Meets config 2 2 did end
unfolding notes
meets = record {
  numbered = below_two (λ lane. AreNumbered lane (did.received lane))
      (numbered_from 0 (did.received 0) (refl, refl, (refl, refl, (refl, refl, (refl, refl, (refl, refl, tt))))))
      (numbered_from 1 (did.received 1) (refl, refl, (refl, refl, tt)));
  tried = each_pair (λ lane shard. map span_of (did.tries lane shard) ≡ filter (goes_to 2 shard) (did.received lane)) refl refl refl refl;
  of_lane = each_pair (λ lane shard. items_of lane (did.popped shard) ≡ map (λ a. Span a) (pushed_in (did.tries lane shard)) ++ End lane ∷ []) refl refl refl refl;
  of_ticker = below_two (λ shard. items_of 2 (did.popped shard) ≡ map (λ m. Tick m) (did.ticks shard) ++ End 2 ∷ []) refl refl;
  of_senders = below_two _ (omega arith, (omega arith, (omega arith, (omega arith, (omega arith, (omega arith, tt)))))) (omega arith, (omega arith, (omega arith, (omega arith, (omega arith, (omega arith, (omega arith, tt)))))));
  marked = below_two (λ shard. MarksApply (settings_for config 3) (journal_of did shard)) (refl, (refl, (refl, (refl, (refl, (refl, tt)))))) (refl, (refl, (refl, (refl, (refl, (refl, (refl, tt)))))));
  answered = below_two (λ shard. IsAnswered (settings_for config 3) (journal_of did shard)) (refl, (refl, (refl, (refl, (refl, (refl, tt)))))) (refl, (refl, (refl, (refl, (refl, (refl, (refl, tt)))))));
  shipped = below_two (λ shard. of shard (pulls did.acts) ≡ output (settings_for config 3) (journal_of did shard)) refl refl;
  of_shards = (omega arith, (omega arith, (omega arith, (omega arith, tt))));
  exports = refl;
  flushed = refl;
}

-- the steps of their run, in the weave's order
abbrev steps : List Step
steps = receive 0 0 0 (leaves.rec ∷ []) ∷ receive 0 1 0 (lacks_ids.rec ∷ []) ∷ receive 0 0 0 (stays.rec ∷ finds_full.rec ∷ decided_last.rec ∷ []) ∷ close 0
    ∷ receive 1 0 0 (decided_first.rec ∷ []) ∷ receive 1 0 11 (late.rec ∷ []) ∷ close 1
    ∷ route 0 0 ∷ take 0 false false ∷ end_step 0 1 ∷ route 0 0 ∷ take 0 false false ∷ tick 0 10 ∷ decide 0 [] ∷ refuse 0 0 ∷ end_step 0 0 ∷ end_step 0 2
    ∷ route 1 1 ∷ take 1 false false ∷ tick 1 10 ∷ decide 1 [] ∷ route 1 1 ∷ take 1 false false ∷ route 0 1 ∷ take 1 false false ∷ end_step 1 0 ∷ end_step 1 2 ∷ end_step 1 1 ∷ decide 1 []
    ∷ ship 1 ∷ pull ∷ hand ∷ ship 0 ∷ pull ∷ hand ∷ ship 1 ∷ pull ∷ fail ∷ drop_batch ExporterDown ∷ ship 1 ∷ pull ∷ drop_batch ExporterDown ∷ []

-- and the world after them
abbrev after : World
unfolding notes
after = reached (run config 2 2 steps)

-- so they are a run of the core, by computation alone
pub is_woven : Woven config 2 2 did end
unfolding notes
is_woven = record {
  steps = steps;
  after = after;
  runs = refl;
  closed = record { lanes_ended = refl; ends_taken = refl; nothing_waits = refl };
  received = below_two _ refl refl;
  tried = each_pair (λ lane shard. tries_in lane shard steps ≡ map was_pushed (did.tries lane shard)) refl refl refl refl;
  journals = below_two _ refl refl;
  handed = refl;
  down = refl;
  counted = counts;
}
  where
    counts : (reason : Reason) → length (under reason after.counted) ≡ counted_in_all config 2 2 did end reason
    counts InvalidId = refl
    counts QueueFull = refl
    counts NoMemory = refl
    counts Evicted = refl
    counts NotSampled = refl
    counts LateNotSampled = refl
    counts ExporterDown = refl

-- of seven spans two were handed over; one lacked valid ids, one found a queue full, one was evicted, and two were
-- given up behind the sink's failure
pub counted_under_each : map (λ (r : Reason). counted_in_all config 2 2 did end r) (InvalidId ∷ QueueFull ∷ NoMemory ∷ Evicted ∷ NotSampled ∷ LateNotSampled ∷ ExporterDown ∷ []) ≡ 1 ∷ 1 ∷ 0 ∷ 1 ∷ 0 ∷ 0 ∷ 2 ∷ []
unfolding notes
counted_under_each = refl
