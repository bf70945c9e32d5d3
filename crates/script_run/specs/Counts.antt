-- How many spans of a script were received, and how many have each end.
use Rattle.std.specs.Prelude.{◌≡◌, ℕ, ◌+◌, ◌^◌, ◌<◌, ◌≤◌, if◌then◌else◌, List, length, filter, slice_index, Option, Some, None}
use Rattle.std.specs.List.{sum_by}
use Rattle.span_ids.specs.declared.outcome.Reason.{Reason}
use Rattle.span_ids.specs.declared.outcome.Reason.TheVariants.{InvalidId, QueueFull, NoMemory, Evicted, NotSampled, LateNotSampled, ExporterDown}
use Rattle.journal_theory.specs.Journal.{Settings, Journal}
use Rattle.journal_theory.specs.Fate.{is_same_reason, effect, under}
use Rattle.lane_seq.specs.Numbers.{is_invalid}
use Rattle.span_exporter.specs.declared.answer.Flushed.{Flushed}
use Rattle.span_exporter.specs.declared.answer.Flushed.TheVariants.{Handed as WasHanded, BatchDropped}
use Rattle.drop_ledger.specs.Places.{place_of}
use Rattle.drop_ledger.specs.declared.count.Count.{Count}
use Rattle.drop_ledger.specs.declared.count.Count.TheVariants.{Received, Handed, Dropped}
use Rattle.script_run.specs.World.{ScriptWorld, OutputEvent, replied, was_sent}

-- what a lane counts: spans as received, those without valid ids, and those that found their queue full
abbrev pub counted_at_lanes : ScriptWorld → Count → ℕ
counted_at_lanes w Received = length w.received
counted_at_lanes w Handed = 0
counted_at_lanes w (Dropped InvalidId) = length (filter is_invalid w.received)
counted_at_lanes w (Dropped QueueFull) = w.full
counted_at_lanes w (Dropped NoMemory) = 0
counted_at_lanes w (Dropped Evicted) = 0
counted_at_lanes w (Dropped NotSampled) = 0
counted_at_lanes w (Dropped LateNotSampled) = 0
counted_at_lanes w (Dropped ExporterDown) = 0

-- how many spans a shard has counted under a reason, when it took this journal and decided all that was due
abbrev pub dropped_by_journal : Settings → Reason → Journal → ℕ
dropped_by_journal s reason past = length (under reason (effect s past).counted)

-- what the shards count
abbrev pub counted_at_shards : Settings → List Journal → Count → ℕ
counted_at_shards s journals Received = 0
counted_at_shards s journals Handed = 0
counted_at_shards s journals (Dropped reason) = sum_by (dropped_by_journal s reason) journals

-- what is counted for a batch: its spans, as handed over or under the reason for which it was given up
abbrev pub counted_for : Count → Flushed → ℕ
counted_for Handed (WasHanded spans) = spans
counted_for (Dropped reason) (BatchDropped spans why) = if is_same_reason why reason then spans else 0
counted_for _ _ = 0

-- what is counted for an event
abbrev pub counted_at : Count → OutputEvent → ℕ
counted_at count (replied reply) = 0
counted_at count (was_sent sent) = counted_for count sent.flushed

-- how many spans a report counts so: received, or with this end
abbrev pub number_reported : Settings → ScriptWorld → Count → ℕ
number_reported s w count = counted_at_lanes w count + (counted_at_shards s w.journals count + sum_by (counted_at count) w.events)

-- a report's numbers are those of the world, each below 2^64; there is none where some number passed 2^64-1
abbrev pub Reports : Settings → ScriptWorld → Option (List ℕ) → Type 0
Reports s w (Some numbers) = (length numbers ≡ 9) × ((count : Count) → (slice_index numbers (place_of count) ≡ number_reported s w count) × (number_reported s w count < 2 ^ 64))
Reports s w None = (count : Count) × (2 ^ 64 ≤ number_reported s w count)
