-- What holds of each of the nine counts holds of every count.
-- For the facts below and above that are told by cases of a count or of a reason.
use Rattle.span_ids.specs.declared.outcome.Reason.{Reason}
use Rattle.span_ids.specs.declared.outcome.Reason.TheVariants.{InvalidId, QueueFull, NoMemory, Evicted, NotSampled, LateNotSampled, ExporterDown}
use Rattle.drop_ledger.specs.declared.count.Count.{Count}
use Rattle.drop_ledger.specs.declared.count.Count.TheVariants.{Received, Handed, Dropped}

-- in the order of a report
pub each_reason : (F : Reason → Type 0) → F InvalidId → F QueueFull → F NoMemory → F Evicted → F NotSampled → F LateNotSampled → F ExporterDown → (reason : Reason) → F reason
each_reason F invalid full memory evicted sampled late down InvalidId = invalid
each_reason F invalid full memory evicted sampled late down QueueFull = full
each_reason F invalid full memory evicted sampled late down NoMemory = memory
each_reason F invalid full memory evicted sampled late down Evicted = evicted
each_reason F invalid full memory evicted sampled late down NotSampled = sampled
each_reason F invalid full memory evicted sampled late down LateNotSampled = late
each_reason F invalid full memory evicted sampled late down ExporterDown = down

pub each_count : (F : Count → Type 0) → F Received → F Handed → F (Dropped InvalidId) → F (Dropped QueueFull) → F (Dropped NoMemory) → F (Dropped Evicted) → F (Dropped NotSampled) → F (Dropped LateNotSampled) → F (Dropped ExporterDown) → (count : Count) → F count
each_count F received handed invalid full memory evicted sampled late down Received = received
each_count F received handed invalid full memory evicted sampled late down Handed = handed
each_count F received handed invalid full memory evicted sampled late down (Dropped reason) = each_reason (λ r. F (Dropped r)) invalid full memory evicted sampled late down reason
