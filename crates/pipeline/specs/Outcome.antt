-- What a run answers, and what its sink tells of it.
use Rattle.std.specs.Prelude.{◌≡◌, ◌⊎◌, ℕ, ◌+◌, Bool, true, false, if◌then◌else◌, List, Option, Result, Ok, Err}
use Rattle.std.specs.Io.KnownBytes.{Appends}
use Rattle.span_sink.specs.LineSinks.{LineSinkState}
use Rattle.drop_ledger.specs.Sums.{AreSums, SumPasses, Fits}
use Rattle.drop_ledger.specs.declared.report.Report.{Report}
use Rattle.pipeline.specs.declared.fault.ServeFault.{ServeFault}
use Rattle.pipeline.specs.declared.fault.ServeFault.TheVariants.{NoMemory, CounterOverflow, SinkDown}

-- The bytes that the sink took and its count of failures, before and after, where a run answered so: bytes are only
-- added; it fails once where the answer tells so, and nothing is written where there was no memory at the start.
abbrev pub SinkAnswers : {A : Type 0} → (taken : Option (List ℕ)) → (failures : ℕ) → (taken_after : Option (List ℕ)) → (failures_after : ℕ) → Result A ServeFault → Type 0
SinkAnswers taken failures taken_after failures_after (Ok report) = ((bytes : List ℕ) × Appends taken taken_after bytes) × (failures_after ≡ failures)
SinkAnswers taken failures taken_after failures_after (Err NoMemory) = (taken_after ≡ taken) × (failures_after ≡ failures)
SinkAnswers taken failures taken_after failures_after (Err CounterOverflow) = ((bytes : List ℕ) × Appends taken taken_after bytes) × ((failures_after ≡ failures) ⊎ (failures_after ≡ failures + 1))
SinkAnswers taken failures taken_after failures_after (Err (SinkDown report)) = ((bytes : List ℕ) × Appends taken taken_after bytes) × (failures_after ≡ failures + 1)

-- A sink of lines that was up took bytes, and it failed once if it is down now, else never.
abbrev pub SinkWent : (old new : LineSinkState) → Type 0
SinkWent old new = ((bytes : List ℕ) × Appends old.taken new.taken bytes) × (new.failures ≡ (if new.is_down then old.failures + 1 else old.failures))

-- What a run that came to its end answers of its sink, by whether that is down.
abbrev pub TellsSink : {A : Type 0} → (is_down : Bool) → Result A ServeFault → Type 0
TellsSink is_down (Ok report) = is_down ≡ false
TellsSink is_down (Err NoMemory) = ⊥
TellsSink is_down (Err CounterOverflow) = Unit {0}
TellsSink is_down (Err (SinkDown report)) = is_down ≡ true

-- What a run that came to its end answers, by what its threads counted: a report of the sums exactly where no thread
-- stopped counting and no sum passes 2^64-1.
abbrev pub TellsCounts : (is_full : Bool) → List (List ℕ) → Result Report ServeFault → Type 0
TellsCounts is_full counts (Ok report) = (is_full ≡ false) × AreSums counts report × Fits report
TellsCounts is_full counts (Err NoMemory) = ⊥
TellsCounts is_full counts (Err CounterOverflow) = (is_full ≡ true) ⊎ SumPasses counts
TellsCounts is_full counts (Err (SinkDown report)) = (is_full ≡ false) × AreSums counts report × Fits report

-- whether a run that answers so has begun; where it hasn't, no job has worked, and nothing was asked of an acceptor or
-- of the ticks
abbrev pub has_begun : {A : Type 0} → Result A ServeFault → Bool
has_begun (Ok report) = true
has_begun (Err NoMemory) = false
has_begun (Err CounterOverflow) = true
has_begun (Err (SinkDown report)) = true
