-- Late spans of one trace, one after the other.
use Rattle.std.specs.Prelude.{ℕ, ◌+◌, ◌-◌, ◌^◌, min, Bool, true, false, ◌&&◌, if◌then◌else◌, Option, Some, None}
use Rattle.span_ids.specs.Same.{same_trace}
use Rattle.span_ids.specs.declared.outcome.Verdict.{Verdict}
use Rattle.span_ids.specs.declared.outcome.Verdict.TheVariants.{Sampled, NotSampled}
use Rattle.decision_line.specs.declared.decision.LateSpans.{LateSpans}

-- the same verdict
abbrev pub same_verdict : Verdict → Verdict → Bool
same_verdict Sampled Sampled = true
same_verdict Sampled NotSampled = false
same_verdict NotSampled Sampled = false
same_verdict NotSampled NotSampled = true

-- of the same trace and verdict
abbrev pub joins : (before more : LateSpans) → Bool
joins before more = same_trace before.trace more.trace && same_verdict before.verdict more.verdict

-- those before and more, counted together up to 2^64-1, at the moment of the last
abbrev pub together : (before more : LateSpans) → LateSpans
together before more = record { trace = more.trace; moment = more.moment; verdict = more.verdict; spans = min (before.spans + more.spans) (2 ^ 64 - 1) }

-- what stands once more spans were told
abbrev pub joined : Option LateSpans → (more : LateSpans) → LateSpans
joined None more = more
joined (Some before) more = if joins before more then together before more else more

-- what gets its line then
abbrev pub left_by : Option LateSpans → (more : LateSpans) → Option LateSpans
left_by None more = None
left_by (Some before) more = if joins before more then None else Some before
