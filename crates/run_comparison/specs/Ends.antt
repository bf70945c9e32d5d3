-- How traces ended in a run.
use Rattle.std.specs.Prelude.{ℕ, ◌+◌, Bool, true, false, ◌||◌, if◌then◌else◌, List, length, Option, None, Some, ◌&&◌, is_none, nat_le, option_and_then, slice_get}
use Rattle.std.specs.Map.{lookup}
use Rattle.indexmap.specs.IndexMap.{insert_entry}
use Rattle.span_ids.specs.Same.{same_trace}
use Rattle.span_ids.specs.declared.ids.TraceId.{TraceId}
use Rattle.span_ids.specs.declared.outcome.Verdict.{Verdict}
use Rattle.span_ids.specs.declared.outcome.Verdict.TheVariants.{Sampled, NotSampled}
use Rattle.decision_line.specs.declared.decision.DecidedTrace.{DecidedTrace}
use Rattle.decision_line.specs.declared.decision.EvictedTrace.{EvictedTrace}
use Rattle.run_comparison.specs.Amount.{capped}
use Rattle.run_comparison.specs.declared.end.HowEnded.{HowEnded}
use Rattle.run_comparison.specs.declared.end.HowEnded.TheVariants.{Decided, Evicted}
use Rattle.run_comparison.specs.declared.end.TraceEnd.{TraceEnd}
use Rattle.run_comparison.specs.declared.traces.TheConstants.{MOST_TRACES}

-- the place of the policy that decided, where one did
abbrev pub decider_in : HowEnded → Option ℕ
decider_in (Decided verdict cause decider) = decider
decider_in Evicted = None

-- whether a verdict keeps a trace
abbrev pub keeps : Verdict → Bool
keeps Sampled = true
keeps NotSampled = false

-- the end of a decided trace
abbrev pub decided_end : DecidedTrace → TraceEnd
decided_end d = record { how = Decided d.verdict d.cause d.decider; spans = d.spans; moment = d.moment; kept = keeps d.verdict }

-- the end of an evicted trace
abbrev pub evicted_end : EvictedTrace → TraceEnd
evicted_end e = record { how = Evicted; spans = e.spans; moment = e.moment; kept = false }

-- the last end of each trace, in the order of their first ends, and how many ends found no room
pub record Traces : Type 0 where
  pub ends : List (TraceId × TraceEnd)
  pub beyond : ℕ

-- the last end of a trace
abbrev pub end_of : List (TraceId × TraceEnd) → TraceId → Option TraceEnd
end_of ends trace = lookup (same_trace trace) ends

-- whether a decision kept a trace that ended so
abbrev pub is_kept_by : Option TraceEnd → Bool
is_kept_by None = false
is_kept_by (Some end) = end.kept

-- the name of the policy that decided, where one did, of the names of all
abbrev pub policy_of : TraceEnd → (names : List (List ℕ)) → Option (List ℕ)
policy_of end names = option_and_then (slice_get names) (decider_in end.how)

-- an end behind an earlier one of the same trace, where there was one: a trace that was kept once stays kept
abbrev pub end_behind : (earlier : Option TraceEnd) → TraceEnd → TraceEnd
end_behind earlier end = record { how = end.how; spans = end.spans; moment = end.moment; kept = is_kept_by earlier || end.kept }

-- an end is told: it replaces the trace's last one, or gets a place where there is room, or is counted
abbrev pub with_end : Traces → TraceId → TraceEnd → Traces
with_end t trace end =
    if is_none (end_of t.ends trace) && nat_le MOST_TRACES (length t.ends)
    then record { ends = t.ends; beyond = capped (t.beyond + 1) }
    else record { ends = insert_entry same_trace t.ends trace (end_behind (end_of t.ends trace) end); beyond = t.beyond }
