-- What a run decided and kept, and what each call adds.
use Rattle.std.specs.Prelude.{ℕ, List, [], ◌∷◌, length, Option, None, Some, option_and_then, replicate}
use Rattle.span_ids.specs.declared.ids.TraceId.{TraceId}
use Rattle.span_ids.specs.declared.outcome.Verdict.{Verdict}
use Rattle.span_ids.specs.declared.outcome.Verdict.TheVariants.{Sampled, NotSampled}
use Rattle.otlp_types.specs.declared.arrival.Arrival.{Arrival}
use Rattle.otlp_types.specs.declared.span.Ids.{Ids}
use Rattle.decision_line.specs.declared.decision.DecidedTrace.{DecidedTrace}
use Rattle.decision_line.specs.declared.decision.EvictedTrace.{EvictedTrace}
use Rattle.span_size.specs.Size.{size_of, span_text}
use Rattle.run_comparison.specs.Amount.{capped, nothing}
use Rattle.run_comparison.specs.declared.amount.Amount.{Amount}
use Rattle.run_comparison.specs.declared.end.TraceEnd.{TraceEnd}
use Rattle.run_comparison.specs.Ends.{Traces, decided_end, decider_in, evicted_end, end_of, with_end}
use Rattle.run_comparison.specs.Policies.{PolicyAmounts, with_amount}
use Rattle.run_comparison.specs.Services.{Services, no_services, with_kept_spans}
use Rattle.run_comparison.specs.Timeline.{Timeline, no_steps, with_spans_at}

-- the policies' names in their order, how traces ended, and what was kept by policy, by service and over time
pub record Run : Type 0 where
  pub names : List (List ℕ)
  pub traces : Traces
  pub policies : PolicyAmounts
  pub services : Services
  pub steps : Timeline

-- one trace, where a verdict keeps it
abbrev pub traces_kept : Verdict → ℕ
traces_kept Sampled = 1
traces_kept NotSampled = 0

-- what a decision kept: these spans
abbrev pub kept_by_decision : DecidedTrace → List Arrival → Amount
kept_by_decision decision spans = record { traces = traces_kept decision.verdict; spans = length spans; bytes = size_of spans }

-- what one late span is
abbrev pub kept_span : Arrival → Amount
kept_span span = record { traces = 0; spans = 1; bytes = capped (length (span_text span.rec.span)) }

-- some spans were kept by the policy at a place, at a moment
abbrev pub with_kept : Run → (place : Option ℕ) → (moment : ℕ) → Amount → List Arrival → Run
with_kept run place moment amount spans = record {
  names = run.names;
  traces = run.traces;
  policies = with_amount run.policies place amount;
  services = with_kept_spans run.services spans;
  steps = with_spans_at run.steps moment amount.spans;
}

-- a trace ended
abbrev pub with_ended : Run → TraceId → TraceEnd → Run
with_ended run trace end = record { names = run.names; traces = with_end run.traces trace end; policies = run.policies; services = run.services; steps = run.steps }

-- a trace was decided, and these spans of it were kept
abbrev pub with_decision : Run → DecidedTrace → List Arrival → Run
with_decision run decision spans = with_kept (with_ended run decision.trace (decided_end decision)) decision.decider decision.moment (kept_by_decision decision spans) spans

-- a trace was evicted
abbrev pub with_eviction : Run → EvictedTrace → Run
with_eviction run evicted = with_ended run evicted.trace (evicted_end evicted)

-- the policy that decided the trace of a span, where its last end was decided, and stands in the table
abbrev pub decider_of : Traces → Arrival → Option ℕ
decider_of traces span = option_and_then (λ (ids : Ids). option_and_then (λ (end : TraceEnd). decider_in end.how) (end_of traces.ends ids.trace)) span.rec.span.ids

-- a late span was kept
abbrev pub with_late_span : Run → (moment : ℕ) → Arrival → Run
with_late_span run moment span = with_kept run (decider_of run.traces span) moment (kept_span span) (span ∷ [])

-- a run by policies of these names, that has decided nothing
abbrev pub no_run : (names : List (List ℕ)) → Run
no_run names = record {
  names = names;
  traces = record { ends = []; beyond = 0 };
  policies = record { by_place = replicate (length names) nothing; without = nothing };
  services = no_services;
  steps = no_steps;
}
