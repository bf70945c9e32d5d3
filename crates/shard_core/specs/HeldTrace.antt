-- What a shard holds of one trace, and how the trace stands by it.
use Rattle.std.specs.Prelude.{ℕ, length, Option, Some, None}
use Rattle.span_ids.specs.declared.ids.TraceId.{TraceId}
use Rattle.span_ids.specs.declared.outcome.Verdict.{Verdict}
use Rattle.decision_cache.specs.Lists.{CacheLists, asked}
use Rattle.decision_line.specs.declared.held.TraceHeld.{TraceHeld}
use Rattle.decision_line.specs.declared.held.TraceHeld.TheVariants.{Waiting, Decided, Remembered, Unknown}
use Rattle.journal_theory.specs.Laws.{State}
use Rattle.trace_buffer.specs.Buffer.{Episode, episode_of}
use Rattle.shard_core.specs.Held.{Held}

-- the traces that a shard remembers outside its buffer
abbrev pub caches_of : Held → CacheLists
caches_of h = record {
  sampled = record { traces = h.standing.sampled; size = h.sampled_cache_size };
  not_sampled = record { traces = h.standing.non_sampled; size = h.non_sampled_cache_size };
}

-- an episode waits until it has a verdict
abbrev pub held_by_verdict : (since spans : ℕ) → Option Verdict → TraceHeld
held_by_verdict since spans None = Waiting since spans
held_by_verdict since spans (Some verdict) = Decided verdict

-- what is held of a trace that has no episode in the buffer, by what a cache remembers of it
abbrev pub held_in_cache : Option Verdict → TraceHeld
held_in_cache None = Unknown
held_in_cache (Some verdict) = Remembered verdict

-- what is held of a trace, by its episode in the buffer, else by what a cache remembers
abbrev pub held_by : Option Episode → (remembered : Option Verdict) → TraceHeld
held_by (Some e) remembered = held_by_verdict e.moment (length e.spans) e.verdict
held_by None remembered = held_in_cache remembered

-- what a shard holds of a trace
abbrev pub trace_held : TraceId → Held → TraceHeld
trace_held t h = held_by (episode_of t h.standing.episodes) (asked t (caches_of h))

-- how the trace stands by what is held of it: not at all, undecided, or decided so
abbrev pub state_told : TraceHeld → State
state_told (Waiting since spans) = Some None
state_told (Decided verdict) = Some (Some verdict)
state_told (Remembered verdict) = Some (Some verdict)
state_told Unknown = None
