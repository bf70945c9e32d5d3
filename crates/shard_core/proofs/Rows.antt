-- Worked rows, computed: what a shard holds of a trace, and how the trace stands by it. No two values are the same.
-- They serve the definitions that `Shard::held_of` promises.
use Rattle.std.specs.Prelude.{ℕ, ◌≡◌, List, [], ◌∷◌, Option, Some, None, false, refl}
use Rattle.otlp_types.proofs.Samples.{plain_record}
use Rattle.otlp_types.specs.declared.arrival.Arrival.{Arrival}
use Rattle.span_ids.specs.declared.outcome.Verdict.{Verdict}
use Rattle.span_ids.specs.declared.outcome.Verdict.TheVariants.{Sampled, NotSampled}
use Rattle.decision_line.specs.declared.held.TraceHeld.TheVariants.{Waiting, Decided, Remembered, Unknown}
use Rattle.trace_buffer.specs.Buffer.{Episode}
use Rattle.shard_core.specs.Held.{Held}
use Rattle.shard_core.specs.HeldTrace.{trace_held, state_told}

abbrev arrival : (number : ℕ) → Arrival
arrival number = record { key = record { conn = record { lane = 0; ordinal = 0 }; number = number }; moment = 61; rec = plain_record None 0 0 0 }

abbrev episode : (trace moment : ℕ) → List Arrival → Option Verdict → Episode
episode trace moment spans verdict = record { trace = trace ∷ []; moment = moment; maximum = 0; first_root = None; spans = spans; verdict = verdict }

-- traces 2 and 3 are in the buffer and in the other verdict's cache, too
abbrev shard : Held
shard = record {
  policies = [];
  waits = record { decision_wait = 30; root_wait = 0; maximum_trace_size = 0 };
  num_traces = 7;
  sampled_cache_size = 4;
  non_sampled_cache_size = 5;
  standing = record {
    episodes = episode 2 50 [] (Some Sampled) ∷ episode 1 52 (arrival 8 ∷ arrival 9 ∷ arrival 10 ∷ []) None ∷ episode 3 53 [] (Some NotSampled) ∷ [];
    sampled = (3 ∷ []) ∷ (4 ∷ []) ∷ [];
    non_sampled = (5 ∷ []) ∷ (2 ∷ []) ∷ [];
    clock = 90;
    mark = 80;
    ends = false ∷ [];
  };
}

held : trace_held (1 ∷ []) shard ∷ trace_held (2 ∷ []) shard ∷ trace_held (3 ∷ []) shard ∷ trace_held (4 ∷ []) shard ∷ trace_held (5 ∷ []) shard ∷ trace_held (6 ∷ []) shard ∷ []
    ≡ Waiting 52 3 ∷ Decided Sampled ∷ Decided NotSampled ∷ Remembered Sampled ∷ Remembered NotSampled ∷ Unknown ∷ []
held = refl

stands : state_told (Waiting 52 3) ∷ state_told (Decided Sampled) ∷ state_told (Remembered NotSampled) ∷ state_told Unknown ∷ []
    ≡ Some None ∷ Some (Some Sampled) ∷ Some (Some NotSampled) ∷ None ∷ []
stands = refl
