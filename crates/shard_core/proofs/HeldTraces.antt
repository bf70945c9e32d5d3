-- How a trace stands by what is told of it.
-- For the clause `found` of `Shard::held_of`.
use Rattle.std.proofs.Common.{◌≡◌, ℕ, ◌<◌, Bool, true, false, if◌then◌else◌, Option, Some, None, refl, sym, ap, ◌∙◌}
use Rattle.span_ids.specs.declared.ids.TraceId.{TraceId}
use Rattle.span_ids.specs.declared.outcome.Verdict.{Verdict}
use Rattle.span_ids.specs.declared.outcome.Verdict.TheVariants.{Sampled, NotSampled}
use Rattle.decision_cache.specs.Lists.{is_held, asked}
use Rattle.trace_buffer.specs.Buffer.{Episode, episode_of}
use Rattle.journal_theory.specs.Journal.{Journal, finding, notes}
use Rattle.journal_theory.specs.Laws.{State, state_found, state_by, state_in}
use Rattle.journal_theory.specs.Standing.{Standing}
use Rattle.journal_theory.proofs.FoundAsHeld.{found_as_held}
use Rattle.shard_core.specs.Held.{Held, settings, StandsFor, has_due, is_finished}
use Rattle.shard_core.specs.HeldTrace.{caches_of, held_by_verdict, held_in_cache, held_by, trace_held, state_told}
use Rattle.shard_core.proofs.Stands.{room_of, ready}

told-verdict : (since spans : ℕ) (v : Option Verdict) → state_told (held_by_verdict since spans v) ≡ Some v
told-verdict since spans None = refl
told-verdict since spans (Some v) = refl

abbrev cached : (sampled non_sampled : Bool) → Option Verdict
cached sampled non_sampled = if sampled then Some Sampled else if non_sampled then Some NotSampled else None

abbrev stands : (sampled non_sampled : Bool) → State
stands sampled non_sampled = if sampled then Some (Some Sampled) else if non_sampled then Some (Some NotSampled) else None

told-cached : (sampled non_sampled : Bool) → state_told (held_in_cache (cached sampled non_sampled)) ≡ stands sampled non_sampled
told-cached true non_sampled = refl
told-cached false true = refl
told-cached false false = refl

-- how the trace stands by what is told is how it stands in the shard
told-state : (h : Held) (t : TraceId) → state_told (trace_held t h) ≡ state_in h.standing t
told-state h t = by-episode (episode_of t h.standing.episodes)
  where
    by-episode : (e : Option Episode) → state_told (held_by e (asked t (caches_of h))) ≡ state_by h.standing t e
    by-episode None = told-cached (is_held t h.standing.sampled) (is_held t h.standing.non_sampled)
    by-episode (Some e) = told-verdict e.moment _ e.verdict

-- it is how a span of the trace finds it, where nothing is due
pub told-found : (h : Held) (t : TraceId) (past : Journal) (dealt : ℕ) → 0 < h.waits.decision_wait → 0 < h.num_traces → has_due h ≡ false → is_finished h ≡ false → StandsFor h past dealt →
    state_told (trace_held t h) ≡ state_found (finding (settings h) (notes (settings h) past) t)
told-found h t past dealt w l d f s =
    let g = ready h past dealt w l d f s in
    told-state h t ∙ ap (λ (x : Standing). state_in x t) g.stands ∙ sym (found_as_held (settings h) past dealt t (room_of h l) g.dealt)
