-- A trace that is too big (tailsamplingprocessor README: `maximum_trace_size_bytes`), in every journal.
use Rattle.std.specs.Prelude.{◌≡◌, Bool, true, List, [], ◌∷◌}
use Rattle.policy_eval.specs.Given.{asked_given}
use Rattle.otlp_types.specs.declared.arrival.Arrival.{Arrival}
use Rattle.otlp_types.specs.declared.arrival.Item.TheVariants.{Span}
use Rattle.span_ids.specs.declared.outcome.Verdict.TheVariants.{NotSampled}
use Rattle.journal_theory.specs.Journal.{Settings, Journal, Entry, Opening, spans_since, is_oversized, policies_for, decision, due_now}

-- an episode whose spans are too big isn't sampled, whatever is answered, and its decision asks for nothing
abbrev pub TooBigIsNotSampled : Type 0
TooBigIsNotSampled = (s : Settings) (past : Journal) (o : Opening) (answers : List Bool) → is_oversized s past o ≡ true
    → ((decision s past o answers).verdict ≡ NotSampled) × (asked_given (policies_for s (spans_since past o)) answers (spans_since past o) ≡ [])

-- without a maximum nothing is due at a span
abbrev pub NoneTooBigWithoutMaximum : Type 0
NoneTooBigWithoutMaximum = (s : Settings) (e : Entry) (before : Journal) (a : Arrival) → s.maximum_trace_size ≡ 0 → e.item ≡ Span a → due_now s (e ∷ before) ≡ []
