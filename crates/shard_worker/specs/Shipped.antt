-- What a shard ships, by its journal: each released span with the place of the policy that decided its trace.
use Rattle.std.specs.Prelude.{ℕ, Bool, List, [], ◌∷◌, ◌++◌, nat_lt, if◌then◌else◌, Option, Some, None}
use Rattle.otlp_types.specs.declared.arrival.Arrival.{Arrival}
use Rattle.span_ids.specs.declared.outcome.Verdict.{Verdict}
use Rattle.span_ids.specs.declared.outcome.Verdict.TheVariants.{Sampled, NotSampled}
use Rattle.released_spans.specs.declared.shipment.Shipment.{Shipment}
use Rattle.released_spans.specs.Shipping.{shipments}
use Rattle.policy_eval.specs.Given.{verdict_given, decider_given}
use Rattle.journal_theory.specs.Journal.{Settings, Journal, Opening, due_now, policies_for, spans_since}
use Rattle.shard_core.specs.Taking.{answer_to, released_by}

-- the place of the policy that decided, as spans have it: a number of sixteen bits
abbrev pub recorded : (decider : Option ℕ) → Option ℕ
recorded None = None
recorded (Some place) = if nat_lt place 65536 then Some place else None

-- the spans of a decision, each with the place of the policy that decided, where they are sampled
abbrev pub shipped_by : Verdict → (decider : Option ℕ) → List Arrival → List Shipment
shipped_by Sampled decider spans = shipments (recorded decider) spans
shipped_by NotSampled decider spans = []

-- what is shipped of the decision of an episode at the journal's end, where the limiter answers so
abbrev pub decision_shipped : Settings → Journal → Opening → (answers : List Bool) → List Shipment
decision_shipped s past o answers =
    let spans = spans_since past o in
    let policies = policies_for s spans in
    shipped_by (verdict_given policies answers spans) (decider_given policies answers spans) spans

-- of the decisions of these episodes, in order, as far as they were given answers
abbrev pub decisions_shipped : Settings → Journal → List Opening → (answers : List (List Bool)) → List Shipment
decisions_shipped s past [] answers = []
decisions_shipped s past (o ∷ rest) [] = []
decisions_shipped s past (o ∷ rest) (a ∷ later) = decision_shipped s past o a ++ decisions_shipped s past rest later

-- what is shipped of a journal's items and decisions, in turn: a span that comes late has no policy's place
abbrev pub shipped_in : Settings → Journal → List Shipment
shipped_in s [] = []
shipped_in s (e ∷ before) = shipped_in s before ++ (shipments None (released_by (answer_to s e before)) ++ decisions_shipped s (e ∷ before) (due_now s (e ∷ before)) e.answers)
