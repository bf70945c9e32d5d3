-- How a limiter was asked at the decisions of a shard.
use Rattle.std.specs.Prelude.{◌≡◌, ℕ, ◌/◌, Bool, List, [], ◌∷◌}
use Rattle.otlp_types.specs.declared.arrival.Arrival.{Arrival}
use Rattle.policy_eval.specs.Amounts.{amount_at}
use Rattle.policy_eval.specs.Given.{asked_given, Asked}
use Rattle.journal_theory.specs.Journal.{Settings, Journal, Opening, clock, due_now, policies_for, spans_since}

-- Asked at the decisions of these episodes in turn, in this second, as the policies ask on their spans, the limiter
-- gave each decision its answers, and went from one state to the other.
abbrev pub AskedInTurn : {L : Type 0} → (asks : L → ℕ → ℕ → ℕ → Bool → L → Type 0) → Settings → (second : ℕ) → (spans_of : Opening → List Arrival) → List Opening → (answers : List (List Bool)) → (old new : L) → Type 0
AskedInTurn asks s second spans_of os [] old new = new ≡ old
AskedInTurn asks s second spans_of [] (a ∷ later) old new = ⊥
AskedInTurn {L} asks s second spans_of (o ∷ rest) (a ∷ later) old new =
    let spans = spans_of o in
    let policies = policies_for s spans in
    (between : L) × Asked asks second (amount_at policies spans) (asked_given policies a spans) a old between × AskedInTurn asks s second spans_of rest later between new

-- Asked at the decisions of a journal, item by item, the limiter gave the answers that stand in its entries, and went
-- from one state to the other.
abbrev pub AskedBy : {L : Type 0} → (asks : L → ℕ → ℕ → ℕ → Bool → L → Type 0) → Settings → Journal → (old new : L) → Type 0
AskedBy asks s [] old new = new ≡ old
AskedBy {L} asks s (e ∷ before) old new =
    (between : L) × AskedBy asks s before old between
    × AskedInTurn asks s (clock (e ∷ before) / 1000) (spans_since (e ∷ before)) (due_now s (e ∷ before)) e.answers between new
