-- How the one limiter of a script answers the decisions of all shards.
use Rattle.std.specs.Prelude.{ℕ, ◌/◌, Bool, List, [], ◌∷◌, ◌++◌, map, reverse}
use Rattle.otlp_types.specs.declared.arrival.Arrival.{Arrival}
use Rattle.policy_eval.specs.Policies.{asked_nodes}
use Rattle.policy_eval.specs.Amounts.{amount_at, granted_on}
use Rattle.rate_budget.specs.Grant.{Asking}
use Rattle.journal_theory.specs.Journal.{Settings, Entry, Journal, Opening, clock, due_now, policies_for, spans_since}

-- the limiter's answers to the decision on these spans in this second, in the order in which the policies ask that
-- decide on them, after these askings, the latest of which comes first
abbrev pub answers_to : Settings → List Asking → (second : ℕ) → List Arrival → List Bool
answers_to s askings second spans =
    let granted = granted_on s.policies askings second spans in
    map granted (asked_nodes (policies_for s spans) granted spans)

-- the askings with those of that decision, the latest first
abbrev pub asked_more : Settings → List Asking → (second : ℕ) → List Arrival → List Asking
asked_more s askings second spans =
    let granted = granted_on s.policies askings second spans in
    reverse (map (λ node. record { node = node; second = second; amount = amount_at s.policies spans node; granted = granted node }) (asked_nodes (policies_for s spans) granted spans)) ++ askings

-- the answers to the decisions of these episodes at the journal's end, one after the other
abbrev pub answers_in_turn : Settings → Journal → List Opening → List Asking → List (List Bool)
answers_in_turn s past [] askings = []
answers_in_turn s past (o ∷ rest) askings =
    let spans = spans_since past o in
    let second = clock past / 1000 in
    answers_to s askings second spans ∷ answers_in_turn s past rest (asked_more s askings second spans)

-- the askings with those of these decisions
abbrev pub asked_in_turn : Settings → Journal → List Opening → List Asking → List Asking
asked_in_turn s past [] askings = askings
asked_in_turn s past (o ∷ rest) askings = asked_in_turn s past rest (asked_more s askings (clock past / 1000) (spans_since past o))

-- the entry with the limiter's answers to the decisions at it
abbrev pub with_answers : Settings → Journal → List Asking → Entry → Entry
with_answers s before askings e = record e { answers = answers_in_turn s (e ∷ before) (due_now s (e ∷ before)) askings }

-- the askings with those of the decisions at the entry
abbrev pub askings_after : Settings → Journal → List Asking → Entry → List Asking
askings_after s before askings e = asked_in_turn s (e ∷ before) (due_now s (e ∷ before)) askings
