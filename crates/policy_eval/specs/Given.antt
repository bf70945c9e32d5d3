-- What policies mean where their askings get a list of answers in turn: the first asking gets the first answer.
use Rattle.std.specs.Prelude.{◌≡◌, ℕ, ◌+◌, Bool, true, false, ◌==◌, if◌then◌else◌, List, [], ◌∷◌, ◌++◌, length, map, Option}
use Rattle.policy_tree.specs.declared.policy.Join.{Join}
use Rattle.policy_tree.specs.Tree.{Policy, leaf, limiting, joined, Policies, no_more, one_more, nodes}
use Rattle.otlp_types.specs.declared.arrival.Arrival.{Arrival}
use Rattle.span_ids.specs.declared.outcome.Verdict.{Verdict}
use Rattle.policy_eval.specs.Amounts.{amount_at}
use Rattle.policy_eval.specs.declared.answer.Answer.{Answer as Answered}
use Rattle.policy_eval.specs.Meaning.{answer_of}
use Rattle.policy_eval.specs.Policies.{Answer, plain, joined_answer, leaf_answer, ends, verdict_of_answers, decider_of_answers}

-- the answer that the next asking gets: a missing one is a refusal
abbrev pub next_answer : (answers : List Bool) → Bool
next_answer [] = false
next_answer (granted ∷ later) = granted

-- the answers behind it
abbrev pub later_answers : (answers : List Bool) → List Bool
later_answers [] = []
later_answers (granted ∷ later) = later

-- ---- a policy, and the parts of one

abbrev mutual
  -- what the policy answers where its askings get these answers in turn
  pub answer_given : Policy → (answers : List Bool) → List Arrival → Answer
  answer_given (leaf l) answers spans = leaf_answer l spans
  answer_given (limiting limit) answers spans = plain (next_answer answers)
  answer_given (joined join parts) answers spans = joined_answer join (part_answers_given join parts answers spans)

  -- the answers of policies that are joined so, in order, up to one that ends them
  pub part_answers_given : Join → Policies → (answers : List Bool) → List Arrival → List Answer
  part_answers_given join no_more answers spans = []
  part_answers_given join (one_more p rest) answers spans = answer_given p answers spans ∷ (if ends join (answer_given p answers spans) then [] else part_answers_given join rest (left_by p answers spans) spans)

  -- the answers that the policy's askings leave
  pub left_by : Policy → (answers : List Bool) → List Arrival → List Bool
  left_by (leaf l) answers spans = answers
  left_by (limiting limit) answers spans = later_answers answers
  left_by (joined join parts) answers spans = left_by_parts join parts answers spans

  -- those that policies leave that are joined so
  pub left_by_parts : Join → Policies → (answers : List Bool) → List Arrival → List Bool
  left_by_parts join no_more answers spans = answers
  left_by_parts join (one_more p rest) answers spans = if ends join (answer_given p answers spans) then left_by p answers spans else left_by_parts join rest (left_by p answers spans) spans

abbrev mutual
  -- the limiter nodes that the policy with this number asks
  pub nodes_asked : Policy → (node : ℕ) → (answers : List Bool) → List Arrival → List ℕ
  nodes_asked (leaf l) node answers spans = []
  nodes_asked (limiting limit) node answers spans = node ∷ []
  nodes_asked (joined join parts) node answers spans = nodes_asked_in_turn join parts (node + 1) answers spans

  -- those that policies ask that are joined so
  pub nodes_asked_in_turn : Join → Policies → (node : ℕ) → (answers : List Bool) → List Arrival → List ℕ
  nodes_asked_in_turn join no_more node answers spans = []
  nodes_asked_in_turn join (one_more p rest) node answers spans = nodes_asked p node answers spans ++ (if ends join (answer_given p answers spans) then [] else nodes_asked_in_turn join rest (node + nodes p) (left_by p answers spans) spans)

-- ---- the top policies: each is asked, in order

-- their answers, in order
abbrev pub answers_given : Policies → (answers : List Bool) → List Arrival → List Answer
answers_given no_more answers spans = []
answers_given (one_more p rest) answers spans = answer_given p answers spans ∷ answers_given rest (left_by p answers spans) spans

-- the limiter nodes that they ask, in the walk's order
abbrev pub nodes_asked_at_top : Policies → (node : ℕ) → (answers : List Bool) → List Arrival → List ℕ
nodes_asked_at_top no_more node answers spans = []
nodes_asked_at_top (one_more p rest) node answers spans = nodes_asked p node answers spans ++ nodes_asked_at_top rest (node + nodes p) (left_by p answers spans) spans

-- the verdict of the policies on these spans, where the askings get these answers in turn
abbrev pub verdict_given : Policies → (answers : List Bool) → List Arrival → Verdict
verdict_given policies answers spans = verdict_of_answers (answers_given policies answers spans)

-- the place of the policy that decides, where the askings get these answers in turn
abbrev pub decider_given : Policies → (answers : List Bool) → List Arrival → Option ℕ
decider_given policies answers spans = decider_of_answers (answers_given policies answers spans)

-- what each of the policies tells, in order, where the askings get these answers in turn
abbrev pub told_given : Policies → (answers : List Bool) → List Arrival → List Answered
told_given policies answers spans = map answer_of (answers_given policies answers spans)

-- the limiter nodes that such a decision asks, in the walk's order
abbrev pub asked_given : Policies → (answers : List Bool) → List Arrival → List ℕ
asked_given policies answers spans = nodes_asked_at_top policies 0 answers spans

-- there is one answer for each asking
abbrev pub are_answered : Policies → (answers : List Bool) → List Arrival → Bool
are_answered policies answers spans = length (asked_given policies answers spans) == length answers

-- ---- a limiter that is asked

-- asked at these nodes in turn, in this second and at each node for its amount, a limiter gave these answers, and went
-- from one state to the other
abbrev pub Asked : {S : Type 0} → (asks : S → ℕ → ℕ → ℕ → Bool → S → Type 0) → (second : ℕ) → (amounts : ℕ → ℕ) → (nodes : List ℕ) → (answers : List Bool) → (old new : S) → Type 0
Asked asks second amounts [] [] old new = new ≡ old
Asked {S} asks second amounts (node ∷ nodes) (granted ∷ answers) old new = (between : S) × asks old node second (amounts node) granted between × Asked asks second amounts nodes answers between new
Asked asks second amounts _ _ old new = ⊥

-- the verdict is that of the policies with the limiter's answers to just their askings
abbrev pub Evaluates : {S : Type 0} → (asks : S → ℕ → ℕ → ℕ → Bool → S → Type 0) → Policies → (second : ℕ) → List Arrival → Verdict → (old new : S) → Type 0
Evaluates asks policies second spans verdict old new =
    (answers : List Bool) × (verdict ≡ verdict_given policies answers spans) × (are_answered policies answers spans ≡ true)
    × Asked asks second (amount_at policies spans) (asked_given policies answers spans) answers old new

-- and so is the policy that decides, with the same answers
abbrev pub EvaluatesWithDecider : {S : Type 0} → (asks : S → ℕ → ℕ → ℕ → Bool → S → Type 0) → Policies → (second : ℕ) → List Arrival → Verdict → (decider : Option ℕ) → (old new : S) → Type 0
EvaluatesWithDecider asks policies second spans verdict decider old new =
    (answers : List Bool) × (verdict ≡ verdict_given policies answers spans) × (are_answered policies answers spans ≡ true)
    × Asked asks second (amount_at policies spans) (asked_given policies answers spans) answers old new
    × (decider ≡ decider_given policies answers spans)

-- and so is what each policy answers
abbrev pub EvaluatesWithAnswers : {S : Type 0} → (asks : S → ℕ → ℕ → ℕ → Bool → S → Type 0) → Policies → (second : ℕ) → List Arrival → Verdict → (decider : Option ℕ) → List Answered → (old new : S) → Type 0
EvaluatesWithAnswers asks policies second spans verdict decider told old new =
    (answers : List Bool) × (verdict ≡ verdict_given policies answers spans) × (are_answered policies answers spans ≡ true)
    × Asked asks second (amount_at policies spans) (asked_given policies answers spans) answers old new
    × (decider ≡ decider_given policies answers spans)
    × (told ≡ told_given policies answers spans)
