-- What the walks of `evaluate` and `judge` know of one policy.
use Rattle.std.specs.Prelude.{◌≡◌, ℕ, Bool, List, [], ◌∷◌, ◌++◌}
use Rattle.policy_tree.specs.declared.limiter_node.LimiterNode.{LimiterNode}
use Rattle.policy_tree.specs.Tree.{Policy, limits}
use Rattle.rate_budget.specs.Rising.{numbers}
use Rattle.otlp_types.specs.declared.arrival.Arrival.{Arrival}
use Rattle.policy_eval.specs.Meaning.{answer_of}
use Rattle.policy_eval.specs.Amounts.{amount_of, AreAmounts}
use Rattle.policy_eval.specs.Given.{answer_given, left_by, nodes_asked}
use Rattle.policy_eval.specs.declared.answer.Answer.{Answer}

-- these answers are those to the policy's askings, whichever follow: it answers so, and asks these nodes
pub record Settles (p : Policy) (node : ℕ) (spans : List Arrival) (mine : List Bool) (nodes : List ℕ) (answer : Answer) : Type 0 where
  pub answers : (later : List Bool) → answer ≡ answer_of (answer_given p (mine ++ later) spans)
  pub leaves : (later : List Bool) → left_by p (mine ++ later) spans ≡ later
  pub asks : (later : List Bool) → nodes_asked p node (mine ++ later) spans ≡ nodes

-- asked at these limiter nodes in turn, in this second and each time for what its limit is of, a limiter gave these
-- answers, and went from one state to the other
abbrev pub AskedEach : {S : Type 0} → (asks : S → ℕ → ℕ → ℕ → Bool → S → Type 0) → (second : ℕ) → List Arrival → List LimiterNode → (answers : List Bool) → (old new : S) → Type 0
AskedEach asks second spans [] [] old new = new ≡ old
AskedEach {S} asks second spans (l ∷ nodes) (granted ∷ answers) old new = (between : S) × asks old l.node second (amount_of l.limit spans) granted between × AskedEach asks second spans nodes answers between new
AskedEach asks second spans _ _ old new = ⊥

-- the amounts of all these limiter nodes are those of the others
abbrev pub HasAmounts : List Arrival → (all others : List LimiterNode) → Type 0
HasAmounts spans all others = (amounts : ℕ → ℕ) → AreAmounts amounts spans all → AreAmounts amounts spans others

-- a limiter gave the answers to the policy's askings, at some of its limiter nodes
abbrev pub Answers : {S : Type 0} → (asks : S → ℕ → ℕ → ℕ → Bool → S → Type 0) → Policy → (node second : ℕ) → List Arrival → Answer → (old new : S) → Type 0
Answers asks p node second spans answer old new =
    (mine : List Bool) × (asked : List LimiterNode) × Settles p node spans mine (numbers asked) answer × AskedEach asks second spans asked mine old new × HasAmounts spans (limits p node) asked
