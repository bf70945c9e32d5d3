-- Worked rows of the policy that decides, by computation.
-- For the definitions that `evaluate_with_decider` cites.
use Rattle.std.specs.Prelude.{Bool, true, false, List, [], ◌∷◌, map, Some, None, ◌≡◌, refl}
use Rattle.policy_tree.specs.declared.policy.Join.TheVariants.{Drop, FirstMatch}
use Rattle.policy_tree.specs.declared.policy.Leaf.TheVariants.{AlwaysSample, SpanCount}
use Rattle.policy_tree.specs.Tree.{Policy, Policies, no_more, one_more, leaf, joined, rate_limiting}
use Rattle.policy_eval.specs.Policies.{sample, not_sample, inverted_sample, inverted_not_sample, dropped, decider_of_answers}
use Rattle.policy_eval.specs.Given.{decider_given}
use Rattle.policy_eval.proofs.Rows.{arrival}
use Rattle.otlp_types.specs.declared.arrival.Arrival.{Arrival}

-- of several with the answer that decides, the first
pub the_first : decider_of_answers (not_sample ∷ sample ∷ not_sample ∷ sample ∷ []) ≡ Some 1
the_first = refl

-- a drop before all, an inverted not-sample before a sample, a sample before an inverted one
pub in_their_order : map decider_of_answers (
    (sample ∷ inverted_not_sample ∷ dropped ∷ dropped ∷ [])
    ∷ (sample ∷ inverted_sample ∷ not_sample ∷ inverted_not_sample ∷ inverted_not_sample ∷ [])
    ∷ (inverted_sample ∷ not_sample ∷ inverted_sample ∷ not_sample ∷ sample ∷ []) ∷ []) ≡ Some 2 ∷ Some 3 ∷ Some 4 ∷ []
in_their_order = refl

-- an inverted sample where no not-sample stands beside it
pub inverted_alone : map decider_of_answers ((inverted_sample ∷ inverted_sample ∷ []) ∷ (inverted_sample ∷ not_sample ∷ []) ∷ []) ≡ Some 0 ∷ None ∷ []
inverted_alone = refl

-- where nothing samples, and nothing is against it, none decides
pub none_decides : map decider_of_answers ([] ∷ (not_sample ∷ not_sample ∷ []) ∷ []) ≡ None ∷ None ∷ []
none_decides = refl

abbrev one : List Arrival
one = arrival 0 0 0 [] [] ∷ []

abbrev of : List Policy → Policies
of [] = no_more
of (p ∷ rest) = one_more p (of rest)

-- more spans than one
abbrev large : Policy
large = leaf (SpanCount 2 0)

abbrev always : Policy
always = leaf AlwaysSample

-- the places are those among the top policies, whatever is inside them: a limiter that refuses leaves it to the next
pub behind_a_limiter : map (λ (granted : Bool). decider_given (of (joined Drop (of (large ∷ always ∷ [])) ∷ rate_limiting 3 ∷ always ∷ [])) (granted ∷ []) one) (true ∷ false ∷ []) ≡ Some 1 ∷ Some 2 ∷ []
behind_a_limiter = refl

-- a first match is one policy
pub first_match_is_one : map (λ (ps : List Policy). decider_given (of (joined FirstMatch (of ps) ∷ [])) [] one) ((large ∷ always ∷ []) ∷ (large ∷ []) ∷ []) ≡ Some 0 ∷ None ∷ []
first_match_is_one = refl
