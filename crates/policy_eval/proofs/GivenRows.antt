-- Worked rows of the policies' meaning where their askings get a list of answers, by computation.
-- For the definitions that `evaluate` and `judge` cite.
use Rattle.std.specs.Prelude.{Bool, true, false, List, [], ◌∷◌, map, ◌≡◌, refl}
use Rattle.policy_tree.specs.Tree.{Policies, no_more, one_more, leaf, and_policy, rate_limiting}
use Rattle.policy_tree.specs.declared.policy.Leaf.TheVariants.{SpanCount}
use Rattle.policy_eval.specs.Given.{verdict_given, asked_given, are_answered}
use Rattle.policy_eval.proofs.Rows.{arrival, no_then_rate, slow_and_granted}
use Rattle.otlp_types.specs.declared.arrival.Arrival.{Arrival}
use Rattle.span_ids.specs.declared.outcome.Verdict.TheVariants.{Sampled as ForIt, NotSampled as AgainstIt}

-- one span of 500 ms
abbrev one : List Arrival
one = arrival 0 0 500000000 [] [] ∷ []

-- an `and` that stops before its limiter: the only answer is that of the top policy behind it
pub stops_before_the_limiter : asked_given no_then_rate (true ∷ []) one ≡ 3 ∷ []
stops_before_the_limiter = refl

pub answer_of_the_top_policy : map (λ (b : Bool). verdict_given no_then_rate (b ∷ []) one) (true ∷ false ∷ []) ≡ ForIt ∷ AgainstIt ∷ []
answer_of_the_top_policy = refl

-- too many answers, or too few
pub as_many_as_asked : map (λ (answers : List Bool). are_answered no_then_rate answers one) ([] ∷ (true ∷ []) ∷ (true ∷ false ∷ []) ∷ []) ≡ false ∷ true ∷ false ∷ []
as_many_as_asked = refl

-- two limiters in one `and`: the second is asked where the first grants
abbrev two_in_an_and : Policies
two_in_an_and = one_more (and_policy (one_more (rate_limiting 3) (one_more (rate_limiting 4) no_more))) no_more

pub second_after_a_grant : map (λ (answers : List Bool). asked_given two_in_an_and answers one) ([] ∷ (false ∷ []) ∷ (true ∷ []) ∷ (true ∷ false ∷ []) ∷ []) ≡ (1 ∷ []) ∷ (1 ∷ []) ∷ (1 ∷ 2 ∷ []) ∷ (1 ∷ 2 ∷ []) ∷ []
second_after_a_grant = refl

pub both_have_to_grant : map (λ (answers : List Bool). verdict_given two_in_an_and answers one) ([] ∷ (false ∷ []) ∷ (true ∷ []) ∷ (true ∷ false ∷ []) ∷ (true ∷ true ∷ []) ∷ []) ≡ AgainstIt ∷ AgainstIt ∷ AgainstIt ∷ AgainstIt ∷ ForIt ∷ []
both_have_to_grant = refl

-- two limiters at the top: the first answer is the first one's
abbrev slow_or_rate : Policies
slow_or_rate = one_more (and_policy (one_more (rate_limiting 3) (one_more (leaf (SpanCount 2 0)) no_more))) (one_more (rate_limiting 4) no_more)

pub each_gets_its_answer : map (λ (answers : List Bool). verdict_given slow_or_rate answers one) ((true ∷ false ∷ []) ∷ (false ∷ true ∷ []) ∷ (true ∷ []) ∷ []) ≡ AgainstIt ∷ ForIt ∷ AgainstIt ∷ []
each_gets_its_answer = refl

-- a missing answer is a refusal
pub missing_answer : verdict_given slow_and_granted [] one ≡ AgainstIt
missing_answer = refl

pub given_answer : verdict_given slow_and_granted (true ∷ []) one ≡ ForIt
given_answer = refl
