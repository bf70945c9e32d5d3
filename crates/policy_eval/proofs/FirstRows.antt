-- Worked rows of policies of which the first match decides, and of a composite, by computation.
-- For the definitions that `evaluate` and `judge` cite.
use Rattle.std.specs.Prelude.{ℕ, Bool, true, false, List, [], ◌∷◌, ◌==◌, map, codes, ◌≡◌, refl}
use Rattle.policy_tree.specs.declared.policy.Join.TheVariants.{Drop, FirstMatch, Share}
use Rattle.policy_tree.specs.declared.policy.Leaf.TheVariants.{AlwaysSample, Attribute, SpanCount}
use Rattle.policy_tree.specs.declared.policy.Wanted.TheVariants.{StringAmong}
use Rattle.policy_tree.specs.declared.limit.Limit.TheVariants.{Spans}
use Rattle.policy_tree.specs.Tree.{Policy, Policies, no_more, one_more, leaf, joined, rate_limiting, limiters}
use Rattle.policy_eval.specs.Policies.{sample, not_sample, dropped, answers, verdict, asked_nodes}
use Rattle.policy_eval.specs.Given.{verdict_given, asked_given}
use Rattle.policy_eval.proofs.Rows.{arrival}
use Rattle.otlp_types.specs.declared.arrival.Arrival.{Arrival}
use Rattle.span_ids.specs.declared.outcome.Verdict.{Verdict}
use Rattle.span_ids.specs.declared.outcome.Verdict.TheVariants.{Sampled as ForIt, NotSampled as AgainstIt}

abbrev one : List Arrival
one = arrival 0 0 0 [] [] ∷ []

abbrev two : List Arrival
two = arrival 0 0 0 [] [] ∷ arrival 0 0 0 [] [] ∷ []

abbrev always : Policy
always = leaf AlwaysSample

-- more spans than one
abbrev large : Policy
large = leaf (SpanCount 2 0)

-- an inverted match of an attribute that no span here has, and one that matches where it is asked for by a value that
-- stands there
abbrev not_dev : Policy
not_dev = leaf (Attribute (codes "env") (StringAmong (codes "dev" ∷ [])) true)

abbrev of : List Policy → Policies
of [] = no_more
of (p ∷ rest) = one_more p (of rest)

abbrev first_of : List Policy → Policies
first_of policies = of (joined FirstMatch (of policies) ∷ [])

-- the verdict of one span, and who is asked
abbrev Row : Type 0
Row = Verdict × List ℕ

abbrev row : (granted : Bool) → Policies → List Arrival → Row
row granted policies spans = (verdict policies (λ n. granted) spans, asked_nodes policies (λ n. granted) spans)

-- a limiter behind the first that samples isn't asked, and without a first match is
pub behind_a_sample : map (λ (ps : Policies). row true ps one) (first_of (always ∷ rate_limiting 3 ∷ []) ∷ of (always ∷ rate_limiting 3 ∷ []) ∷ []) ≡ (ForIt, []) ∷ (ForIt, 1 ∷ []) ∷ []
behind_a_sample = refl

-- the numbers are those of the walk: the first match is 0, what doesn't sample 1, the limiters 2 and 3
pub limiters_in_turn : map (λ (granted : Bool). row granted (first_of (large ∷ rate_limiting 3 ∷ rate_limiting 4 ∷ [])) one) (true ∷ false ∷ []) ≡ (ForIt, 2 ∷ []) ∷ (AgainstIt, 2 ∷ 3 ∷ []) ∷ []
limiters_in_turn = refl

-- what was answered before it decides as ever: a drop, and an inverted not-sample; behind it neither is asked
abbrev dropping : Policy
dropping = joined Drop (of (always ∷ []))

pub beside_a_drop : map (λ (ps : Policies). row true ps one) (first_of (dropping ∷ rate_limiting 3 ∷ []) ∷ first_of (always ∷ dropping ∷ []) ∷ []) ≡ (AgainstIt, []) ∷ (ForIt, []) ∷ []
beside_a_drop = refl

-- an inverted sample ends nothing, since what is behind it may still decide against
pub inverted_sample_goes_on : map (λ (granted : Bool). row granted (first_of (not_dev ∷ rate_limiting 3 ∷ [])) one) (true ∷ false ∷ []) ≡ (ForIt, 2 ∷ []) ∷ (AgainstIt, 2 ∷ []) ∷ []
inverted_sample_goes_on = refl

pub inverted_sample_alone : row true (first_of (not_dev ∷ [])) one ≡ (ForIt, [])
inverted_sample_alone = refl

-- ---- a composite: a first match of shares

abbrev share : Policy → (limit : ℕ) → Policy
share p limit = joined Share (of (p ∷ rate_limiting limit ∷ []))

abbrev composite : Policies
composite = first_of (share large 5 ∷ share always 4 ∷ [])

-- its limiters have the shares
pub shares : limiters composite ≡ record { node = 3; limit = Spans 5 } ∷ record { node = 6; limit = Spans 4 } ∷ []
shares = refl

-- a share: nothing where its part doesn't sample, else what its limiter says
pub share_answers : map (λ (granted : Bool). answers (of (share always 4 ∷ share large 5 ∷ [])) 0 (λ n. granted) one) (true ∷ false ∷ []) ≡ (sample ∷ not_sample ∷ []) ∷ (dropped ∷ not_sample ∷ []) ∷ []
share_answers = refl

-- of one span the first part doesn't sample, so the second decides
pub second_part : map (λ (granted : Bool). row granted composite one) (true ∷ false ∷ []) ≡ (ForIt, 6 ∷ []) ∷ (AgainstIt, 6 ∷ []) ∷ []
second_part = refl

-- of two spans the first decides: where its share is used up the second isn't asked, though it would sample
pub first_part : map {B = Row} (λ (granted : ℕ → Bool). (verdict composite granted two, asked_nodes composite granted two)) ((λ n. true) ∷ (λ n. n == 6) ∷ []) ≡ (ForIt, 3 ∷ []) ∷ (AgainstIt, 3 ∷ []) ∷ []
first_part = refl

-- no part samples
pub no_part : row true (first_of (share large 5 ∷ [])) one ≡ (AgainstIt, [])
no_part = refl

-- a limiter inside a part is asked before its share: nodes 2 and 3
pub limiter_in_a_part : map {B = Row} (λ (granted : List Bool). (verdict_given (first_of (share (rate_limiting 9) 5 ∷ share always 4 ∷ [])) granted one, asked_given (first_of (share (rate_limiting 9) 5 ∷ share always 4 ∷ [])) granted one)) ((true ∷ true ∷ []) ∷ (true ∷ false ∷ []) ∷ (false ∷ true ∷ []) ∷ [])
    ≡ (ForIt, 2 ∷ 3 ∷ []) ∷ (AgainstIt, 2 ∷ 3 ∷ []) ∷ (ForIt, 2 ∷ 6 ∷ []) ∷ []
limiter_in_a_part = refl
