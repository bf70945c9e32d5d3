-- Worked rows of the faults of a policy's settings, and of limiter nodes, by computation.
-- No contract rests on it: it shows the definitions on worked cases.
use Rattle.std.specs.Prelude.{true, false, pos, [], ◌∷◌, map, ◌≡◌, refl}
use Rattle.policy_tree.specs.declared.limit.Limit.TheVariants.{Spans}
use Rattle.policy_tree.specs.Tree.{Policies, no_more, one_more, leaf, rate_limiting, joined, and_policy, limiters}
use Rattle.policy_tree.specs.declared.policy.Join.{Join}
use Rattle.policy_tree.specs.declared.policy.Join.TheVariants.{And, Not, Drop}
use Rattle.policy_tree.specs.declared.policy.Leaf.TheVariants.{AlwaysSample, Latency, StatusCode, Attribute, SpanCount, Probabilistic, TraceState, OttlCondition, TraceFlags}
use Rattle.ottl_text.specs.declared.expression.ErrorMode.TheVariants.{Ignore}
use Rattle.policy_tree.specs.declared.policy.Wanted.TheVariants.{StringAmong, StringMatching, NumberWithin, Boolean}
use Rattle.policy_tree.specs.Faults.{has_crossed_bounds, has_no_values}

-- latencies above 500 ms and up to 500, up to 499, from 500 on, and above 0 up to 1
pub latencies : map has_crossed_bounds (Latency 500 500 ∷ Latency 500 499 ∷ Latency 500 0 ∷ Latency 0 1 ∷ []) ≡ true ∷ true ∷ false ∷ false ∷ []
latencies = refl

-- counts from 3 up to 3, up to 2, and with no upper bound
pub counts : map has_crossed_bounds (SpanCount 3 3 ∷ SpanCount 3 2 ∷ SpanCount 3 0 ∷ []) ≡ false ∷ true ∷ false ∷ []
counts = refl

-- numbers from 1 to 1, and to 0
pub numbers : map has_crossed_bounds (Attribute [] (NumberWithin (pos 1) (pos 1)) false ∷ Attribute [] (NumberWithin (pos 1) (pos 0)) false ∷ []) ≡ false ∷ true ∷ []
numbers = refl

pub values : map has_no_values (StatusCode [] ∷ StatusCode (pos 2 ∷ []) ∷ Attribute [] (StringAmong []) false ∷ Attribute [] (StringAmong ([] ∷ [])) false ∷ Attribute [] (StringMatching []) false ∷ Attribute [] (StringMatching ([] ∷ [])) false ∷ Attribute [] (Boolean false) false ∷ AlwaysSample ∷ Probabilistic [] 0 ∷ []) ≡ true ∷ false ∷ true ∷ false ∷ true ∷ false ∷ false ∷ false ∷ false ∷ []
values = refl

-- of a trace state no value is looked for, one is, and of the flags none has to be
pub values_of_a_trace : map has_no_values (OttlCondition Ignore [] [] ∷ OttlCondition Ignore ([] ∷ []) [] ∷ OttlCondition Ignore [] ([] ∷ []) ∷ TraceState (107 ∷ []) [] ∷ TraceState [] ([] ∷ []) ∷ TraceFlags ∷ []) ≡ true ∷ false ∷ false ∷ true ∷ false ∷ false ∷ []
values_of_a_trace = refl

-- an `and` of a policy that always samples and a limit of 3; a limit of 4; and an `and` of an `and` of a limit of 5
abbrev limited : Policies
limited =
    one_more (and_policy (one_more (leaf AlwaysSample) (one_more (rate_limiting 3) no_more)))
    (one_more (rate_limiting 4)
    (one_more (and_policy (one_more (and_policy (one_more (rate_limiting 5) no_more)) no_more)) no_more))

pub limiter_nodes : limiters limited ≡ record { node = 2; limit = Spans 3 } ∷ record { node = 3; limit = Spans 4 } ∷ record { node = 6; limit = Spans 5 } ∷ []
limiter_nodes = refl

-- a limit inside a `not`, and one inside a `drop`, have numbers as in an `and`
pub limiter_nodes_inside : map (λ (join : Join). limiters (one_more (leaf AlwaysSample) (one_more (joined join (one_more (rate_limiting 7) no_more)) no_more))) (And ∷ Not ∷ Drop ∷ []) ≡ map (λ join. record { node = 2; limit = Spans 7 } ∷ []) (And ∷ Not ∷ Drop ∷ [])
limiter_nodes_inside = refl
