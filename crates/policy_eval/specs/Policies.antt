-- What policies mean on the spans of a trace (tailsamplingprocessor README, "Policies").
use Rattle.std.specs.Prelude.{ℕ, ◌+◌, ◌-◌, ◌/◌, ◌%◌, min, max, ℤ, Bool, true, false, not, ◌&&◌, ◌||◌, if◌then◌else◌, ◌==◌, nat_lt, nat_le, List, [], ◌∷◌, ◌++◌, length, bytes_eq, int_le, Option, None, Ok, Err}
use Rattle.std.specs.List.{list_any, list_all, position_from}
use Rattle.std.specs.Ordering.{int_eq}
use Rattle.expression.specs.Expressions.{is_match}
use Rattle.ottl_condition.specs.Values.{Answer as Said}
use Rattle.ottl_lists.specs.Lists.{trace_meets}
use Rattle.policy_eval.specs.Probabilistic.{trace_of, is_chosen}
use Rattle.policy_eval.specs.TraceState.{has_member}
use Rattle.policy_tree.specs.declared.policy.Leaf.{Leaf}
use Rattle.policy_tree.specs.declared.policy.Leaf.TheVariants as leaf_is
use Rattle.policy_tree.specs.declared.policy.Wanted.{Wanted}
use Rattle.policy_tree.specs.declared.policy.Wanted.TheVariants.{StringAmong, StringMatching, NumberWithin, Boolean}
use Rattle.policy_tree.specs.declared.policy.Join.{Join}
use Rattle.policy_tree.specs.declared.policy.Join.TheVariants.{And, Not, Drop, FirstMatch, Share}
use Rattle.policy_tree.specs.Tree.{Policy, leaf, limiting, joined, Policies, no_more, one_more, nodes}
use Rattle.otlp_types.specs.declared.arrival.Arrival.{Arrival}
use Rattle.otlp_types.specs.declared.value.AnyValue.{AnyValue}
use Rattle.otlp_types.specs.declared.value.AnyValue.TheVariants.{Str, Int, Bool as Truth}
use Rattle.otlp_types.specs.declared.value.KeyValue.{KeyValue}
use Rattle.span_ids.specs.declared.outcome.Verdict.{Verdict}
use Rattle.span_ids.specs.declared.outcome.Verdict.TheVariants.{Sampled, NotSampled}

-- what a policy answers for the spans of a trace
pub data Answer : Type 0 where
  sample : Answer
  not_sample : Answer
  inverted_sample : Answer
  inverted_not_sample : Answer
  dropped : Answer

-- ---- leaves

-- the latest end of the spans, in nanoseconds
abbrev pub latest_end : List Arrival → ℕ
latest_end [] = 0
latest_end (a ∷ rest) = max a.rec.span.end_time_unix_nano (latest_end rest)

-- the least of a start and those of the spans
abbrev pub earliest_with : ℕ → List Arrival → ℕ
earliest_with start [] = start
earliest_with start (a ∷ rest) = min a.rec.span.start_time_unix_nano (earliest_with start rest)

-- the earliest start of the spans, in nanoseconds
abbrev pub earliest_start : List Arrival → ℕ
earliest_start [] = 0
earliest_start (a ∷ rest) = earliest_with a.rec.span.start_time_unix_nano rest

-- whole milliseconds from the earliest start to the latest end, 0 where that ends before
abbrev pub duration_ms : List Arrival → ℕ
duration_ms spans = (latest_end spans - earliest_start spans) / 1000000

-- a latency within its bounds: from the threshold on, or above it and up to the upper one
abbrev pub is_slow : (threshold upper : ℕ) → ℕ → Bool
is_slow threshold upper d = if upper == 0 then nat_le threshold d else nat_lt threshold d && nat_le d upper

-- a number within its bounds, both included
abbrev pub is_within : (least most : ℕ) → ℕ → Bool
is_within least most n = nat_le least n && (most == 0 || nat_le n most)

-- a text is one of the values
abbrev pub is_among : List (List ℕ) → List ℕ → Bool
is_among values text = list_any (λ v. bytes_eq v text) values

-- one of the expressions has a match in a text
abbrev pub is_matched : List (List ℕ) → List ℕ → Bool
is_matched expressions text = list_any (λ e. is_match e text) expressions

-- the value of an attribute is of the wanted kind, and as it is wanted
abbrev pub is_wanted : Wanted → AnyValue → Bool
is_wanted (StringAmong values) (Str t) = is_among values t
is_wanted (StringMatching expressions) (Str t) = is_matched expressions t
is_wanted (NumberWithin least greatest) (Int n) = int_le least n && int_le n greatest
is_wanted (Boolean true) (Truth b) = b
is_wanted (Boolean false) (Truth b) = not b
is_wanted _ _ = false

-- some attribute of that key has a wanted value
abbrev pub has_wanted : (key : List ℕ) → Wanted → List KeyValue → Bool
has_wanted key wanted attributes = list_any (λ (a : KeyValue). bytes_eq a.key key && is_wanted wanted a.value) attributes

-- some span, or its resource, has such an attribute
abbrev pub matches : (key : List ℕ) → Wanted → List Arrival → Bool
matches key wanted spans = list_any (λ (a : Arrival). has_wanted key wanted a.rec.span.attributes || has_wanted key wanted a.rec.resource.attributes) spans

-- some span has one of the status codes
abbrev pub has_status : List ℤ → List Arrival → Bool
has_status codes spans = list_any (λ (a : Arrival). list_any (λ c. int_eq c a.rec.span.status.code) codes) spans

-- the trace state of some span has a member of that key with one of the values
abbrev pub has_state : (key : List ℕ) → (values : List (List ℕ)) → List Arrival → Bool
has_state key values spans = list_any (λ (a : Arrival). has_member key values a.rec.span.trace_state) spans

-- some span was flagged as sampled: the lowest bit of its flags is set (trace.proto v1, Span.flags)
abbrev pub is_flagged : List Arrival → Bool
is_flagged spans = list_any (λ (a : Arrival). a.rec.span.flags % 2 == 1) spans

-- it is true, and no error
abbrev pub holds_so : Said Bool → Bool
holds_so (Ok b) = b
holds_so (Err e) = false

-- without `invert_match`
abbrev pub plain : Bool → Answer
plain holds = if holds then sample else not_sample

-- with `invert_match`: not to sample where it matches
abbrev pub inverted : Bool → Answer
inverted holds = if holds then inverted_not_sample else inverted_sample

-- the answer of a leaf
abbrev pub leaf_answer : Leaf → List Arrival → Answer
leaf_answer leaf_is.AlwaysSample spans = sample
leaf_answer (leaf_is.Latency threshold upper) spans = plain (is_slow threshold upper (duration_ms spans))
leaf_answer (leaf_is.StatusCode codes) spans = plain (has_status codes spans)
leaf_answer (leaf_is.Attribute key wanted invert) spans = if invert then inverted (matches key wanted spans) else plain (matches key wanted spans)
leaf_answer (leaf_is.SpanCount least most) spans = plain (is_within least most (length spans))
leaf_answer (leaf_is.Probabilistic salt ten_thousandths) spans = plain (is_chosen salt ten_thousandths (trace_of spans))
leaf_answer (leaf_is.TraceState key values) spans = plain (has_state key values spans)
leaf_answer (leaf_is.OttlCondition mode on_span on_event) spans = plain (holds_so (trace_meets mode on_span on_event spans))
leaf_answer leaf_is.TraceFlags spans = plain (is_flagged spans)

-- ---- several answers

-- two answers are the same
abbrev pub is_same_answer : Answer → Answer → Bool
is_same_answer sample sample = true
is_same_answer not_sample not_sample = true
is_same_answer inverted_sample inverted_sample = true
is_same_answer inverted_not_sample inverted_not_sample = true
is_same_answer dropped dropped = true
is_same_answer _ _ = false

-- one of the answers is this one
abbrev pub has_answer : Answer → List Answer → Bool
has_answer one all = list_any (is_same_answer one) all

-- a drop decides against, and then an inverted not-sample does; else a sample decides for; else an inverted sample with
-- no not-sample does
abbrev pub verdict_of_answers : List Answer → Verdict
verdict_of_answers all =
    if has_answer dropped all then NotSampled
    else if has_answer inverted_not_sample all then NotSampled
    else if has_answer sample all then Sampled
    else if has_answer inverted_sample all && not (has_answer not_sample all) then Sampled
    else NotSampled

-- the place of the first of the answers that is this one, from 0 on
abbrev pub first_place : Answer → List Answer → Option ℕ
first_place one all = position_from (is_same_answer one) 0 all

-- the place of the policy that decides: the first of those whose answer the verdict rests on; none where it rests on no
-- answer, since nothing samples
abbrev pub decider_of_answers : List Answer → Option ℕ
decider_of_answers all =
    if has_answer dropped all then first_place dropped all
    else if has_answer inverted_not_sample all then first_place inverted_not_sample all
    else if has_answer sample all then first_place sample all
    else if has_answer inverted_sample all && not (has_answer not_sample all) then first_place inverted_sample all
    else None

-- an answer for the trace
abbrev pub samples : Answer → Bool
samples sample = true
samples inverted_sample = true
samples not_sample = false
samples inverted_not_sample = false
samples dropped = false

-- an answer that decides whatever others are: a sample or a drop
abbrev pub decides : Answer → Bool
decides sample = true
decides dropped = true
decides not_sample = false
decides inverted_sample = false
decides inverted_not_sample = false

-- behind this answer no further policy is asked: of a first match behind one that decides, else behind one that isn't
-- for the trace
abbrev pub ends : Join → Answer → Bool
ends And one = not (samples one)
ends Not one = not (samples one)
ends Drop one = not (samples one)
ends FirstMatch one = decides one
ends Share one = not (samples one)

-- the answer for a trace with this verdict
abbrev pub verdict_answer : Verdict → Answer
verdict_answer Sampled = sample
verdict_answer NotSampled = not_sample

-- what is made of the answers of policies
abbrev pub joined_answer : Join → List Answer → Answer
joined_answer And all = plain (list_all samples all)
joined_answer Not all = plain (not (list_all samples all))
joined_answer Drop all = if list_all samples all then dropped else not_sample
joined_answer FirstMatch all = verdict_answer (verdict_of_answers all)
joined_answer Share all = if list_all samples all then sample else if list_any samples all then dropped else not_sample

-- ---- answers: `granted` is the limiter's answer at each node

abbrev mutual
  -- the answer of the policy with this number
  pub answer : Policy → (node : ℕ) → (granted : ℕ → Bool) → List Arrival → Answer
  answer (leaf l) node granted spans = leaf_answer l spans
  answer (limiting limit) node granted spans = plain (granted node)
  answer (joined join parts) node granted spans = joined_answer join (part_answers join parts (node + 1) granted spans)

  -- the answers of policies that are joined so, in order, up to one that ends them
  pub part_answers : Join → Policies → (node : ℕ) → (granted : ℕ → Bool) → List Arrival → List Answer
  part_answers join no_more node granted spans = []
  part_answers join (one_more p rest) node granted spans = answer p node granted spans ∷ (if ends join (answer p node granted spans) then [] else part_answers join rest (node + nodes p) granted spans)

abbrev mutual
  -- the limiter nodes that are asked where the policy is asked
  pub asked : Policy → (node : ℕ) → (granted : ℕ → Bool) → List Arrival → List ℕ
  asked (leaf l) node granted spans = []
  asked (limiting limit) node granted spans = node ∷ []
  asked (joined join parts) node granted spans = asked_in_turn join parts (node + 1) granted spans

  -- those that policies ask that are joined so
  pub asked_in_turn : Join → Policies → (node : ℕ) → (granted : ℕ → Bool) → List Arrival → List ℕ
  asked_in_turn join no_more node granted spans = []
  asked_in_turn join (one_more p rest) node granted spans = asked p node granted spans ++ (if ends join (answer p node granted spans) then [] else asked_in_turn join rest (node + nodes p) granted spans)

-- ---- the top policies: each is asked, in order

-- the answers of the top policies, in order
abbrev pub answers : Policies → (node : ℕ) → (granted : ℕ → Bool) → List Arrival → List Answer
answers no_more node granted spans = []
answers (one_more p rest) node granted spans = answer p node granted spans ∷ answers rest (node + nodes p) granted spans

-- the limiter nodes that they ask, in the walk's order
abbrev pub asked_at_top : Policies → (node : ℕ) → (granted : ℕ → Bool) → List Arrival → List ℕ
asked_at_top no_more node granted spans = []
asked_at_top (one_more p rest) node granted spans = asked p node granted spans ++ asked_at_top rest (node + nodes p) granted spans

-- the verdict of the policies on these spans, where the limiter answers so
abbrev pub verdict : Policies → (granted : ℕ → Bool) → List Arrival → Verdict
verdict policies granted spans = verdict_of_answers (answers policies 0 granted spans)

-- the limiter nodes that such a decision asks, in the walk's order
abbrev pub asked_nodes : Policies → (granted : ℕ → Bool) → List Arrival → List ℕ
asked_nodes policies granted spans = asked_at_top policies 0 granted spans
