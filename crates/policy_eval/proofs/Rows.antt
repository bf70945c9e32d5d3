-- Worked rows of the policies' meaning, by computation.
-- No contract rests on it: it shows the definitions on worked cases.
use Rattle.std.specs.Prelude.{ℕ, Bool, true, false, pos, List, [], ◌∷◌, ◌++◌, map, codes, None, Some, ◌≡◌, refl}
use Rattle.otlp_types.proofs.Samples.{plain_record, plain_span}
use Rattle.policy_tree.specs.declared.policy.Join.{Join}
use Rattle.policy_tree.specs.declared.policy.Join.TheVariants.{And, Not, Drop, FirstMatch, Share}
use Rattle.policy_tree.specs.Tree.{Policy, Policies, no_more, one_more, leaf, joined, and_policy, rate_limiting}
use Rattle.policy_tree.specs.declared.policy.Leaf.{Leaf}
use Rattle.policy_tree.specs.declared.policy.Leaf.TheVariants.{AlwaysSample, Latency, StatusCode, Attribute, SpanCount, Probabilistic, TraceState, TraceFlags}
use Rattle.policy_tree.specs.declared.policy.Wanted.TheVariants.{StringAmong, StringMatching, NumberWithin, Boolean}
use Rattle.expression.proofs.Rows.{matches_on_literals}
use Rattle.policy_eval.specs.Probabilistic.{fnv_1a, threshold, trace_of, is_chosen}
use Rattle.policy_eval.specs.TraceState.{split_commas, trimmed, is_member}
use Rattle.policy_eval.specs.Policies.{sample, not_sample, inverted_sample, inverted_not_sample, dropped, leaf_answer, is_slow, is_within, answers, verdict, verdict_of_answers, asked_nodes}
use Rattle.otlp_types.specs.declared.arrival.Arrival.{Arrival}
use Rattle.otlp_types.specs.declared.value.AnyValue.{AnyValue}
use Rattle.otlp_types.specs.declared.value.AnyValue.TheVariants.{Str, Int, Bool as Truth}
use Rattle.otlp_types.specs.declared.value.KeyValue.{KeyValue}
use Rattle.span_ids.specs.declared.outcome.Verdict.TheVariants.{Sampled as ForIt, NotSampled as AgainstIt}

-- a span: its status code, start and end, its attributes and those of its resource
abbrev pub arrival : (code start end : ℕ) → (own of_resource : List KeyValue) → Arrival
arrival code start end own of_resource = record {
  key = record { conn = record { lane = 0; ordinal = 0 }; number = 0 };
  moment = 0;
  rec = record (plain_record None code start end) {
    resource = record { attributes = of_resource; dropped_attributes_count = 0 };
    span = record (plain_span None code start end) { attributes = own };
  };
}

abbrev errors : Policies
errors = one_more (leaf (StatusCode (pos 2 ∷ []))) no_more

abbrev always : Policies
always = one_more (leaf AlwaysSample) no_more

abbrev env : AnyValue → List KeyValue
env value = record { key = 101 ∷ 110 ∷ 118 ∷ []; value = value } ∷ []

abbrev dev : List ℕ
dev = 100 ∷ 101 ∷ 118 ∷ []

abbrev in_env : List ℕ → List Arrival
in_env value = arrival 0 0 0 (env (Str value)) [] ∷ []

-- an inverted match of `env` on `dev`
abbrev not_dev : Policy
not_dev = leaf (Attribute (101 ∷ 110 ∷ 118 ∷ []) (StringAmong (dev ∷ [])) true)

pub inverted_match_wins : verdict (one_more not_dev always) (λ n. true) (in_env dev) ≡ AgainstIt
inverted_match_wins = refl

pub and_with_inverted_part : verdict (one_more (and_policy (one_more (leaf AlwaysSample) (one_more not_dev no_more))) always) (λ n. true) (in_env dev) ≡ ForIt
and_with_inverted_part = refl

-- alone it samples by its inverted part, where that doesn't match, and not where it does
pub and_alone_with_inverted_part : map (λ (value : List ℕ). verdict (one_more (and_policy (one_more (leaf AlwaysSample) (one_more not_dev no_more))) no_more) (λ n. true) (in_env value)) ((112 ∷ []) ∷ dev ∷ []) ≡ ForIt ∷ AgainstIt ∷ []
and_alone_with_inverted_part = refl

pub inverted_match_alone : verdict (one_more not_dev no_more) (λ n. true) (in_env (112 ∷ [])) ≡ ForIt
inverted_match_alone = refl

pub inverted_match_beside_no_error : verdict (one_more not_dev errors) (λ n. true) (in_env (112 ∷ [])) ≡ AgainstIt
inverted_match_beside_no_error = refl

-- each pair of different answers
pub answers_by_rank : map verdict_of_answers ((sample ∷ not_sample ∷ []) ∷ (sample ∷ inverted_sample ∷ []) ∷ (sample ∷ inverted_not_sample ∷ []) ∷ (inverted_sample ∷ inverted_not_sample ∷ []) ∷ (inverted_sample ∷ not_sample ∷ []) ∷ (inverted_sample ∷ []) ∷ (not_sample ∷ []) ∷ []) ≡ ForIt ∷ ForIt ∷ AgainstIt ∷ AgainstIt ∷ AgainstIt ∷ ForIt ∷ AgainstIt ∷ []
answers_by_rank = refl

-- a drop beside each other answer, and before and behind a sample
pub drops_win : map verdict_of_answers ((dropped ∷ []) ∷ (dropped ∷ sample ∷ []) ∷ (sample ∷ dropped ∷ []) ∷ (inverted_sample ∷ dropped ∷ []) ∷ (dropped ∷ inverted_not_sample ∷ []) ∷ []) ≡ AgainstIt ∷ AgainstIt ∷ AgainstIt ∷ AgainstIt ∷ AgainstIt ∷ []
drops_win = refl

-- each that is made of one policy, which samples, and of one that doesn't
abbrev joined_to : Policy → Join → Policies
joined_to p join = one_more (joined join (one_more p no_more)) no_more

pub joined_answers : map (λ (join : Join). answers (joined_to (leaf AlwaysSample) join) 0 (λ n. true) (in_env dev)) (And ∷ Not ∷ Drop ∷ FirstMatch ∷ Share ∷ []) ≡ (sample ∷ []) ∷ (not_sample ∷ []) ∷ (dropped ∷ []) ∷ (sample ∷ []) ∷ (sample ∷ []) ∷ []
joined_answers = refl

pub joined_answers_of_none : map (λ (join : Join). answers (joined_to (leaf (SpanCount 2 0)) join) 0 (λ n. true) (in_env dev)) (And ∷ Not ∷ Drop ∷ FirstMatch ∷ Share ∷ []) ≡ (not_sample ∷ []) ∷ (sample ∷ []) ∷ (not_sample ∷ []) ∷ (not_sample ∷ []) ∷ (not_sample ∷ []) ∷ []
joined_answers_of_none = refl

-- a `not` of an inverted match, which is a plain answer; and a `drop` inside an `and`, which doesn't sample
pub not_of_an_inverted_match : map (λ (value : List ℕ). answers (joined_to not_dev Not) 0 (λ n. true) (in_env value)) ((112 ∷ []) ∷ dev ∷ []) ≡ (not_sample ∷ []) ∷ (sample ∷ []) ∷ []
not_of_an_inverted_match = refl

pub drop_inside_an_and : answers (joined_to (joined Drop (one_more (leaf AlwaysSample) no_more)) And) 0 (λ n. true) (in_env dev) ≡ not_sample ∷ []
drop_inside_an_and = refl

-- a `drop` of two policies: of one that samples and one that doesn't nothing is dropped, and the limiter behind isn't
-- asked
abbrev dropped_few : Policies
dropped_few = one_more (joined Drop (one_more (leaf (SpanCount 2 0)) (one_more (rate_limiting 3) no_more))) always

pub drop_of_two : (verdict dropped_few (λ n. true) (in_env dev) ≡ ForIt) × (asked_nodes dropped_few (λ n. true) (in_env dev) ≡ [])
drop_of_two = (refl, refl)

pub times_at_the_top : verdict (one_more (leaf (Latency 0 0)) no_more) (λ n. true) (arrival 0 18446744073709551615 0 [] [] ∷ []) ≡ ForIt
times_at_the_top = refl

pub times_at_the_top_with_an_upper_bound : verdict (one_more (leaf (Latency 0 1)) no_more) (λ n. true) (arrival 0 18446744073709551615 0 [] [] ∷ []) ≡ AgainstIt
times_at_the_top_with_an_upper_bound = refl

-- from the earliest start to the latest end, in whole milliseconds
pub latency_over_spans : map (λ (l : Leaf). leaf_answer l (arrival 0 1000000 2000000 [] [] ∷ arrival 0 3000000 500999999 [] [] ∷ [])) (Latency 499 0 ∷ Latency 500 0 ∷ []) ≡ sample ∷ not_sample ∷ []
latency_over_spans = refl

pub slow_bounds : map (is_slow 500 501) (500 ∷ 501 ∷ 502 ∷ []) ++ map (is_slow 500 0) (499 ∷ 500 ∷ []) ≡ false ∷ true ∷ false ∷ false ∷ true ∷ []
slow_bounds = refl

pub count_bounds : map (is_within 2 3) (1 ∷ 2 ∷ 3 ∷ 4 ∷ []) ++ map (is_within 2 0) (1 ∷ 9 ∷ []) ≡ false ∷ true ∷ true ∷ false ∷ false ∷ true ∷ []
count_bounds = refl

abbrev within : (least greatest : ℕ) → Leaf
within least greatest = Attribute (101 ∷ 110 ∷ 118 ∷ []) (NumberWithin (pos least) (pos greatest)) false

pub whole_bounds : map (λ (l : Leaf). leaf_answer l (arrival 0 0 0 (env (Int (pos 5))) [] ∷ [])) (within 5 5 ∷ within 6 9 ∷ within 0 4 ∷ []) ≡ sample ∷ not_sample ∷ not_sample ∷ []
whole_bounds = refl

pub of_the_resource : leaf_answer (within 5 5) (arrival 0 0 0 [] (env (Int (pos 5))) ∷ []) ≡ sample
of_the_resource = refl

pub of_another_kind : leaf_answer (within 5 5) (arrival 0 0 0 (env (Str (53 ∷ []))) [] ∷ []) ≡ not_sample
of_another_kind = refl

pub truths : map (λ (b : Bool). leaf_answer (Attribute (101 ∷ 110 ∷ 118 ∷ []) (Boolean b) false) (arrival 0 0 0 (env (Truth false)) [] ∷ [])) (false ∷ true ∷ []) ≡ sample ∷ not_sample ∷ []
truths = refl

-- an `and` asks no further after a no; a top policy is asked all the same
abbrev pub no_then_rate : Policies
no_then_rate = one_more (and_policy (one_more (leaf (SpanCount 2 0)) (one_more (rate_limiting 3) no_more))) (one_more (rate_limiting 4) no_more)

pub asks_no_further : asked_nodes no_then_rate (λ n. true) (arrival 0 0 0 [] [] ∷ []) ≡ 3 ∷ []
asks_no_further = refl

-- an `and` of a latency of 500 and a limit of 3: the limiter isn't asked for 499 ms
abbrev pub slow_and_granted : Policies
slow_and_granted = one_more (and_policy (one_more (leaf (Latency 500 0)) (one_more (rate_limiting 3) no_more))) no_more

pub and_of_latency_and_rate : map (λ (end : ℕ). asked_nodes slow_and_granted (λ n. true) (arrival 0 0 end [] [] ∷ [])) (499999999 ∷ 500000000 ∷ []) ≡ [] ∷ (2 ∷ []) ∷ []
and_of_latency_and_rate = refl

pub granted_or_not : map (λ (b : Bool). verdict slow_and_granted (λ n. b) (arrival 0 0 500000000 [] [] ∷ [])) (true ∷ false ∷ []) ≡ ForIt ∷ AgainstIt ∷ []
granted_or_not = refl

-- ---- what a leaf looks at

abbrev with_own : List KeyValue → Arrival
with_own own = arrival 0 0 0 own []

-- `env` is to be true: it is, it is not, and another key is
pub keys_of_attributes : map (λ (own : List KeyValue). leaf_answer (Attribute (101 ∷ 110 ∷ 118 ∷ []) (Boolean true) false) (with_own own ∷ [])) (env (Truth true) ∷ env (Truth false) ∷ (record { key = 101 ∷ []; value = Truth true } ∷ []) ∷ []) ≡ sample ∷ not_sample ∷ not_sample ∷ []
keys_of_attributes = refl

-- a status of 2, of 0 and of 1, where 2 or 0 is looked for; spans whose kind is 0
pub statuses : map (λ (code : ℕ). leaf_answer (StatusCode (pos 2 ∷ pos 0 ∷ [])) (arrival code 0 0 [] [] ∷ [])) (2 ∷ 0 ∷ 1 ∷ []) ≡ sample ∷ sample ∷ not_sample ∷ []
statuses = refl

-- ---- a percentage of all traces

-- published hashes: of no byte, of "a" and of "foobar"
pub hashes : map fnv_1a ([] ∷ codes "a" ∷ codes "foobar" ∷ []) ≡ 0xcbf29ce484222325 ∷ 0xaf63dc4c8601ec8c ∷ 0x85944171f73967e8 ∷ []
hashes = refl

-- of 0, 0.0001, 12.5, 33.3333, 99.9999 and 100 percent
pub thresholds : map threshold (0 ∷ 1 ∷ 125000 ∷ 333333 ∷ 999999 ∷ 1000000 ∷ []) ≡ 0 ∷ 18446744073709 ∷ 2305843009213693951 ∷ 6148908542321825968 ∷ 18446725626965477905 ∷ 18446744073709551615 ∷ []
thresholds = refl

-- a span of the trace 0102030405060708090a0b0c0d0e0f10
abbrev of_trace : List Arrival
of_trace = record (arrival 0 0 0 [] []) {
  rec = record (plain_record None 0 0 0) { span = plain_span (Some (record { trace = 1 ∷ 2 ∷ 3 ∷ 4 ∷ 5 ∷ 6 ∷ 7 ∷ 8 ∷ 9 ∷ 10 ∷ 11 ∷ 12 ∷ 13 ∷ 14 ∷ 15 ∷ 16 ∷ []; span = 17 ∷ []; parent = None })) 0 0 0 };
} ∷ []

-- its hash behind the salt by default is 15838989281584434349, and behind "other" 12173033247576588645
pub hash_of_a_trace : map (λ (salt : List ℕ). fnv_1a (salt ++ trace_of of_trace)) (codes "default-hash-seed" ∷ codes "other" ∷ []) ≡ 15838989281584434349 ∷ 12173033247576588645 ∷ []
hash_of_a_trace = refl

-- 85.8633 and 85.8634 percent, and 65.9901 and 65.9902
pub percentages : map (λ (p : ℕ). leaf_answer (Probabilistic (codes "default-hash-seed") p) of_trace) (858633 ∷ 858634 ∷ []) ++ map (λ (p : ℕ). leaf_answer (Probabilistic (codes "other") p) of_trace) (659901 ∷ 659902 ∷ []) ≡ not_sample ∷ sample ∷ not_sample ∷ sample ∷ []
unfolding is_chosen
percentages = refl

-- all and none
pub all_and_none : map (λ (p : ℕ). leaf_answer (Probabilistic (codes "other") p) of_trace) (1000000 ∷ 0 ∷ []) ≡ sample ∷ not_sample ∷ []
unfolding is_chosen
all_and_none = refl

-- ---- the trace state and the flags of a span

pub members_of_a_state : map split_commas ([] ∷ codes "a=1" ∷ codes "a=1, b=2" ∷ codes ",a" ∷ []) ≡ ([] ∷ []) ∷ (codes "a=1" ∷ []) ∷ (codes "a=1" ∷ codes " b=2" ∷ []) ∷ ([] ∷ codes "a" ∷ []) ∷ []
members_of_a_state = refl

pub blanks_around : map trimmed (codes " \ta=1 \t" ∷ codes "a = 1" ∷ codes "  " ∷ []) ≡ codes "a=1" ∷ codes "a = 1" ∷ [] ∷ []
unfolding trimmed
blanks_around = refl

-- of a key, another key, a longer one, without `=`, with a second `=`, and with nothing before it
pub members_by_their_key : map (is_member (codes "a") (codes "1" ∷ codes "b=1" ∷ [])) (codes "a=1" ∷ codes "b=1" ∷ codes "ab=1" ∷ codes "a" ∷ codes "a=b=1" ∷ codes "=1" ∷ []) ≡ true ∷ false ∷ false ∷ false ∷ true ∷ false ∷ []
members_by_their_key = refl

-- a span with this trace state and these flags
abbrev stated : (trace_state : List ℕ) → (flags : ℕ) → Arrival
stated trace_state flags = record (arrival 0 0 0 [] []) { rec = record (plain_record None 0 0 0) { span = record (plain_span None 0 0 0) { trace_state = trace_state; flags = flags } } }

-- of the second member of the second span, and no value that is longer
pub states : map (λ (value : List ℕ). leaf_answer (TraceState (codes "b") (codes "9" ∷ value ∷ [])) (stated [] 0 ∷ stated (codes "a=1 ,\tb=23") 0 ∷ [])) (codes "23" ∷ codes "2" ∷ []) ≡ sample ∷ not_sample ∷ []
unfolding trimmed
states = refl

-- the flags of the last of two spans: none, sampled, random, both, and one of the upper ones with and without
pub flags : map (λ (n : ℕ). leaf_answer TraceFlags (stated [] 2 ∷ stated [] n ∷ [])) (0 ∷ 1 ∷ 2 ∷ 3 ∷ 256 ∷ 4294967295 ∷ []) ≡ not_sample ∷ sample ∷ not_sample ∷ sample ∷ not_sample ∷ sample ∷ []
flags = refl

-- ---- regular expressions

-- one that is anchored at the start, one that isn't, where the value has it in the middle, and two of which the second
-- has a match
pub expressions_of_values : map (λ (texts : List (List ℕ)). leaf_answer (Attribute (codes "env") (StringMatching texts) false) (in_env (codes "/a/b"))) ((codes "^/b" ∷ []) ∷ (codes "/b" ∷ []) ∷ (codes "^b" ∷ codes "/b$" ∷ []) ∷ []) ≡ not_sample ∷ sample ∷ sample ∷ []
unfolding matches_on_literals
expressions_of_values = refl

-- inverted, and of a value that is no text
pub expressions_inverted : map (λ (value : AnyValue). leaf_answer (Attribute (codes "env") (StringMatching (codes "^/a" ∷ [])) true) (arrival 0 0 0 (env value) [] ∷ [])) (Str (codes "/a/b") ∷ Str (codes "a/b") ∷ Truth true ∷ []) ≡ inverted_not_sample ∷ inverted_sample ∷ inverted_sample ∷ []
unfolding matches_on_literals
expressions_inverted = refl
