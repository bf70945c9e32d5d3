-- Worked rows of a shard, by computation: what each journal releases, counts and leaves.
-- No contract rests on it: it shows the definitions on worked cases.
use Rattle.std.specs.Prelude.{ℕ, Bool, true, false, pos, List, [], ◌∷◌, ◌++◌, map, reverse, length, take, Option, Some, None, ◌≡◌, refl}
use Rattle.std.specs.Fmt.{digits}
use Rattle.hex.specs.Hex.{encode_with}
use Rattle.json.specs.Print.{print_from, escape_byte}
use Rattle.otlp_types.proofs.Samples.{plain_record}
use Rattle.policy_tree.specs.Tree.{Policies, no_more, one_more, leaf, and_policy, rate_limiting}
use Rattle.policy_tree.specs.declared.policy.Leaf.TheVariants.{AlwaysSample, StatusCode, Latency}
use Rattle.journal_theory.specs.Journal.{Entry, Settings, Journal, Opening, notes, due_now, are_each_answered}
use Rattle.journal_theory.specs.Fate.{Fate, waits, is_released, is_counted, effect, output, under, fate}
use Rattle.trace_buffer.specs.Buffer.{Episode}
use Rattle.span_size.specs.Size.{size_of}
use Rattle.journal_theory.specs.Standing.{Standing, standing}
use Rattle.journal_theory.proofs.Samples.{plain_settings}
use Rattle.otlp_types.specs.declared.arrival.Arrival.{Arrival}
use Rattle.otlp_types.specs.declared.arrival.Item.{Item}
use Rattle.otlp_types.specs.declared.arrival.Item.TheVariants.{Span, Tick, End}
use Rattle.otlp_types.specs.declared.span.Ids.{Ids}
use Rattle.span_ids.specs.declared.outcome.Verdict.TheVariants.{Sampled, NotSampled}
use Rattle.span_ids.specs.declared.outcome.Reason.TheVariants.{NoMemory, Evicted, LateNotSampled, NotSampled as DecidedAgainst}

abbrev ids : (t n : ℕ) → Ids
ids t n = record { trace = t ∷ []; span = n ∷ []; parent = None }

-- a root of trace t: its number, its moment, its status code, its start and its end
abbrev arrival : (t n m code start end : ℕ) → Arrival
arrival t n m code start end = record { key = record { conn = record { lane = 0; ordinal = 0 }; number = n }; moment = m; rec = plain_record (Some (ids t n)) code start end }

abbrev marked : Item → (refused lost : Bool) → Entry
marked item refused lost = record { item = item; refused = refused; lost = lost; answers = [] }

abbrev took : Item → Entry
took item = marked item false false

abbrev span : (t n m : ℕ) → Entry
span t n m = took (Span (arrival t n m 0 0 0))

abbrev error : (t n m : ℕ) → Entry
error t n m = took (Span (arrival t n m 2 0 0))

abbrev marked_error : (t n m : ℕ) → (refused lost : Bool) → Entry
marked_error t n m refused lost = marked (Span (arrival t n m 2 0 0)) refused lost

abbrev tick : ℕ → Entry
tick m = took (Tick m)

-- a tick whose decisions get these answers of the limiter
abbrev tick_with : ℕ → List (List Bool) → Entry
tick_with m answers = record (tick m) { answers = answers }

abbrev errors : Policies
errors = one_more (leaf (StatusCode (pos 2 ∷ []))) no_more

abbrev always : Policies
always = one_more (leaf AlwaysSample) no_more

-- two senders, a wait of ten seconds
abbrev settings : Policies → (num_traces : Option ℕ) → (sampled non_sampled : ℕ) → Settings
settings policies num_traces sampled non_sampled = record (plain_settings policies) { decision_wait = 10000; num_traces = num_traces; sampled_cache_size = sampled; non_sampled_cache_size = non_sampled }

-- no limit, and no caches
abbrev plain : Settings
plain = settings errors None 0 0

abbrev closing : List Entry
closing = took (End 0) ∷ took (End 1) ∷ []

-- no limiter's answers for each of these decisions, where none stand with the item
abbrev pub answers_for : List (List Bool) → List Opening → List (List Bool)
answers_for [] due = map (λ o. []) due
answers_for (a ∷ later) due = a ∷ later

-- the journal, where each decision was given its answers: none, where none stand with the item
abbrev pub decided : Settings → Journal → Journal
unfolding notes
decided s [] = []
decided s (e ∷ before) = let past = decided s before in record e { answers = answers_for e.answers (due_now s (e ∷ past)) } ∷ past

-- the numbers of what was released, in order
abbrev released : Settings → List Entry → List ℕ
released s taken = map (λ (a : Arrival). a.key.number) (output s (decided s (reverse taken)))

-- how many were counted under want of memory, eviction, a decision against them, and late
abbrev counted : Settings → List Entry → List ℕ
counted s taken = let all = (effect s (decided s (reverse taken))).counted in length (under NoMemory all) ∷ length (under Evicted all) ∷ length (under DecidedAgainst all) ∷ length (under LateNotSampled all) ∷ []

-- ---- no limit, no caches

pub one_millisecond_early : released plain (error 1 0 1000 ∷ tick 10999 ∷ []) ≡ []
unfolding notes
one_millisecond_early = refl

pub error_span_is_kept : released plain (error 1 0 1000 ∷ tick 11000 ∷ []) ≡ 0 ∷ []
unfolding notes
error_span_is_kept = refl

pub late_spans_follow_sampled : released plain (error 1 0 1000 ∷ tick 11000 ∷ span 1 1 12000 ∷ span 1 2 13000 ∷ []) ≡ 0 ∷ 1 ∷ 2 ∷ []
unfolding notes
late_spans_follow_sampled = refl

abbrev back_items : List Entry
back_items = error 1 0 1000 ∷ error 2 1 1400 ∷ tick 11000 ∷ tick 5000 ∷ tick 11500 ∷ error 3 2 2000 ∷ tick 21499 ∷ tick 21500 ∷ []

-- after each of its ticks
pub moments_go_back : map (λ n. released plain (take n back_items)) (3 ∷ 4 ∷ 5 ∷ 7 ∷ 8 ∷ []) ≡ (0 ∷ []) ∷ (0 ∷ []) ∷ (0 ∷ 1 ∷ []) ∷ (0 ∷ 1 ∷ []) ∷ (0 ∷ 1 ∷ 2 ∷ []) ∷ []
unfolding notes
moments_go_back = refl

-- the spans of a trace in order of arrival, the traces in order of opening
abbrev two_traces : List Entry
two_traces = error 2 0 0 ∷ error 1 1 0 ∷ span 2 2 5 ∷ span 1 3 5 ∷ span 3 4 6 ∷ tick 20000 ∷ []

pub opening_then_arrival : (released plain two_traces ≡ 0 ∷ 2 ∷ 1 ∷ 3 ∷ []) × (counted plain two_traces ≡ 0 ∷ 0 ∷ 1 ∷ 0 ∷ [])
unfolding notes
opening_then_arrival = (refl, refl)

-- an error after the decision doesn't change it
pub late_against : counted plain (span 1 0 0 ∷ tick 10000 ∷ error 1 1 12000 ∷ closing) ≡ 0 ∷ 0 ∷ 1 ∷ 1 ∷ []
unfolding notes
late_against = refl

-- a refused span joins nothing, opens nothing and moves the clock: the trace opens at 7 by its second span
abbrev refused_items : List Entry
refused_items = marked_error 1 0 7 true false ∷ span 1 1 3 ∷ marked_error 1 2 5 true false ∷ tick 10006 ∷ []

pub refused_early : counted plain refused_items ≡ 2 ∷ 0 ∷ 0 ∷ 0 ∷ []
unfolding notes
refused_early = refl

pub refused_late : counted plain (refused_items ++ tick 10007 ∷ []) ≡ 2 ∷ 0 ∷ 1 ∷ 0 ∷ []
unfolding notes
refused_late = refl

-- one End of two, the same End again, and the End of no sender decide nothing
pub ends_of_some : released plain (error 1 0 0 ∷ took (End 0) ∷ took (End 0) ∷ took (End 2) ∷ []) ≡ []
unfolding notes
ends_of_some = refl

pub ends_of_all : released plain (error 1 0 0 ∷ took (End 0) ∷ took (End 0) ∷ took (End 2) ∷ took (End 1) ∷ []) ≡ 0 ∷ []
unfolding notes
ends_of_all = refl

-- the fate of a span, where it was taken after the first items
abbrev fate_after : (first later : List Entry) → (t n : ℕ) → Entry → Fate
fate_after first later t n e = fate plain (decided plain (reverse (first ++ e ∷ later))) (decided plain (reverse first)) e.refused (ids t n)

pub fates : fate_after [] [] 1 0 (error 1 0 0) ∷ fate_after [] (tick 10000 ∷ []) 1 0 (error 1 0 0) ∷ fate_after [] (tick 10000 ∷ []) 1 0 (span 1 0 0)
    ∷ fate_after (span 1 0 0 ∷ tick 10000 ∷ []) [] 1 1 (error 1 1 0) ∷ fate_after (error 1 0 0 ∷ tick 10000 ∷ []) [] 1 1 (span 1 1 0) ∷ fate_after [] [] 1 0 (marked_error 1 0 0 true false) ∷ []
    ≡ waits ∷ is_released ∷ is_counted DecidedAgainst ∷ is_counted LateNotSampled ∷ is_released ∷ is_counted NoMemory ∷ []
unfolding notes
fates = refl

-- ---- a limit and caches

abbrev evicting_items : List Entry
evicting_items = span 1 0 0 ∷ span 2 1 1 ∷ span 1 2 2 ∷ closing

pub full_buffer_evicts_undecided : (released (settings always (Some 1) 0 0) evicting_items ≡ 2 ∷ []) × (counted (settings always (Some 1) 0 0) evicting_items ≡ 0 ∷ 2 ∷ 0 ∷ 0 ∷ [])
unfolding notes
full_buffer_evicts_undecided = (refl, refl)

abbrev forgetting_items : List Entry
forgetting_items = error 1 0 0 ∷ tick 10000 ∷ error 2 1 10000 ∷ tick 20000 ∷ error 3 2 20000 ∷ tick 30000 ∷ span 1 3 30000 ∷ tick 40000 ∷ closing

pub cache_of_one_forgets : (released (settings errors (Some 1) 1 0) forgetting_items ≡ 0 ∷ 1 ∷ 2 ∷ []) × (counted (settings errors (Some 1) 1 0) forgetting_items ≡ 0 ∷ 0 ∷ 1 ∷ 0 ∷ [])
unfolding notes
cache_of_one_forgets = (refl, refl)

abbrev renewing_items : List Entry
renewing_items = error 1 0 0 ∷ tick 10000 ∷ error 2 1 10000 ∷ tick 20000 ∷ error 3 2 20000 ∷ span 1 3 20000 ∷ tick 30000 ∷ error 4 4 30000 ∷ span 1 5 30000 ∷ closing

pub late_span_renews : (released (settings errors (Some 1) 2 2) renewing_items ≡ 0 ∷ 1 ∷ 3 ∷ 2 ∷ 5 ∷ 4 ∷ []) × (counted (settings errors (Some 1) 2 2) renewing_items ≡ 0 ∷ 0 ∷ 0 ∷ 0 ∷ [])
unfolding notes
late_span_renews = (refl, refl)

abbrev no_cache_items : List Entry
no_cache_items = error 1 0 0 ∷ tick 10000 ∷ error 2 1 10000 ∷ span 1 2 15000 ∷ closing

pub no_cache_forgets : (released (settings errors (Some 1) 0 0) no_cache_items ≡ 0 ∷ []) × (counted (settings errors (Some 1) 0 0) no_cache_items ≡ 0 ∷ 1 ∷ 1 ∷ 0 ∷ [])
unfolding notes
no_cache_forgets = (refl, refl)

-- a lost put forgets its own decision alone: late spans of A are still sampled, B opens anew
pub lost_alone : released (settings errors (Some 1) 1 1) (error 1 0 0 ∷ tick 10000 ∷ error 2 1 10000 ∷ tick 20000 ∷ marked_error 3 2 20000 false true ∷ span 1 3 20000 ∷ span 2 4 20000 ∷ closing) ≡ 0 ∷ 1 ∷ 3 ∷ []
unfolding notes
lost_alone = refl

-- a late span that finds its trace in the buffer renews nothing: A stays in a cache of one
pub no_renewal_in_buffer : released (settings errors (Some 1) 1 1) (error 1 0 0 ∷ tick 10000 ∷ error 2 1 10000 ∷ tick 20000 ∷ span 2 2 20000 ∷ span 1 3 20000 ∷ []) ≡ 0 ∷ 1 ∷ 2 ∷ 3 ∷ []
unfolding notes
no_renewal_in_buffer = refl

-- a trace renewed twice takes one place: A stays in a cache of two
pub renewed_twice : released (settings errors (Some 1) 2 1) (error 1 0 0 ∷ tick 10000 ∷ error 2 1 10000 ∷ tick 20000 ∷ error 3 2 20000 ∷ span 2 3 20000 ∷ span 2 4 20000 ∷ span 1 5 20000 ∷ []) ≡ 0 ∷ 1 ∷ 3 ∷ 4 ∷ 5 ∷ []
unfolding notes
renewed_twice = refl

-- each verdict has a cache of its own: B, not sampled, doesn't put out A
abbrev two_caches_items : List Entry
two_caches_items = error 1 0 0 ∷ tick 10000 ∷ span 2 1 10000 ∷ tick 20000 ∷ error 3 2 20000 ∷ span 1 3 20000 ∷ error 2 4 20000 ∷ []

pub two_caches : (released (settings errors (Some 1) 1 1) two_caches_items ≡ 0 ∷ 3 ∷ []) × (counted (settings errors (Some 1) 1 1) two_caches_items ≡ 0 ∷ 0 ∷ 1 ∷ 1 ∷ [])
unfolding notes
two_caches = (refl, refl)

-- a trace forgotten and opened again is remembered by its new verdict
pub new_verdict : counted (settings errors (Some 1) 1 1) (error 1 0 0 ∷ tick 10000 ∷ error 2 1 10000 ∷ tick 20000 ∷ error 3 2 20000 ∷ tick 30000 ∷ span 1 3 30000 ∷ tick 40000 ∷ span 4 4 40000 ∷ error 1 5 40000 ∷ []) ≡ 0 ∷ 0 ∷ 1 ∷ 1 ∷ []
unfolding notes
new_verdict = refl

-- ---- a limiter

-- an `and` of a latency of 500 and at most 3 spans a second
abbrev slow_few : Policies
slow_few = one_more (and_policy (one_more (leaf (Latency 500 0)) (one_more (rate_limiting 3) no_more))) no_more

abbrev ending : (t n end : ℕ) → Entry
ending t n end = took (Span (arrival t n 1000 0 0 end))

abbrev slow_items : List Entry
slow_items = ending 1 0 0 ∷ ending 1 1 499999999 ∷ ending 2 2 500000000 ∷ ending 2 3 500000000 ∷ ending 3 4 500000000 ∷ tick_with 11000 ([] ∷ (true ∷ []) ∷ (true ∷ []) ∷ []) ∷ []

pub and_of_latency_and_rate : (released (settings slow_few None 0 0) slow_items ≡ 2 ∷ 3 ∷ 4 ∷ []) × (counted (settings slow_few None 0 0) slow_items ≡ 0 ∷ 0 ∷ 2 ∷ 0 ∷ [])
unfolding notes
and_of_latency_and_rate = (refl, refl)

abbrev few : Policies
few = one_more (rate_limiting 3) no_more

abbrev two_twos : List (List Bool) → List Entry
two_twos answers = span 1 0 0 ∷ span 1 1 0 ∷ span 2 2 0 ∷ span 2 3 0 ∷ tick_with 10000 answers ∷ []

-- each decision is given its own answers; one without any is still to be decided
pub limiter_in_turn : map (λ answers. released (settings few None 0 0) (two_twos answers)) (((true ∷ []) ∷ (false ∷ []) ∷ []) ∷ ((false ∷ []) ∷ (true ∷ []) ∷ []) ∷ ((true ∷ []) ∷ []) ∷ []) ≡ (0 ∷ 1 ∷ []) ∷ (2 ∷ 3 ∷ []) ∷ (0 ∷ 1 ∷ []) ∷ []
unfolding notes
limiter_in_turn = refl

-- one answer for each asking, and one list for each decision, or the journal isn't answered
abbrev pub answered_well : List (List Bool) → Bool
unfolding notes
answered_well answers =
    let past = two_twos [] in
    let s = settings few None 0 0 in
    are_each_answered s (reverse past) (due_now s (reverse past)) answers

pub as_many_as_asked : map answered_well (((true ∷ []) ∷ (false ∷ []) ∷ []) ∷ ((true ∷ []) ∷ []) ∷ ((true ∷ []) ∷ [] ∷ []) ∷ ((true ∷ []) ∷ (false ∷ true ∷ []) ∷ []) ∷ []) ≡ true ∷ false ∷ false ∷ false ∷ []
unfolding notes
as_many_as_asked = refl

-- ---- what a shard holds

-- with the first of three decisions dealt with
abbrev pub half : Standing
unfolding notes
half = standing (settings errors (Some 3) 2 2) (decided (settings errors (Some 3) 2 2) (reverse (error 3 0 0 ∷ tick 10000 ∷ error 1 1 10000 ∷ span 2 2 10000 ∷ error 4 3 10000 ∷ span 3 4 30000 ∷ tick 20000 ∷ []))) 1

pub half_spans : map (λ (e : Episode). map (λ (a : Arrival). a.key.number) e.spans) half.episodes ≡ [] ∷ (2 ∷ []) ∷ (3 ∷ []) ∷ []
unfolding notes
half_spans = refl

pub half_verdicts : map (λ (e : Episode). e.verdict) half.episodes ≡ Some Sampled ∷ None ∷ None ∷ []
unfolding notes
half_verdicts = refl

abbrev pub two_cached : Standing
unfolding notes
two_cached = standing (settings errors (Some 1) 2 2) (decided (settings errors (Some 1) 2 2) (reverse (error 1 0 0 ∷ tick 10000 ∷ error 2 1 10000 ∷ tick 20000 ∷ error 3 2 20000 ∷ span 1 3 20500 ∷ took (End 1) ∷ []))) 0

pub last_touched_first : two_cached.sampled ≡ (1 ∷ []) ∷ (2 ∷ []) ∷ []
unfolding notes
last_touched_first = refl

pub mark_and_clock : two_cached.mark ∷ two_cached.clock ∷ [] ≡ 20000 ∷ 20500 ∷ []
unfolding notes
mark_and_clock = refl

pub ends_by_number : two_cached.ends ≡ false ∷ true ∷ []
unfolding notes
ends_by_number = refl

-- ---- the clock at the first root

-- a span of this status that has a parent
abbrev child_with : (code t n m : ℕ) → Entry
child_with code t n m =
    let a = arrival t n m code 0 0 in
    took (Span (record a { rec = record a.rec { span = record a.rec.span { ids = Some (record (ids t n) { parent = Some (9 ∷ []) }) } } }))

abbrev pub child : (t n m : ℕ) → Entry
child t n m = child_with 0 t n m

abbrev pub roots : List Entry → List (Option ℕ)
unfolding notes
roots items = map (λ (e : Episode). e.first_root) (standing (settings errors None 0 0) (decided (settings errors None 0 0) (reverse items)) 0).episodes

-- a root before a tick, and the same root behind it: its own moment is the same, the clock at it is not
pub root_before_a_tick : roots (child 1 0 0 ∷ span 1 1 0 ∷ tick 5 ∷ []) ≡ Some 0 ∷ []
unfolding notes
root_before_a_tick = refl

pub root_behind_a_tick : roots (child 1 0 0 ∷ tick 5 ∷ span 1 1 0 ∷ []) ≡ Some 5 ∷ []
unfolding notes
root_behind_a_tick = refl

-- the first root counts; a trace of children has none, and a decided one keeps none
pub first_of_two_roots : roots (span 1 0 3 ∷ child 2 1 4 ∷ span 1 2 7 ∷ []) ≡ Some 3 ∷ None ∷ []
unfolding notes
first_of_two_roots = refl

pub decided_keeps_none : map (λ (e : Episode). e.first_root) (standing (settings errors None 0 0) (decided (settings errors None 0 0) (tick 10000 ∷ span 1 0 0 ∷ [])) 1).episodes ≡ None ∷ []
unfolding notes
decided_keeps_none = refl

-- ---- root wait

abbrev pub child_error : (t n m : ℕ) → Entry
child_error t n m = child_with 2 t n m

-- a root wait of two seconds
abbrev with_roots : Option ℕ → Settings
with_roots num_traces = record (settings errors num_traces 0 0) { root_wait = 2000 }

abbrev root_items : List Entry
root_items = child_error 1 0 0 ∷ error 2 1 1000 ∷ tick 3000 ∷ span 1 2 4000 ∷ tick 5999 ∷ tick 6000 ∷ []

-- before a tick, and after each
pub root_wait : map (λ n. released (with_roots None) (take n root_items)) (2 ∷ 3 ∷ 5 ∷ 6 ∷ []) ≡ [] ∷ (1 ∷ []) ∷ (1 ∷ []) ∷ (1 ∷ 0 ∷ 2 ∷ []) ∷ []
unfolding notes
root_wait = refl

abbrev root_evicts : List Entry
root_evicts = child_error 1 0 0 ∷ error 2 1 0 ∷ tick 2000 ∷ error 3 2 2000 ∷ closing

-- the oldest leaves undecided, although a later one is decided
pub root_wait_of_two_traces : (released (with_roots (Some 2)) root_evicts ≡ 1 ∷ 2 ∷ []) × (counted (with_roots (Some 2)) root_evicts ≡ 0 ∷ 1 ∷ 0 ∷ 0 ∷ [])
unfolding notes
root_wait_of_two_traces = (refl, refl)

-- ---- traces that are too big

-- such a span is {"spanId":"00","traceId":"01"}, and an error has a status beside them: "status":{"code":2}
pub sizes : size_of (arrival 1 0 0 0 0 0 ∷ []) ∷ size_of (arrival 1 1 0 2 0 0 ∷ []) ∷ size_of (arrival 1 0 0 0 0 0 ∷ arrival 1 1 0 2 0 0 ∷ []) ∷ [] ≡ 30 ∷ 50 ∷ 80 ∷ []
unfolding size_of print_from escape_byte encode_with digits
sizes = refl

-- all is sampled, but for traces of more bytes than these
abbrev up_to : (maximum : ℕ) → Settings
up_to maximum = record (settings always None 0 0) { maximum_trace_size = maximum }

abbrev two_sizes : List Entry
two_sizes = span 1 0 0 ∷ error 1 1 0 ∷ []

-- too big by its second span; at the bound it waits for its tick, and with no maximum it does too
pub too_big_by_second : map (λ maximum. counted (up_to maximum) two_sizes) (79 ∷ 80 ∷ 0 ∷ []) ≡ (0 ∷ 0 ∷ 2 ∷ 0 ∷ []) ∷ (0 ∷ 0 ∷ 0 ∷ 0 ∷ []) ∷ (0 ∷ 0 ∷ 0 ∷ 0 ∷ []) ∷ []
unfolding notes size_of print_from escape_byte encode_with digits
too_big_by_second = refl

pub sampled_at_the_bound : map (λ maximum. released (up_to maximum) (two_sizes ++ tick 10000 ∷ [])) (79 ∷ 80 ∷ 0 ∷ []) ≡ [] ∷ (0 ∷ 1 ∷ []) ∷ (0 ∷ 1 ∷ []) ∷ []
unfolding notes size_of print_from escape_byte encode_with digits
sampled_at_the_bound = refl

-- too big by its first span alone: a later one meets that decision, and another trace goes its own way
pub too_big_at_once : (counted (up_to 49) (error 1 0 0 ∷ []) ≡ 0 ∷ 0 ∷ 1 ∷ 0 ∷ []) × (counted (up_to 49) (error 1 0 0 ∷ span 1 1 0 ∷ span 2 2 0 ∷ tick 10000 ∷ []) ≡ 0 ∷ 0 ∷ 1 ∷ 1 ∷ [])
    × (released (up_to 49) (error 1 0 0 ∷ span 1 1 0 ∷ span 2 2 0 ∷ tick 10000 ∷ []) ≡ 2 ∷ [])
unfolding notes size_of print_from escape_byte encode_with digits
too_big_at_once = (refl, refl, refl)

-- a refused span adds no bytes
pub refused_adds_none : counted (up_to 79) (span 1 0 0 ∷ marked_error 1 1 0 true false ∷ []) ≡ 1 ∷ 0 ∷ 0 ∷ 0 ∷ []
unfolding notes size_of print_from escape_byte encode_with digits
refused_adds_none = refl

-- its cache remembers it once it left the buffer
pub too_big_remembered : (counted (record (settings always (Some 1) 0 1) { maximum_trace_size = 49 }) (error 1 0 0 ∷ span 2 1 0 ∷ span 1 2 0 ∷ []) ≡ 0 ∷ 0 ∷ 1 ∷ 1 ∷ [])
    × (counted (record (settings always (Some 1) 0 0) { maximum_trace_size = 49 }) (error 1 0 0 ∷ span 2 1 0 ∷ span 1 2 0 ∷ []) ≡ 0 ∷ 1 ∷ 1 ∷ 0 ∷ [])
unfolding notes size_of print_from escape_byte encode_with digits
too_big_remembered = (refl, refl)

-- what a shard holds of a trace that is too big, and of one that waits
abbrev pub big_and_small : Standing
unfolding notes size_of print_from escape_byte encode_with digits
big_and_small = standing (up_to 49) (decided (up_to 49) (reverse (span 2 1 0 ∷ error 1 0 0 ∷ []))) 1

pub held_of_too_big : (map (λ (e : Episode). e.verdict) big_and_small.episodes ≡ None ∷ Some NotSampled ∷ []) × (map (λ (e : Episode). e.maximum) big_and_small.episodes ≡ 49 ∷ 49 ∷ [])
unfolding notes size_of print_from escape_byte encode_with digits
held_of_too_big = (refl, refl)
