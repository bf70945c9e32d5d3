-- Worked runs of the core: where each step is enabled and what it counts, and one span from its receipt to the closed
-- world. No contract rests on it: it shows the definitions on worked cases.
use Rattle.std.specs.Prelude.{◌≡◌, ℕ, true, false, List, [], ◌∷◌, ◌++◌, map, Some, None, option_map, refl}
use Rattle.std.specs.Fmt.{digits}
use Rattle.hex.specs.Hex.{encode_with}
use Rattle.json.specs.Print.{print_from, escape_byte}
use Rattle.span_size.specs.Size.{size_of}
use Rattle.journal_theory.specs.Journal.{notes}
use Rattle.otlp_types.specs.declared.arrival.Record.{Record}
use Rattle.span_ids.specs.declared.ids.TraceId.{TraceId}
use Rattle.span_ids.specs.declared.outcome.Reason.TheVariants.{InvalidId, QueueFull, NoMemory, ExporterDown, Evicted, NotSampled, LateNotSampled}
use Rattle.span_ids.specs.Route.{shard_of}
use Rattle.span_sink.specs.Manners.{may_refuse}
use Rattle.world_theory.specs.World.{CoreConfig}
use Rattle.world_theory.specs.Step.{Step, receive, route, refuse, take, tick, close, end, decide, ship, pull, hand, fail, drop_batch, run}
use Rattle.world_theory.specs.Places.{places, buffered, counted_under, queued, unshipped}
use Rattle.world_theory.proofs.Samples.{always, errors, configured, error, plain, invalid, key, send, is_enabled_after, numbers_under, handed_numbers, is_closed, of_size}

-- ---- one span through the world

abbrev first_config : CoreConfig
first_config = configured always None 0 0

abbrev one_span : List Step
one_span = receive 0 0 0 (plain 1 ∷ []) ∷ route 0 0 ∷ take 0 false false ∷ tick 0 10 ∷ decide 0 [] ∷ ship 0 ∷ pull ∷ hand ∷ close 0 ∷ end 0 0 ∷ end 0 1 ∷ []

pub one_span_through_the_world : option_map handed_numbers (run first_config 1 1 one_span) ≡ Some ((0 ∷ []) ∷ [])
unfolding notes
one_span_through_the_world = refl

pub is_closed_at_last : option_map (is_closed first_config) (run first_config 1 1 one_span) ≡ Some true
unfolding notes
is_closed_at_last = refl

-- a second tick isn't enabled while an episode is due
pub second_tick_while_due : is_enabled_after first_config (receive 0 0 0 (plain 1 ∷ []) ∷ route 0 0 ∷ take 0 false false ∷ tick 0 10 ∷ []) (tick 0 10) ≡ Some false
unfolding notes
second_tick_while_due = refl

-- every step that this world has words for, but `fail`
abbrev others : List Step
others = receive 0 0 0 [] ∷ receive 0 1 7 (plain 1 ∷ []) ∷ route 0 0 ∷ refuse 0 0 ∷ take 0 false false ∷ take 0 true false ∷ take 0 false true ∷ tick 0 20 ∷ close 0 ∷ end 0 0 ∷ end 0 1 ∷ end 0 2 ∷ decide 0 [] ∷ ship 0 ∷ pull ∷ hand ∷ drop_batch NoMemory ∷ drop_batch ExporterDown ∷ []

pub only_fail_at_last : map (is_enabled_after first_config one_span) others ++ is_enabled_after first_config one_span fail ∷ []
    ≡ map (λ s. Some false) others ++ Some true ∷ []
unfolding notes
only_fail_at_last = refl

-- the last digits of two trace ids
abbrev ends_with : (b c : ℕ) → TraceId
ends_with b c = 0 ∷ 0 ∷ 0 ∷ 0 ∷ 0 ∷ 0 ∷ 0 ∷ 0 ∷ 0x69 ∷ 0xb6 ∷ 0x33 ∷ 0x81 ∷ 0x3f ∷ 0xc6 ∷ b ∷ c ∷ []

pub routes : map (λ (n : ℕ). shard_of (ends_with 0x0c n) 2) (0x0c ∷ 0x0d ∷ []) ++ map (λ (n : ℕ). shard_of (ends_with 0x0c n) 3) (0x0c ∷ 0x0d ∷ []) ≡ 0 ∷ 1 ∷ 2 ∷ 0 ∷ []
routes = refl

-- ---- lanes

abbrev of_one : CoreConfig
of_one = configured errors (Some 1) 1 1

-- numbers count the spans with invalid ids, each connection by itself
pub numbers : numbers_under InvalidId (run of_one 1 1 (receive 0 0 0 (error 1 ∷ invalid ∷ []) ∷ receive 0 1 0 (invalid ∷ []) ∷ receive 0 0 5 (invalid ∷ plain 2 ∷ []) ∷ [])) ≡ Some (1 ∷ 0 ∷ 2 ∷ [])
unfolding notes
numbers = refl

pub receive_after_close : is_enabled_after of_one (close 0 ∷ []) (receive 0 0 0 []) ≡ Some false
unfolding notes
receive_after_close = refl

pub no_such_lane : is_enabled_after of_one [] (receive 1 0 0 []) ≡ Some false
unfolding notes
no_such_lane = refl

pub close_while_unrouted : is_enabled_after of_one (receive 0 0 0 (error 1 ∷ []) ∷ []) (close 0) ≡ Some true
unfolding notes
close_while_unrouted = refl

pub route_after_close : is_enabled_after of_one (receive 0 0 0 (error 1 ∷ []) ∷ close 0 ∷ []) (route 0 0) ≡ Some true
unfolding notes
route_after_close = refl

pub refuse_after_close : is_enabled_after of_one (receive 0 0 0 (error 1 ∷ []) ∷ close 0 ∷ []) (refuse 0 0) ≡ Some true
unfolding notes
refuse_after_close = refl

pub close_twice : is_enabled_after of_one (close 0 ∷ []) (close 0) ≡ Some false
unfolding notes
close_twice = refl

-- the first span for that shard, though another stands before it: of two shards, trace 1 goes to 1 and trace 2 to 0
pub refuse_first_for_shard : numbers_under QueueFull (run of_one 1 2 (receive 0 0 0 (error 1 ∷ error 2 ∷ error 4 ∷ []) ∷ refuse 0 0 ∷ [])) ≡ Some (1 ∷ [])
unfolding notes
refuse_first_for_shard = refl

pub route_first_for_shard : option_map (λ w. places of_one w (key 1)) (run of_one 1 2 (receive 0 0 0 (error 1 ∷ error 2 ∷ error 4 ∷ []) ∷ route 0 0 ∷ [])) ≡ Some (queued 0 ∷ [])
unfolding notes
route_first_for_shard = refl

pub route_nothing : is_enabled_after of_one [] (route 0 0) ≡ Some false
unfolding notes
route_nothing = refl

pub no_such_shard : is_enabled_after of_one (receive 0 0 0 (error 1 ∷ []) ∷ []) (route 0 1) ≡ Some false
unfolding notes
no_such_shard = refl

-- ---- taking, and its marks

-- a sampled episode in the buffer of one, then this span in the queue
abbrev sampled_then : Record → List Step
sampled_then span = send (error 1) ++ take 0 false false ∷ tick 0 10 ∷ decide 0 [] ∷ send span

-- no memory is taken for a late span
pub late_span : map (is_enabled_after of_one (sampled_then (plain 1))) (take 0 true false ∷ take 0 false true ∷ take 0 false false ∷ []) ≡ Some false ∷ Some false ∷ Some true ∷ []
unfolding notes
late_span = refl

-- a span of another trace evicts the episode: its put may be lost, but not where the span is refused too
pub evicting_span : map (is_enabled_after of_one (sampled_then (plain 2))) (take 0 false true ∷ take 0 true true ∷ []) ≡ Some true ∷ Some false ∷ []
unfolding notes
evicting_span = refl

pub lost_with_cache_off : is_enabled_after (configured errors (Some 1) 0 1) (sampled_then (plain 2)) (take 0 false true) ≡ Some false
unfolding notes
lost_with_cache_off = refl

pub lost_with_room : is_enabled_after (configured errors (Some 2) 1 1) (sampled_then (plain 2)) (take 0 false true) ≡ Some false
unfolding notes
lost_with_room = refl

pub lost_undecided : is_enabled_after of_one (send (error 1) ++ take 0 false false ∷ send (plain 2)) (take 0 false true) ≡ Some false
unfolding notes
lost_undecided = refl

pub refused_opening : numbers_under NoMemory (run of_one 1 1 (send (error 1) ++ take 0 true false ∷ [])) ≡ Some (0 ∷ [])
unfolding notes
refused_opening = refl

pub take_while_due : is_enabled_after of_one (send (error 1) ++ take 0 false false ∷ send (plain 2) ++ tick 0 10 ∷ []) (take 0 false false) ≡ Some false
unfolding notes
take_while_due = refl

pub take_after_close : is_enabled_after of_one (send (error 1) ++ close 0 ∷ []) (take 0 false false) ≡ Some true
unfolding notes
take_after_close = refl

pub take_nothing : is_enabled_after of_one [] (take 0 false false) ≡ Some false
unfolding notes
take_nothing = refl

-- the buffer of one is full: the first trace leaves it undecided
abbrev full_buffer : List Step
full_buffer = receive 0 0 0 (error 1 ∷ error 2 ∷ []) ∷ route 0 0 ∷ route 0 0 ∷ take 0 false false ∷ take 0 false false ∷ []

pub full_buffer_evicts_undecided : option_map (λ w. places of_one w (key 0) ++ places of_one w (key 1)) (run of_one 1 1 full_buffer) ≡ Some (counted_under Evicted ∷ buffered 0 ∷ [])
unfolding notes
full_buffer_evicts_undecided = refl

-- ---- ends

pub end_before_close : is_enabled_after of_one [] (end 0 0) ≡ Some false
unfolding notes
end_before_close = refl

pub end_while_unrouted : is_enabled_after of_one (receive 0 0 0 (error 1 ∷ []) ∷ close 0 ∷ []) (end 0 0) ≡ Some false
unfolding notes
end_while_unrouted = refl

pub end_while_queued : is_enabled_after of_one (send (error 1) ++ close 0 ∷ []) (end 0 0) ≡ Some false
unfolding notes
end_while_queued = refl

pub end_while_due : is_enabled_after of_one (send (error 1) ++ take 0 false false ∷ tick 0 10 ∷ close 0 ∷ []) (end 0 0) ≡ Some false
unfolding notes
end_while_due = refl

pub end_twice : is_enabled_after of_one (close 0 ∷ end 0 0 ∷ []) (end 0 0) ≡ Some false
unfolding notes
end_twice = refl

pub end_of_the_ticker : is_enabled_after of_one [] (end 0 1) ≡ Some true
unfolding notes
end_of_the_ticker = refl

pub end_of_nobody : is_enabled_after of_one [] (end 0 2) ≡ Some false
unfolding notes
end_of_nobody = refl

pub tick_after_close : is_enabled_after of_one (close 0 ∷ end 0 0 ∷ []) (tick 0 5) ≡ Some true
unfolding notes
tick_after_close = refl

pub tick_after_the_tickers_end : is_enabled_after of_one (end 0 1 ∷ []) (tick 0 5) ≡ Some false
unfolding notes
tick_after_the_tickers_end = refl

-- ---- the exporter

-- two spans of one trace are released, and the first is in the batch of one
abbrev batched : List Step
batched = receive 0 0 0 (error 1 ∷ error 1 ∷ []) ∷ route 0 0 ∷ route 0 0 ∷ take 0 false false ∷ take 0 false false ∷ tick 0 10 ∷ decide 0 [] ∷ ship 0 ∷ ship 0 ∷ pull ∷ []

-- a span is released and exported, and nothing is pulled
abbrev exported : List Step
exported = send (error 1) ++ take 0 false false ∷ tick 0 10 ∷ decide 0 [] ∷ ship 0 ∷ []

pub pull_while_down : is_enabled_after of_one (exported ++ fail ∷ []) pull ≡ Some true
unfolding notes
pull_while_down = refl

pub drop_batch_for_memory_while_down : is_enabled_after of_one (batched ++ fail ∷ []) (drop_batch NoMemory) ≡ Some true
unfolding notes
drop_batch_for_memory_while_down = refl

pub fail_while_batched : is_enabled_after of_one batched fail ≡ Some true
unfolding notes
fail_while_batched = refl

pub decide_nothing : is_enabled_after of_one batched (decide 0 []) ≡ Some false
unfolding notes
decide_nothing = refl

pub ship_nothing : is_enabled_after of_one batched (ship 0) ≡ Some false
unfolding notes
ship_nothing = refl

pub pull_when_full : is_enabled_after of_one batched pull ≡ Some false
unfolding notes
pull_when_full = refl

pub pull_nothing : is_enabled_after of_one [] pull ≡ Some false
unfolding notes
pull_nothing = refl

pub hand_nothing : is_enabled_after of_one [] hand ≡ Some false
unfolding notes
hand_nothing = refl

pub hand_while_down : is_enabled_after of_one (batched ++ fail ∷ []) hand ≡ Some false
unfolding notes
hand_while_down = refl

pub fail_twice : is_enabled_after of_one (fail ∷ []) fail ≡ Some false
unfolding notes
fail_twice = refl

pub drop_batch_nothing : is_enabled_after of_one [] (drop_batch NoMemory) ≡ Some false
unfolding notes
drop_batch_nothing = refl

pub drop_batch_for_memory : numbers_under NoMemory (run of_one 1 1 (batched ++ drop_batch NoMemory ∷ [])) ≡ Some (0 ∷ [])
unfolding notes
drop_batch_for_memory = refl

pub drop_batch_while_up : is_enabled_after of_one batched (drop_batch ExporterDown) ≡ Some false
unfolding notes
drop_batch_while_up = refl

pub drop_batch_for_another_reason : is_enabled_after of_one (batched ++ fail ∷ []) (drop_batch Evicted) ≡ Some false
unfolding notes
drop_batch_for_another_reason = refl

pub drop_batch_while_down : numbers_under ExporterDown (run of_one 1 1 (batched ++ fail ∷ drop_batch ExporterDown ∷ [])) ≡ Some (0 ∷ [])
unfolding notes
drop_batch_while_down = refl

-- where the destination may refuse a batch, one is given up while it is up, and the next one is handed over
abbrev refusing : CoreConfig
refusing = record of_one { manner = may_refuse }

pub drop_batch_refused : numbers_under ExporterDown (run refusing 1 1 (batched ++ drop_batch ExporterDown ∷ [])) ≡ Some (0 ∷ [])
unfolding notes
drop_batch_refused = refl

pub hand_behind_a_refusal : is_enabled_after refusing (batched ++ drop_batch ExporterDown ∷ pull ∷ []) hand ≡ Some true
unfolding notes
hand_behind_a_refusal = refl

-- ---- order

abbrev of_two : CoreConfig
of_two = record (configured always (Some 1) 1 1) { batch_size = 2 }

-- two requests of one trace: its spans keep their order from the lane to the batch
pub batch_of_two : option_map handed_numbers (run of_two 1 1 (receive 0 0 0 (plain 1 ∷ []) ∷ receive 0 0 0 (plain 1 ∷ []) ∷ route 0 0 ∷ route 0 0 ∷ take 0 false false ∷ take 0 false false ∷ tick 0 10 ∷ decide 0 [] ∷ ship 0 ∷ ship 0 ∷ pull ∷ pull ∷ hand ∷ [])) ≡ Some ((0 ∷ 1 ∷ []) ∷ [])
unfolding notes
batch_of_two = refl

-- while a decision is still to be dealt with, its spans are in the buffer
pub due_stays_buffered : option_map (λ w. places of_two w (key 0)) (run of_two 1 1 (send (plain 1) ++ take 0 false false ∷ tick 0 10 ∷ [])) ≡ Some (buffered 0 ∷ [])
unfolding notes
due_stays_buffered = refl

-- a released span is unshipped, then exported
pub decided_is_unshipped : option_map (λ w. places of_two w (key 0)) (run of_two 1 1 (send (plain 1) ++ take 0 false false ∷ tick 0 10 ∷ decide 0 [] ∷ [])) ≡ Some (unshipped 0 ∷ [])
unfolding notes
decided_is_unshipped = refl

-- ---- too big

-- the text of a span without an error is {"spanId":"01","traceId":"00000000000000000000000000000001"}: 60 bytes; two
-- are too big
abbrev too_big : CoreConfig
too_big = of_size 119 (configured always None 0 0)

abbrev three_spans : List Step
three_spans = receive 0 0 0 (plain 1 ∷ plain 1 ∷ plain 1 ∷ []) ∷ route 0 0 ∷ route 0 0 ∷ route 0 0 ∷ take 0 false false ∷ take 0 false false ∷ decide 0 [] ∷ take 0 false false ∷ []

-- the second span makes the trace too big, and the third is late
pub too_big_by_second : (numbers_under NotSampled (run too_big 1 1 three_spans) ≡ Some (0 ∷ 1 ∷ [])) × (numbers_under LateNotSampled (run too_big 1 1 three_spans) ≡ Some (2 ∷ []))
unfolding notes size_of print_from escape_byte encode_with digits
too_big_by_second = (refl, refl)

-- at the bound it waits
pub not_too_big : is_enabled_after (of_size 120 too_big) (send (plain 1) ++ take 0 false false ∷ send (plain 1) ++ take 0 false false ∷ []) (decide 0 []) ≡ Some false
unfolding notes size_of print_from escape_byte encode_with digits
not_too_big = refl

-- ---- closed

pub open_before_the_tickers_end : option_map (is_closed of_one) (run of_one 1 1 (close 0 ∷ end 0 0 ∷ [])) ≡ Some false
unfolding notes
open_before_the_tickers_end = refl

-- the Ends of all senders decide what is undecided; of one alone they don't
pub one_end_decides_nothing : is_enabled_after first_config (send (plain 1) ++ take 0 false false ∷ close 0 ∷ end 0 0 ∷ []) (decide 0 []) ≡ Some false
unfolding notes
one_end_decides_nothing = refl

pub last_end_decides : is_enabled_after first_config (send (plain 1) ++ take 0 false false ∷ close 0 ∷ end 0 0 ∷ end 0 1 ∷ []) (decide 0 []) ≡ Some true
unfolding notes
last_end_decides = refl

-- a span in the open batch waits
pub open_while_batched : option_map (is_closed first_config) (run first_config 1 1 (send (plain 1) ++ take 0 false false ∷ close 0 ∷ end 0 0 ∷ end 0 1 ∷ decide 0 [] ∷ ship 0 ∷ pull ∷ [])) ≡ Some false
unfolding notes
open_while_batched = refl
