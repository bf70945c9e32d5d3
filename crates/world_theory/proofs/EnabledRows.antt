-- Worked rows of what is enabled: with two lanes and two shards, by numbers of answers, and after the sink has failed.
-- Each row also says that its first steps run. The laws of the headline hold too of a table that only forbids more:
-- these rows don't.
use Rattle.std.specs.Prelude.{◌≡◌, Bool, true, false, is_some, List, [], ◌∷◌, ◌++◌, map, Option, Some, None, option_map, refl}
use Rattle.std.specs.Fmt.{digits}
use Rattle.hex.specs.Hex.{encode_with}
use Rattle.json.specs.Print.{print_from, escape_byte}
use Rattle.span_size.specs.Size.{size_of}
use Rattle.policy_tree.specs.Tree.{Policies, no_more, one_more, rate_limiting}
use Rattle.journal_theory.specs.Journal.{notes}
use Rattle.span_ids.specs.declared.outcome.Reason.TheVariants.{InvalidId, QueueFull, NoMemory, Evicted, NotSampled, LateNotSampled, ExporterDown}
use Rattle.world_theory.specs.World.{CoreConfig}
use Rattle.world_theory.specs.Step.{Step, receive, route, refuse, take, tick, close, end, decide, ship, pull, hand, fail, drop_batch, step, run}
use Rattle.world_theory.proofs.Samples.{always, errors, configured, error, plain, send, is_enabled_after, of_size}

abbrev of_one : CoreConfig
of_one = configured errors (Some 1) 1 1

-- whether each of these steps is enabled after the first ones, with one lane and one shard; nothing, where those don't
-- run
abbrev are_enabled_after : CoreConfig → List Step → List Step → Option (List Bool)
are_enabled_after c before steps = option_map (λ w. map (λ s. is_some (step c w s)) steps) (run c 1 1 before)

-- the same with two lanes and two shards: trace 1 goes to shard 1, trace 2 to shard 0
abbrev are_enabled_among_two : List Step → List Step → Option (List Bool)
are_enabled_among_two before steps = option_map (λ w. map (λ s. is_some (step of_one w s)) steps) (run of_one 2 2 before)

-- ---- one lane and one shard

-- a request may have no spans, and be of an earlier moment than the one before
receive_anything : are_enabled_after of_one (receive 0 0 5 (error 1 ∷ []) ∷ []) (receive 0 0 0 [] ∷ receive 0 0 0 (error 1 ∷ []) ∷ receive 0 1 9 (plain 1 ∷ []) ∷ []) ≡ Some (true ∷ true ∷ true ∷ [])
unfolding notes
receive_anything = refl

-- while a span is unrouted it may be routed or refused, more may come, and the lane may close; nothing can be taken
unrouted : are_enabled_after of_one (receive 0 0 0 (error 1 ∷ []) ∷ []) (route 0 0 ∷ refuse 0 0 ∷ receive 0 0 0 (error 1 ∷ []) ∷ close 0 ∷ take 0 false false ∷ []) ≡ Some (true ∷ true ∷ true ∷ true ∷ false ∷ [])
unfolding notes
unrouted = refl

-- a lane's close takes neither its routes and refusals, nor the shard's steps
unrouted_after_close : are_enabled_after of_one (receive 0 0 0 (error 1 ∷ error 2 ∷ []) ∷ route 0 0 ∷ close 0 ∷ []) (route 0 0 ∷ refuse 0 0 ∷ take 0 false false ∷ take 0 true false ∷ tick 0 10 ∷ end 0 1 ∷ end 0 0 ∷ close 0 ∷ receive 0 0 0 [] ∷ [])
    ≡ Some (true ∷ true ∷ true ∷ true ∷ true ∷ true ∷ false ∷ false ∷ false ∷ [])
unfolding notes
unrouted_after_close = refl

-- ticks come while spans are queued, and may go back; the ticker may end while spans are queued
queued_spans : are_enabled_after of_one (tick 0 10 ∷ send (error 1)) (tick 0 10 ∷ tick 0 5 ∷ end 0 1 ∷ take 0 false false ∷ take 0 true false ∷ []) ≡ Some (true ∷ true ∷ true ∷ true ∷ true ∷ [])
unfolding notes
queued_spans = refl

-- an episode that is due is decided before anything else is taken; lanes and exporter go on
due_first : are_enabled_after of_one (send (error 1) ++ take 0 false false ∷ send (error 1) ++ tick 0 10 ∷ [])
    (decide 0 [] ∷ take 0 false false ∷ tick 0 20 ∷ end 0 1 ∷ receive 0 0 0 (error 1 ∷ []) ∷ close 0 ∷ fail ∷ [])
    ≡ Some (true ∷ false ∷ false ∷ false ∷ true ∷ true ∷ true ∷ [])
unfolding notes
due_first = refl

-- two episodes are due at one tick: the second is decided while the first's span is unshipped, and then there is no
-- third
abbrev of_many : CoreConfig
of_many = configured errors None 1 1

abbrev two_due : List Step
two_due = receive 0 0 0 (error 1 ∷ error 2 ∷ []) ∷ route 0 0 ∷ route 0 0 ∷ take 0 false false ∷ take 0 false false ∷ tick 0 10 ∷ decide 0 [] ∷ []

second_due : are_enabled_after of_many two_due (decide 0 [] ∷ ship 0 ∷ tick 0 20 ∷ []) ≡ Some (true ∷ true ∷ false ∷ [])
unfolding notes
second_due = refl

no_third : are_enabled_after of_many (two_due ++ decide 0 [] ∷ []) (decide 0 [] ∷ ship 0 ∷ tick 0 20 ∷ []) ≡ Some (false ∷ true ∷ true ∷ [])
unfolding notes
no_third = refl

-- ---- answers: as many as the policies ask for

abbrev limited : Policies
limited = one_more (rate_limiting 5) no_more

abbrev one_due : List Step
one_due = send (plain 1) ++ take 0 false false ∷ tick 0 10 ∷ []

abbrev by_answers : List Step
by_answers = decide 0 [] ∷ decide 0 (true ∷ []) ∷ decide 0 (false ∷ []) ∷ decide 0 (true ∷ true ∷ []) ∷ []

one_asking : are_enabled_after (configured limited None 1 1) one_due by_answers ≡ Some (false ∷ true ∷ true ∷ false ∷ [])
unfolding notes
one_asking = refl

no_asking : are_enabled_after (configured always None 1 1) one_due by_answers ≡ Some (true ∷ false ∷ false ∷ false ∷ [])
unfolding notes
no_asking = refl

-- any trace is too big
abbrev too_big : CoreConfig
too_big = of_size 1 (configured limited None 0 0)

-- it is decided by no policy before anything else is taken, and asks for no answer
too_big_first : are_enabled_after too_big (receive 0 0 0 (plain 1 ∷ plain 1 ∷ []) ∷ route 0 0 ∷ route 0 0 ∷ take 0 false false ∷ []) (by_answers ++ take 0 false false ∷ tick 0 10 ∷ end 0 1 ∷ close 0 ∷ [])
    ≡ Some (true ∷ false ∷ false ∷ false ∷ false ∷ false ∷ false ∷ true ∷ [])
unfolding notes size_of print_from escape_byte encode_with digits
too_big_first = refl

-- ---- two lanes and two shards

one_lane_closed : are_enabled_among_two (close 0 ∷ []) (receive 0 0 0 [] ∷ receive 1 0 0 [] ∷ close 0 ∷ close 1 ∷ receive 2 0 0 [] ∷ close 2 ∷ []) ≡ Some (false ∷ true ∷ false ∷ true ∷ false ∷ false ∷ [])
unfolding notes
one_lane_closed = refl

-- a lane's End goes to the shard to which none of its spans is left
end_by_shard : are_enabled_among_two (receive 0 0 0 (error 1 ∷ []) ∷ close 0 ∷ []) (end 0 0 ∷ end 1 0 ∷ end 2 0 ∷ route 0 0 ∷ route 0 1 ∷ refuse 0 1 ∷ []) ≡ Some (true ∷ false ∷ false ∷ false ∷ true ∷ true ∷ [])
unfolding notes
end_by_shard = refl

-- and other lanes' spans don't keep it
end_by_lane : are_enabled_among_two (receive 1 0 0 (error 2 ∷ error 4 ∷ []) ∷ route 1 0 ∷ close 0 ∷ close 1 ∷ []) (end 0 0 ∷ end 0 1 ∷ end 1 1 ∷ end 0 2 ∷ end 0 3 ∷ []) ≡ Some (true ∷ false ∷ true ∷ true ∷ false ∷ [])
unfolding notes
end_by_lane = refl

-- one shard's due episode keeps no other shard
due_elsewhere : are_enabled_among_two (receive 0 0 0 (error 2 ∷ error 1 ∷ []) ∷ route 0 0 ∷ route 0 1 ∷ take 0 false false ∷ tick 0 10 ∷ []) (tick 0 10 ∷ decide 0 [] ∷ take 1 false false ∷ tick 1 10 ∷ end 1 2 ∷ decide 1 [] ∷ ship 1 ∷ []) ≡ Some (false ∷ true ∷ true ∷ true ∷ true ∷ false ∷ false ∷ [])
unfolding notes
due_elsewhere = refl

ticker_by_shard : are_enabled_among_two (end 0 2 ∷ []) (tick 0 5 ∷ end 0 2 ∷ tick 1 5 ∷ end 1 2 ∷ []) ≡ Some (false ∷ false ∷ true ∷ true ∷ [])
unfolding notes
ticker_by_shard = refl

-- ---- the exporter

-- two spans are released, one of them in a batch that may have two
abbrev of_two : CoreConfig
of_two = record (configured errors (Some 1) 1 1) { batch_size = 2 }

abbrev half_full : List Step
half_full = receive 0 0 0 (error 1 ∷ error 1 ∷ []) ∷ route 0 0 ∷ route 0 0 ∷ take 0 false false ∷ take 0 false false ∷ tick 0 10 ∷ decide 0 [] ∷ ship 0 ∷ ship 0 ∷ pull ∷ []

half_a_batch : are_enabled_after of_two half_full (pull ∷ hand ∷ fail ∷ drop_batch NoMemory ∷ drop_batch ExporterDown ∷ []) ≡ Some (true ∷ true ∷ true ∷ true ∷ false ∷ [])
unfolding notes
half_a_batch = refl

-- whether the batch may be given up, by each reason
abbrev drops_batch : List Step
drops_batch = map drop_batch (InvalidId ∷ QueueFull ∷ NoMemory ∷ Evicted ∷ NotSampled ∷ LateNotSampled ∷ ExporterDown ∷ [])

drops_batch_while_up : are_enabled_after of_two half_full drops_batch ≡ Some (false ∷ false ∷ true ∷ false ∷ false ∷ false ∷ false ∷ [])
unfolding notes
drops_batch_while_up = refl

drops_batch_while_down : are_enabled_after of_two (half_full ++ fail ∷ []) drops_batch ≡ Some (false ∷ false ∷ true ∷ false ∷ false ∷ false ∷ true ∷ [])
unfolding notes
drops_batch_while_down = refl

-- nothing but what needs the sink stops with it
pulls_while_down : are_enabled_after of_two (half_full ++ fail ∷ []) (pull ∷ hand ∷ fail ∷ []) ≡ Some (true ∷ false ∷ false ∷ [])
unfolding notes
pulls_while_down = refl

lanes_while_down : are_enabled_after of_one (fail ∷ receive 0 0 0 (error 1 ∷ error 1 ∷ []) ∷ route 0 0 ∷ []) (receive 0 0 0 (error 1 ∷ []) ∷ route 0 0 ∷ refuse 0 0 ∷ close 0 ∷ take 0 false false ∷ tick 0 10 ∷ end 0 1 ∷ []) ≡ Some (true ∷ true ∷ true ∷ true ∷ true ∷ true ∷ true ∷ [])
unfolding notes
lanes_while_down = refl

decides_while_down : is_enabled_after of_one (fail ∷ send (error 1) ++ take 0 false false ∷ tick 0 10 ∷ []) (decide 0 []) ≡ Some true
unfolding notes
decides_while_down = refl

ships_while_down : is_enabled_after of_one (fail ∷ send (error 1) ++ take 0 false false ∷ tick 0 10 ∷ decide 0 [] ∷ []) (ship 0) ≡ Some true
unfolding notes
ships_while_down = refl
