-- Configurations, records and questions that the worked rows share.
-- For `Rows`, and for rows and wrong definitions in the crates above.
use Rattle.std.specs.Prelude.{ℕ, Bool, pos, List, [], ◌∷◌, map, length, Option, Some, None, option_map, is_some, ◌&&◌, ◌==◌}
use Rattle.std.specs.List.{list_all}
use Rattle.otlp_types.proofs.Samples.{plain_record}
use Rattle.policy_tree.specs.Tree.{Policies, no_more, one_more, leaf}
use Rattle.policy_tree.specs.declared.policy.Leaf.TheVariants.{AlwaysSample, StatusCode}
use Rattle.journal_theory.specs.Journal.{have_ended}
use Rattle.journal_theory.specs.Fate.{under}
use Rattle.journal_theory.proofs.Samples.{plain_settings}
use Rattle.otlp_types.specs.declared.span.Ids.{Ids}
use Rattle.otlp_types.specs.declared.arrival.Arrival.{Arrival}
use Rattle.otlp_types.specs.declared.arrival.Record.{Record}
use Rattle.span_ids.specs.declared.ids.TraceId.{TraceId}
use Rattle.span_ids.specs.declared.keys.ArrivalKey.{ArrivalKey}
use Rattle.span_ids.specs.declared.outcome.Reason.{Reason}
use Rattle.span_sink.specs.Manners.{takes_all}
use Rattle.world_theory.specs.World.{CoreConfig, CoreLane, CoreShard, World, settings}
use Rattle.world_theory.specs.Step.{Step, receive, route, step, run}
use Rattle.world_theory.specs.Places.{waiting}

-- one policy, which samples every trace
abbrev pub always : Policies
always = one_more (leaf AlwaysSample) no_more

-- one policy, which samples the traces with an error
abbrev pub errors : Policies
errors = one_more (leaf (StatusCode (pos 2 ∷ []))) no_more

-- a wait of 10 milliseconds, batches of one span
abbrev pub configured : Policies → (num_traces : Option ℕ) → (sampled non_sampled : ℕ) → CoreConfig
configured policies num_traces sampled non_sampled = record { shard = record (plain_settings policies) { num_traces = num_traces; sampled_cache_size = sampled; non_sampled_cache_size = non_sampled; senders = 0 }; batch_size = 1; manner = takes_all; names = [] }

-- with this greatest size of a trace
abbrev pub of_size : (maximum : ℕ) → CoreConfig → CoreConfig
of_size maximum c = record c { shard = record (c.shard) { maximum_trace_size = maximum } }

-- a trace id that ends with this byte: of two shards, an odd one goes to shard 1
abbrev pub trace : (t : ℕ) → TraceId
trace t = 0 ∷ 0 ∷ 0 ∷ 0 ∷ 0 ∷ 0 ∷ 0 ∷ 0 ∷ 0 ∷ 0 ∷ 0 ∷ 0 ∷ 0 ∷ 0 ∷ 0 ∷ t ∷ []

-- the ids of a root of this trace
abbrev pub ids_of : (t : ℕ) → Ids
ids_of t = record { trace = trace t; span = t ∷ []; parent = None }

-- a record with these ids, status code and start
abbrev pub recorded : Option Ids → (code start : ℕ) → Record
recorded ids code start = plain_record ids code start start

-- a span with an error
abbrev pub error : (t : ℕ) → Record
error t = recorded (Some (ids_of t)) 2 0

-- a span without an error
abbrev pub plain : (t : ℕ) → Record
plain t = recorded (Some (ids_of t)) 0 0

-- a span with invalid ids
abbrev pub invalid : Record
invalid = recorded None 0 0

-- a key of the first connection of the first lane
abbrev pub key : (number : ℕ) → ArrivalKey
key n = record { conn = record { lane = 0; ordinal = 0 }; number = n }

-- one span is received and routed to the one shard
abbrev pub send : Record → List Step
send r = receive 0 0 0 (r ∷ []) ∷ route 0 0 ∷ []

-- whether the step is enabled after these, with one lane and one shard; nothing, where these don't run
abbrev pub is_enabled_after : CoreConfig → List Step → Step → Option Bool
is_enabled_after c before s = option_map (λ w. is_some (step c w s)) (run c 1 1 before)

-- the numbers counted under a reason
abbrev pub numbers_under : Reason → Option World → Option (List ℕ)
numbers_under r found = option_map (λ w. map (λ (k : ArrivalKey). k.number) (under r w.counted)) found

-- the numbers of what was handed over, batch by batch
abbrev pub handed_numbers : World → List (List ℕ)
handed_numbers w = map (λ batch. map (λ (a : Arrival). a.key.number) batch) w.handed

-- the world is closed
abbrev pub is_closed : CoreConfig → World → Bool
is_closed c w = list_all (λ (l : CoreLane). l.ended) w.lanes && list_all (λ (sh : CoreShard). have_ended sh.journal (settings c w).senders) w.shards && (length (waiting c w) == 0)
