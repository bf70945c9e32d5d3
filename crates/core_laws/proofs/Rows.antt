-- Worked rows of the sums, by computation.
-- No contract rests on it: it shows the definitions on worked cases.
use Rattle.std.specs.Prelude.{◌≡◌, ℕ, Bool, true, false, List, [], ◌∷◌, ◌++◌, map, length, replicate, Some, None, option_map, refl}
use Rattle.otlp_types.specs.declared.arrival.Arrival.{Arrival}
use Rattle.otlp_types.specs.declared.arrival.Record.{Record}
use Rattle.span_ids.specs.declared.outcome.Reason.TheVariants.{InvalidId, QueueFull, NoMemory, Evicted, NotSampled, LateNotSampled, ExporterDown}
use Rattle.journal_theory.specs.Journal.{notes}
use Rattle.journal_theory.specs.Fate.{counts}
use Rattle.world_theory.specs.World.{CoreConfig, World}
use Rattle.world_theory.specs.Step.{Step, receive, route, refuse, take, tick, decide, ship, pull, hand, run}
use Rattle.world_theory.specs.Places.{waiting}
use Rattle.world_theory.specs.Headline.{handed_spans}
use Rattle.world_theory.proofs.Samples.{always, configured, plain, invalid}
use Rattle.core_laws.specs.Sums.{reasons, received_spans, counted_under_reason}
use Rattle.core_laws.specs.Untaken.{is_counted_as}

abbrev config : CoreConfig
config = configured always None 0 0

abbrev many : ℕ → List Arrival
many n = replicate n (record { key = record { conn = record { lane = 0; ordinal = 0 }; number = 0 }; moment = 0; rec = plain 1 })

-- a world with another number of spans at each of its places, and under each reason
abbrev numbered : World
numbered = record {
  lanes = record { received = many 30; unrouted = many 9; ended = false } ∷ record { received = many 61; unrouted = many 10; ended = true } ∷ [];
  shards = record { queue = many 11; journal = []; dealt = 0; unshipped = many 12 } ∷ [];
  exported = many 13;
  batch = many 14;
  handed = many 15 ∷ many 16 ∷ [];
  counted = counts InvalidId (many 1) ++ counts QueueFull (many 2) ++ counts NoMemory (many 3) ++ counts Evicted (many 4) ++ counts NotSampled (many 5) ++ counts LateNotSampled (many 6) ++ counts ExporterDown (many 7);
  down = true;
}

-- what was received, what waits, what was handed over, and what is under each reason
abbrev numbers_of : World → List ℕ
numbers_of w = length (received_spans w) ∷ length (waiting config w) ∷ length (handed_spans w) ∷ map (counted_under_reason w) reasons

pub each_number_by_itself : numbers_of numbered ≡ 91 ∷ 69 ∷ 31 ∷ 1 ∷ 2 ∷ 3 ∷ 4 ∷ 5 ∷ 6 ∷ 7 ∷ []
each_number_by_itself = refl

-- two spans of a trace, of which one was handed over and the other waits to be
abbrev half_way : List Step
half_way = receive 0 0 0 (plain 1 ∷ plain 1 ∷ []) ∷ route 0 0 ∷ take 0 false false ∷ route 0 0 ∷ take 0 false false ∷ tick 0 10 ∷ decide 0 [] ∷ ship 0 ∷ pull ∷ hand ∷ []

pub half_of_it_waits : option_map numbers_of (run config 1 1 half_way) ≡ Some (2 ∷ 1 ∷ 1 ∷ 0 ∷ 0 ∷ 0 ∷ 0 ∷ 0 ∷ 0 ∷ 0 ∷ [])
unfolding notes
half_of_it_waits = refl

-- four spans: one is handed over, one finds the queue full, one has invalid ids, and one finds the queue full too
abbrev four_ends : List Step
four_ends = receive 0 0 0 (plain 1 ∷ plain 1 ∷ invalid ∷ plain 1 ∷ []) ∷ route 0 0 ∷ take 0 false false ∷ refuse 0 0 ∷ refuse 0 0 ∷ tick 0 10 ∷ decide 0 [] ∷ ship 0 ∷ pull ∷ hand ∷ []

-- a span that came with this number on the first connection
abbrev sent : (number : ℕ) → Record → Arrival
sent number r = record { key = record { conn = record { lane = 0; ordinal = 0 }; number = number }; moment = 0; rec = r }

abbrev four_spans : List Arrival
four_spans = sent 0 (plain 1) ∷ sent 1 (plain 1) ∷ sent 2 invalid ∷ sent 3 (plain 1) ∷ []

-- which of them are counted for their ids, and which for a full queue
abbrev counted_so : World → List Bool × List Bool
counted_so w = (map (is_counted_as config w InvalidId) four_spans, map (is_counted_as config w QueueFull) four_spans)

pub each_for_its_cause : option_map counted_so (run config 1 1 four_ends) ≡ Some (false ∷ false ∷ true ∷ false ∷ [], false ∷ true ∷ false ∷ true ∷ [])
unfolding notes
each_for_its_cause = refl
