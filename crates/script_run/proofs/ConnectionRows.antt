-- The connections, moments, queues and Ends of some scripts, computed on the definitions. No clause needs them: they
-- show what the words of `Connections` and `World` say, which code and contracts follow.
use Rattle.std.proofs.Common.{◌≡◌, ℕ, ◌+◌, true, List, [], ◌∷◌, ◌++◌, map, length, refl}
use Rattle.lane_seq.specs.declared.preparing.Conn.{Conn}
use Rattle.lane_seq.specs.Numbers.{arrivals_from}
use Rattle.lane_seq.specs.declared.reply.Reply.TheVariants.{BadData}
use Rattle.otlp_request.specs.declared.bad_data.BadData.TheVariants.{Shape}
use Rattle.otlp_types.specs.declared.arrival.Arrival.{Arrival}
use Rattle.otlp_types.specs.declared.arrival.Item.TheVariants.{End, Tick}
use Rattle.script_run.specs.Connections.{Contacts, lane_of, connection_of, with_connection, with_received}
use Rattle.script_run.specs.Requests.{refuses, arrivals_of}
use Rattle.script_run.specs.World.{ScriptWorld, Sizes, Plays, Receives, Answers, RepliesAndRuns, RunsToQuiet, after_receiving, empty_queues, ends_from}
use Rattle.journal_theory.specs.Journal.{Settings}
use Rattle.world_theory.proofs.Samples.{plain}
use Rattle.tsc_script.specs.Instructions.{receive, tick, close}
use Rattle.otlp_flatten.specs.Flat.{records_of}
use Rattle.otlp_types.specs.declared.request.Request.{Request}

-- no connection was used, of three lanes
abbrev none_of_three : Contacts
none_of_three = record { connections = []; connected = 0 ∷ 0 ∷ 0 ∷ [] }

-- a connection of a lane, with this ordinal and next number
abbrev conn : (lane ordinal next : ℕ) → Conn
conn lane ordinal next = record { key = record { lane = lane; ordinal = ordinal }; next = next }

-- a connection is served by the lane of its number modulo the number of lanes
lane_of_numbers : map (λ n. lane_of n none_of_three) (0 ∷ 1 ∷ 2 ∷ 3 ∷ 7 ∷ []) ≡ 0 ∷ 1 ∷ 2 ∷ 0 ∷ 1 ∷ []
lane_of_numbers = refl

-- the first connection of a lane has ordinal 0, and so has the first of another
first_of_lane_1 : connection_of 1 none_of_three ≡ conn 1 0 0
first_of_lane_1 = refl

-- connections 4 and 1 are both lane 1's: the one that came second has ordinal 1
second_of_lane_1 : connection_of 1 (with_connection 4 none_of_three) ≡ conn 1 1 0
second_of_lane_1 = refl

-- a request that gave no span keeps its connection: it has ordinal 0 still, and the next one of its lane has 1
refused_keeps_ordinal : connection_of 1 (with_connection 1 none_of_three) ≡ conn 1 0 0
refused_keeps_ordinal = refl

next_behind_refused : connection_of 4 (with_connection 1 none_of_three) ≡ conn 1 1 0
next_behind_refused = refl

-- spans that were received go on counting on their own connection alone
numbers_go_on : connection_of 1 (with_received 1 3 (with_received 1 2 none_of_three)) ≡ conn 1 0 5
numbers_go_on = refl

numbers_of_another : connection_of 2 (with_received 1 3 none_of_three) ≡ conn 2 0 0
numbers_of_another = refl

-- a connection counts once among those of its lane, however often it is used
counted_once : with_connection 1 (with_connection 1 none_of_three) ≡ record { connections = (1, conn 1 0 0) ∷ []; connected = 0 ∷ 1 ∷ 0 ∷ [] }
counted_once = refl

-- each shard's queue is empty and holds just so many
two_queues : empty_queues 3 2 ≡ record { items = []; capacity = 3 } ∷ record { items = []; capacity = 3 } ∷ []
two_queues = refl

-- two lanes and the ticker end one after the other, each at both shards
ends_of_three : ends_from {A = ℕ} 0 3 (7 ∷ 8 ∷ [])
    ≡ ((End 0 ∷ []) ∷ (End 0 ∷ []) ∷ []) ∷ ((End 1 ∷ []) ∷ (End 1 ∷ []) ∷ []) ∷ ((End 2 ∷ []) ∷ (End 2 ∷ []) ∷ []) ∷ []
ends_of_three = refl

-- ---- moments

-- each span of a request has the moment at which it was read, and the connection's next number
moments_of_two : map (λ (a : Arrival). a.moment) (arrivals_from (conn 1 0 5).key 5 77 (plain 1 ∷ plain 2 ∷ [])) ≡ 77 ∷ 77 ∷ []
moments_of_two = refl

numbers_of_two : map (λ (a : Arrival). a.key.number) (arrivals_from (conn 1 0 5).key 5 77 (plain 1 ∷ plain 2 ∷ [])) ≡ 5 ∷ 6 ∷ []
numbers_of_two = refl

arrivals_at_77 : (request : Request) → arrivals_of (conn 1 0 5) 77 request ≡ arrivals_from (conn 1 0 5).key 5 77 (records_of request)
arrivals_at_77 request = refl

-- a line `recv 4 77 ..` is read on connection 4 at that moment, and `tick 77` tells each shard that moment
read_at_77 : (s : Settings) (sizes : Sizes) (old new : ScriptWorld) (body : List ℕ) → Plays s sizes old (receive 4 77 body) new → Receives s sizes old 4 77 body new
read_at_77 s sizes old new body h = h.2

told_77 : (s : Settings) (sizes : Sizes) (old new : ScriptWorld) → Plays s sizes old (tick 77) new → RunsToQuiet s sizes old (map (λ j. Tick 77 ∷ []) old.journals ∷ []) new
told_77 s sizes old new h = h.2

-- a request that is refused for its shape is one of its connection, which is there from then on; so is one that is
-- read, which gives it two spans, one of them to a full queue
refused_connects : (s : Settings) (sizes : Sizes) (old new : ScriptWorld) → Answers s sizes old 4 77 (refuses (BadData Shape)) new
    → RepliesAndRuns s sizes (record old { contacts = with_connection 4 old.contacts }) (BadData Shape) [] new
refused_connects s sizes old new h = h

read_connects : (old : ScriptWorld) → after_receiving 4 (arrivals_from (conn 1 0 5).key 5 77 (plain 1 ∷ plain 2 ∷ [])) 1 old
    ≡ record old { contacts = with_received 4 2 old.contacts; received = old.received ++ arrivals_from (conn 1 0 5).key 5 77 (plain 1 ∷ plain 2 ∷ []); full = old.full + 1 }
read_connects old = refl

-- a close tells each shard the Ends of all lanes, then the ticker's: one more than there are lanes
close_ends_all : (s : Settings) (sizes : Sizes) (old new : ScriptWorld) → Plays s sizes old close new
    → RunsToQuiet s sizes (record old { closed = true }) (ends_from 0 (length old.contacts.connected + 1) old.journals) new
close_ends_all s sizes old new h = h.1
