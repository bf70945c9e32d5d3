-- Worked rows, computed: a process that may take 800 bytes, and requests to a backend.
-- They serve the definitions that `MemoryRule`, `request_fields` and `with_export_room` promise.
use Rattle.std.specs.Prelude.{◌≡◌, ℕ, true, false, [], ◌∷◌, ◌++◌, map, codes, Some, None, refl}
use Rattle.collector_serve.specs.Moments.{moment_after}
use Rattle.otlp_encoding.specs.declared.encoding.Encoding.TheVariants.{Json, Protobuf}
use Rattle.collector_serve.specs.Requests.{room_of, request_fields}
use Rattle.collector_serve.specs.Memory.{MemoryState, is_short, is_shorter, limit_of, memory_after, pause_before}
use Rattle.collector_serve.specs.LateLooks.{late_look}
use Rattle.collector_serve.specs.LastRows.{last_row}
use Rattle.collector_serve.specs.declared.late_looks.Came.TheVariants.{Nothing, Bytes, End}

abbrev state : (most release : ℕ) → MemoryState
state most release = record { limit = 800; most = most; release = release }

-- at its limit it takes requests
at_the_limit : memory_after (state 800 0) 800 1000 ≡ state 800 0
at_the_limit = refl

taken_at_the_limit : is_short (state 800 0) 800 1000 ≡ false
taken_at_the_limit = refl

-- a byte more while 80 spans wait: 70 may wait again
beyond : memory_after (state 800 0) 801 80 ≡ state 801 70
beyond = refl

until_an_eighth_is_gone : map (is_short (state 801 70) 801) (80 ∷ 71 ∷ 70 ∷ 0 ∷ []) ≡ true ∷ true ∷ false ∷ false ∷ []
until_an_eighth_is_gone = refl

-- the pauses of a process that may take 100 mebibytes and takes 0, 80, 96, 97 and 101; and of one without a limit
pauses : map (pause_before 104857600) (0 ∷ 83886080 ∷ 100663296 ∷ 101711872 ∷ 105906176 ∷ []) ++ (pause_before 18446744073709551615 1000000000 ∷ [])
    ≡ 50 ∷ 10 ∷ 2 ∷ 2 ∷ 2 ∷ 100 ∷ []
pauses = refl

-- it doesn't grow: nothing changes, however many wait
no_growth : memory_after (state 801 70) 801 1000 ≡ state 801 70
no_growth = refl

-- an eighth beyond its limit, and a byte more than that
an_eighth_beyond : memory_after (state 801 70) 900 80 ≡ state 900 70
an_eighth_beyond = refl

more_than_an_eighth : memory_after (state 801 70) 901 80 ≡ state 901 40
more_than_an_eighth = refl

-- spans are refused from there on
shorter : map (λ taken. is_shorter (state 901 40) taken 80) (800 ∷ 900 ∷ 901 ∷ []) ≡ false ∷ false ∷ true ∷ []
shorter = refl

-- and while fewer wait than when it grew so far, they are kept
fewer_wait : map (is_shorter (state 901 40) 901) (81 ∷ 80 ∷ 79 ∷ 41 ∷ []) ≡ true ∷ true ∷ false ∷ false ∷ []
fewer_wait = refl

-- it takes what it may again: all is as at the start
back : memory_after (state 901 40) 799 80 ≡ state 800 0
back = refl

-- the room of a shard: of the defaults, of three batches of ten spans for four shards, and of fewer than may wait
-- anyway
rooms : (room_of 256 512 1 1024 ≡ 131072) × (room_of 3 10 4 5 ≡ 7) × (room_of 1 1 64 2 ≡ 2)
rooms = (refl, refl, refl)

-- the fields of a request, with one of the configuration
fields : request_fields (codes "h:1") Json (record { name = codes "X-Tenant"; value = codes "t1" } ∷ [])
    ≡ (codes "Host", codes "h:1") ∷ (codes "Content-Type", codes "application/json") ∷ (codes "X-Tenant", codes "t1") ∷ []
fields = refl

fields_of_protobuf : request_fields (codes "h:1") Protobuf [] ≡ (codes "Host", codes "h:1") ∷ (codes "Content-Type", codes "application/x-protobuf") ∷ []
fields_of_protobuf = refl

-- milliseconds behind the start, rounded down, and at most the greatest moment
moments_after : map (moment_after 1700000000000) (0 ∷ 999999 ∷ 1000000 ∷ 2500000000 ∷ []) ≡ 1700000000000 ∷ 1700000000000 ∷ 1700000000001 ∷ 1700000002500 ∷ []
moments_after = refl

latest_moment : moment_after 18446744073709551614 5000000 ≡ 18446744073709551615
latest_moment = refl

-- a client who ends his side at once; who sends; who says nothing, before the tenth look and at it; who was answered
answered : (late_look 1 End false).answers ∷ (late_look 1 Bytes false).answers ∷ (late_look 9 Nothing false).answers ∷ (late_look 10 Nothing false).answers ∷ (late_look 11 Bytes true).answers ∷ [] ≡ true ∷ true ∷ false ∷ true ∷ false ∷ []
answered = refl

looked_at_again : (late_look 1 End false).goes_on ∷ (late_look 49 Bytes true).goes_on ∷ (late_look 50 Nothing true).goes_on ∷ [] ≡ false ∷ true ∷ false ∷ []
looked_at_again = refl

last_rows : last_row 0 ∷ last_row 1 ∷ last_row 61 ∷ [] ≡ None ∷ Some 0 ∷ Some 60 ∷ []
last_rows = refl

limits : limit_of 0 ∷ limit_of 200 ∷ limit_of 17592186044416 ∷ [] ≡ 18446744073709551615 ∷ 209715200 ∷ 18446744073709551615 ∷ []
limits = refl
