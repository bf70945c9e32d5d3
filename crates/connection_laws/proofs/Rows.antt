-- Worked rows of two connections whose turns alternate, by computation.
-- No contract rests on it: it shows the definitions on worked cases.
use Rattle.std.proofs.Common.{◌≡◌, true, false, List, [], ◌∷◌, Some, None, refl}
use Rattle.std.specs.Prelude.{map}
use Rattle.drop_ledger.specs.declared.count.Count.TheVariants.{Received, Dropped}
use Rattle.span_ids.specs.declared.outcome.Reason.TheVariants.{InvalidId, QueueFull}
use Rattle.otlp_encoding.specs.declared.encoding.Encoding.TheVariants as encoding
use Rattle.lane_seq.specs.declared.reply.Reply.TheVariants.{Done, Partial, Busy}
use Rattle.http_text.specs.declared.allowed.Allowed.{Allowed}
use Rattle.http_lane.specs.declared.answer.EventFate.TheVariants.{Written}
use Rattle.http_lane.specs.declared.answer.ServeEnd.{ServeEnd}
use Rattle.http_lane.specs.declared.answer.ServeEnd.TheVariants.{Closed, Cut, Answered, Quiet, Stopped, ReadFault, WriteFault, NoMemory}
use Rattle.http_lane.specs.Connection.{Cause, accepts, submitted, timed_out, ConnectionEvent, in_head}
use Rattle.http_lane.specs.Turns.{Coming, came, unkept, nothing, over, read_failed, write_failed, dismissed, Waiting, waiting, Turned, turned, idle_end}
use Rattle.http_lane.specs.TurnAgreement.{bytes_that_came, events_then}
use Rattle.lane_turns.specs.Acts.{Act, took, had}
use Rattle.connection_laws.specs.Connections.{turns_had, done_for_bytes, end_by_bytes, last_coming, end_for, counted_for}

-- between requests a connection ends a minute after the last one, and no millisecond earlier; at once where the stop mark
-- is set
idle_ends : idle_end 7 60006 false ∷ idle_end 7 60007 false ∷ idle_end 7 8 true ∷ idle_end 7 60007 true ∷ []
    ≡ None ∷ Some Quiet ∷ Some Stopped ∷ Some Stopped ∷ []
idle_ends = refl

abbrev by_default : Allowed
by_default = record { gzip = false; protobuf = false; close = true; body_limit = 4194304 }

abbrev event : Cause → ConnectionEvent
event cause = record { cause = cause; encoding = encoding.Json; fate = Written }

-- the first connection sends 1, 2 and 3 in three turns, and is then late; the second sends 4, and its input ends
abbrev first_piece : Turned
first_piece = turned (came (1 ∷ [])) 20 false []

abbrev second_piece : Turned
second_piece = turned (came (2 ∷ [])) 40 false (event (accepts false) ∷ [])

abbrev third_piece : Turned
third_piece = turned (came (3 ∷ [])) 60 false (event (submitted (5 ∷ []) 7 (Partial 3 1 2) false) ∷ event (submitted (6 ∷ []) 8 (Done 4) false) ∷ event (submitted [] 9 Busy false) ∷ [])

abbrev late : Turned
late = turned nothing 90 false (event timed_out ∷ [])

abbrev other_piece : Turned
other_piece = turned (came (4 ∷ [])) 30 false (event (accepts true) ∷ [])

abbrev other_end : Turned
other_end = turned over 50 false []

abbrev acts : List Act
acts = took 0 10 ∷ took 1 11 ∷ had 0 0 0 first_piece ∷ had 1 0 0 other_piece ∷ had 0 0 0 second_piece ∷ had 1 0 0 other_end ∷ had 0 0 7 third_piece ∷ had 0 7 7 late ∷ []

own_turns : turns_had 0 acts ≡ first_piece ∷ second_piece ∷ third_piece ∷ late ∷ []
own_turns = refl

others_turns : turns_had 1 acts ≡ other_piece ∷ other_end ∷ []
others_turns = refl

nobodys_turns : turns_had 2 acts ≡ []
nobodys_turns = refl

own_bytes : bytes_that_came (turns_had 0 acts) ≡ 1 ∷ 2 ∷ 3 ∷ []
own_bytes = refl

-- the answer to what took too long is done for no bytes
done_for_them : done_for_bytes (turns_had 0 acts)
    ≡ event (accepts false) ∷ event (submitted (5 ∷ []) 7 (Partial 3 1 2) false) ∷ event (submitted (6 ∷ []) 8 (Done 4) false) ∷ event (submitted [] 9 Busy false) ∷ []
done_for_them = refl

all_done : events_then (late ∷ []) ≡ event timed_out ∷ []
all_done = refl

none_done : done_for_bytes (late ∷ []) ≡ []
none_done = refl

-- 3 were received, 1 without valid ids and 2 for which there was no room; then 4 more
counted : counted_for (done_for_bytes (turns_had 0 acts))
    ≡ record { count = Received; spans = 3 } ∷ record { count = Dropped InvalidId; spans = 1 } ∷ record { count = Dropped QueueFull; spans = 2 } ∷ record { count = Received; spans = 4 } ∷ []
counted = refl

-- what ended so by its bytes, and what didn't
abbrev ended : ServeEnd → Waiting
ended end = waiting (in_head by_default []) 80 (Some end)

by_bytes : end_by_bytes (first_piece ∷ second_piece ∷ []) (ended Answered) ∷ end_by_bytes (other_piece ∷ other_end ∷ []) (ended Closed) ∷ end_by_bytes (late ∷ []) (ended Answered) ∷ end_by_bytes [] (ended Quiet) ∷ []
    ≡ Some Answered ∷ None ∷ None ∷ None ∷ []
by_bytes = refl

last_of : last_coming (other_piece ∷ other_end ∷ []) ∷ last_coming (other_end ∷ other_piece ∷ []) ∷ last_coming [] ∷ [] ≡ Some over ∷ Some (came (4 ∷ [])) ∷ None ∷ []
last_of = refl

-- how each of them ends a connection, between requests and within one
ends : map (λ (c : Coming). end_for c (in_head by_default [])) (unkept (1 ∷ []) ∷ over ∷ read_failed ∷ write_failed ∷ dismissed ∷ [])
    ≡ Some NoMemory ∷ Some Closed ∷ Some ReadFault ∷ Some WriteFault ∷ Some Quiet ∷ []
ends = refl

cut_within : end_for over (in_head by_default (71 ∷ [])) ≡ Some Cut
cut_within = refl
