-- What reads requests from pieces of a stream, and what one step of serving does.
use Rattle.std.specs.Prelude.{◌≡◌, ℕ, ◌<◌, ◌≤◌, Bool, true, false, List, [], ◌++◌, Option, Some, None, take}
use Rattle.std.specs.Io.KnownBytes.{Appends, Consumes, IsAtEnd}
use Rattle.std.specs.Borrow.{Bor}
use Rattle.otlp_encoding.specs.declared.encoding.Encoding.{Encoding}
use Rattle.http_text.specs.declared.allowed.Allowed.{Allowed}
use Rattle.http_text.specs.declared.request.RequestRefusal.TheVariants.{NotGzip, BodyTooLarge}
use Rattle.inflate.specs.declared.fault.GzipFault.{GzipFault}
use Rattle.inflate.specs.declared.fault.GzipFault.TheVariants.{Broken, TooLong, NoMemory}
use Rattle.http_lane.specs.declared.answer.Brought.{Brought}
use Rattle.http_lane.specs.declared.answer.Brought.TheVariants.{Nothing, Refused, Close, Accepted, Whole}
use Rattle.http_answer.specs.declared.response.Response.{Response}
use Rattle.http_answer.specs.declared.response.Response.TheVariants.{Refused as ARefused, Starved}
use Rattle.http_lane.specs.declared.answer.ReadTurn.{ReadTurn}
use Rattle.http_lane.specs.declared.answer.ReadTurn.TheVariants.{Gave, Quiet as TQuiet, Interrupted as TInterrupted, Failed as TFailed, Ended as TEnded}
use Rattle.http_lane.specs.declared.answer.EventFate.{EventFate}
use Rattle.http_lane.specs.declared.answer.EventFate.TheVariants.{Uncounted}
use Rattle.http_lane.specs.declared.answer.ServeEnd.{ServeEnd}
use Rattle.http_lane.specs.Connection.{RequestReading, encoding_in, Cause, accepts, refusal, close_asked, starved, stopping, submitted, Brings, Rests, IsTextOf, IsUnfit, ConnectionEvent, Settles, Writes, WritesBy, text_of, SubmitsAll, Submission, submissions, submission_by, can_be, closes as closes_of, end_with, ConnectionTurn, gave, quiet, interrupted, failed, ended, bytes_given, is_ended, ReadRound, ConnectionStanding, standing, IsRoundBy, IsLapse, IsTranscript, turns_of, events_of}
use Rattle.http_lane.specs.Turns.{answers, has_answer}

-- what may be done with a whole body, as it came
abbrev pub Serves : (limit : ℕ) → (is_packed : Bool) → Option (List ℕ) → Bool → Cause → Type 0
Serves limit is_packed body closing starved = Unit {0}
Serves limit is_packed body closing stopping = Unit {0}
Serves limit is_packed body closing (refusal why is_head) = (came : List ℕ) × (body ≡ Some came) × IsUnfit limit is_packed came why × (is_head ≡ false)
Serves limit is_packed body closing (submitted text moment reply closes) = (came : List ℕ) × (body ≡ Some came) × IsTextOf limit is_packed came text × (closes ≡ closing)
Serves limit is_packed body closing _ = ⊥

-- the body that is seen is this one, if there is one
abbrev pub Sees : Option (Bor (List ℕ)) → Option (List ℕ) → Type 0
Sees None body = body ≡ None
Sees (Some seen) body = body ≡ Some seen.now

-- what an engine that stood for a reading found there, and what it stands for then
-- `awaits` says that it has looked at all of the reading and has room for a piece
abbrev pub Advances : {E : Type 0} → (stands awaits : E → RequestReading → Type 0) → Option (List ℕ) → Brought → RequestReading → E → Type 0
Advances stands awaits body Nothing r new = Rests r × awaits new r
Advances stands awaits body (Refused x is_head) r new = (next : RequestReading) × Brings r (refusal x is_head) next
Advances stands awaits body Close r new = (next : RequestReading) × Brings r close_asked next
Advances stands awaits body (Accepted awaited) r new = (next : RequestReading) × Brings r (accepts awaited) next × stands new next
Advances stands awaits body (Whole is_packed closing limit) r new =
    (next : RequestReading) × stands new next × ((cause : Cause) → Serves limit is_packed body closing cause → Brings r cause next)

-- something was found after which the connection can go on
abbrev pub GoesOn : Brought → Type 0
GoesOn (Accepted awaited) = Unit {0}
GoesOn (Whole is_packed closing limit) = Unit {0}
GoesOn _ = ⊥

-- the answer to a packed body that gives no text
abbrev pub answer_to : GzipFault → Response
answer_to Broken = ARefused NotGzip false
answer_to TooLong = ARefused BodyTooLarge false
answer_to NoMemory = Starved

-- what an answer's bytes do to a writer
abbrev pub Puts : Option (List ℕ) → Option (List ℕ) → EventFate → List ℕ → Type 0
Puts old new fate text = (bytes : List ℕ) × Appends old new bytes × WritesBy fate text bytes

-- the events did this to the writer and to the lane
abbrev pub Does : {L : Type 0} → (L → Submission → L → Type 0) → Option (List ℕ) → Option (List ℕ) → L → L → List ConnectionEvent → Type 0
Does submits old_text new_text old new events =
    (bytes : List ℕ) × Appends old_text new_text bytes × Writes events bytes × SubmitsAll submits old (submissions events) new

-- what the engine's bytes brought, until they brought nothing more or the connection ended; `tells` holds of what the lane
-- was handed
abbrev pub SettledTo : {E L : Type 0} → (awaits : E → RequestReading → Type 0) → (L → Submission → L → Type 0) → (tells : List Submission → Type 0) → Option (List ℕ) → Option (List ℕ) → L → L → RequestReading → Option ServeEnd → E → Type 0
SettledTo awaits submits tells old_text new_text old new r end engine =
    (events : List ConnectionEvent) × (last : RequestReading) × Settles r events end last × (end ≡ None → awaits engine last) × Does submits old_text new_text old new events
    × tells (submissions events)

-- the same, and whether a request was answered
abbrev pub Settled : {E L : Type 0} → (awaits : E → RequestReading → Type 0) → (L → Submission → L → Type 0) → (tells : List Submission → Type 0) → Option (List ℕ) → Option (List ℕ) → L → L → RequestReading → (Option ServeEnd × Bool) → E → Type 0
Settled awaits submits tells old_text new_text old new r settled engine =
    (events : List ConnectionEvent) × (last : RequestReading) × Settles r events settled.0 last × (settled.0 ≡ None → awaits engine last) × Does submits old_text new_text old new events × (settled.1 ≡ has_answer events)
    × tells (submissions events)

-- one event: its cause is true of `brings`, and this was done for it; `tells` holds of what the lane was handed
pub record Did {L : Type 0} (submits : L → Submission → L → Type 0) (tells : List Submission → Type 0) (old_text new_text : Option (List ℕ)) (old new : L) (encoding : Encoding) (cause : Cause) (closing : Bool) (fate : EventFate) : Type 0 where
  pub can : can_be fate cause ≡ true
  pub closes : closes_of cause ≡ closing
  pub puts : Puts old_text new_text fate (text_of encoding cause)
  pub lane : SubmitsAll submits old (submission_by fate encoding cause) new
  pub told : tells (submission_by fate encoding cause)

-- a whole body was served
abbrev pub Responds : {L : Type 0} → (L → Submission → L → Type 0) → (tells : List Submission → Type 0) → Option (List ℕ) → Option (List ℕ) → L → L → Encoding → (limit : ℕ) → Bool → Option (List ℕ) → Bool → (Bool × EventFate) → Type 0
Responds submits tells old_text new_text old new encoding limit is_packed body closing r =
    (cause : Cause) × Serves limit is_packed body closing cause × Did submits tells old_text new_text old new encoding cause r.0 r.1

-- one step of serving, from a reading
abbrev pub Acts : {E L : Type 0} → (stands awaits : E → RequestReading → Type 0) → (L → Submission → L → Type 0) → (tells : List Submission → Type 0) → Option (List ℕ) → Option (List ℕ) → L → L → RequestReading → Option (Bool × EventFate × Bool) → E → Type 0
Acts stands awaits submits tells old_text new_text old new r None engine = Rests r × awaits engine r × (new_text ≡ old_text) × (new ≡ old) × tells []
Acts stands awaits submits tells old_text new_text old new r (Some done) engine =
    (cause : Cause) × (next : RequestReading) × Brings r cause next × (end_with done.1 done.0 ≡ None → stands engine next) × (told : Encoding) × (told ≡ encoding_in r)
    × Did submits tells old_text new_text old new told cause done.0 done.1 × (answers cause ≡ done.2)

abbrev pub IsOpenAfter : Option (Bool × EventFate × Bool) → Type 0
IsOpenAfter None = ⊥
IsOpenAfter (Some done) = end_with done.1 done.0 ≡ None

-- what may become of a text
abbrev pub IsFateOfText : EventFate → Type 0
IsFateOfText Uncounted = ⊥
IsFateOfText _ = Unit {0}

-- what a read of a source gave
abbrev pub turn_of : ReadTurn → List ℕ → ConnectionTurn
turn_of (Gave n) piece = gave (take n piece)
turn_of TQuiet piece = quiet
turn_of TInterrupted piece = interrupted
turn_of TFailed piece = failed
turn_of TEnded piece = ended

-- one byte or more was given, and no more than there is room for
abbrev pub FitsPiece : ReadTurn → ℕ → Type 0
FitsPiece (Gave n) len = (0 < n) × (n ≤ len)
FitsPiece _ len = Unit {0}

-- what is known of a reader: what its reads gave so far, the bytes that it has left, and what is allowed to its client
pub record KnownReader : Type 0 where
  pub turns : Option (List ConnectionTurn)
  pub left : Option (List ℕ)
  pub allowed : Allowed

abbrev pub known_reader : Option (List ConnectionTurn) → Option (List ℕ) → Allowed → KnownReader
known_reader turns left allowed = record { turns = turns; left = left; allowed = allowed }

-- where it is known what its reads gave, these turns are more
abbrev pub Tells : Option (List ConnectionTurn) → Option (List ConnectionTurn) → List ConnectionTurn → Type 0
Tells None new turns = Unit {0}
Tells (Some old) new turns = new ≡ Some (old ++ turns)

-- a reader gave these turns: their bytes were the next that it had, and its end is told only where it has no more
pub record Gives (old new : KnownReader) (turns : List ConnectionTurn) : Type 0 where
  pub told : Tells old.turns new.turns turns
  pub bytes : Consumes old.left new.left (bytes_given turns)
  pub end : is_ended turns ≡ true → IsAtEnd new.left

-- a connection was served: it has a transcript, which the reader, the writer and the lane followed
abbrev pub Served : {L : Type 0} → (L → Submission → L → Type 0) → Option (List ℕ) → Option (List ℕ) → L → L → KnownReader → KnownReader → ServeEnd → Type 0
Served submits old_text new_text old new old_reader new_reader end =
    (rounds : List ReadRound) × IsTranscript old_reader.allowed rounds end × Gives old_reader new_reader (turns_of rounds) × Does submits old_text new_text old new (events_of rounds)

-- a quiet turn was dealt with, whatever lane there is
abbrev pub Waits : Option (List ℕ) → Option (List ℕ) → ConnectionStanding → ℕ → Option ServeEnd → Type 0
Waits old_text new_text s row end =
    (is_stopped : Bool) × (events : List ConnectionEvent) × IsRoundBy quiet s is_stopped events (standing s.reading row end)
    × (bytes : List ℕ) × Appends old_text new_text bytes × Writes events bytes × (submissions events ≡ [])

-- a request under way was looked at, of which nothing came
abbrev pub Lapses : Option (List ℕ) → Option (List ℕ) → RequestReading → (due now : ℕ) → Option ServeEnd → Type 0
Lapses old_text new_text r due now end =
    (events : List ConnectionEvent) × IsLapse r due now events end
    × (bytes : List ℕ) × Appends old_text new_text bytes × Writes events bytes × (submissions events ≡ [])

-- it awaits more of some reading
abbrev pub IsAtRest : {E : Type 0} → (awaits : E → RequestReading → Type 0) → E → Type 0
IsAtRest awaits engine = (r : RequestReading) × awaits engine r
