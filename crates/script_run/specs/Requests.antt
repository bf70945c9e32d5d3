-- What a request gives: a reply, and its spans.
use Rattle.std.specs.Prelude.{◌≡◌, ℕ, Bool, List, ◌++◌, Some, None, codes, decimal}
use Rattle.otlp_encoding.specs.declared.encoding.Encoding.TheVariants.{Json}
use Rattle.otlp_request.specs.Reads.{Reads, IsRefusedFor}
use Rattle.otlp_flatten.specs.Flat.{records_of}
use Rattle.otlp_types.specs.declared.request.Request.{Request}
use Rattle.otlp_types.specs.declared.arrival.Arrival.{Arrival}
use Rattle.lane_seq.specs.declared.preparing.Conn.{Conn}
use Rattle.lane_seq.specs.declared.reply.Reply.{Reply}
use Rattle.lane_seq.specs.declared.reply.Reply.TheVariants.{Done, Partial, BadData, Busy}
use Rattle.lane_seq.specs.Numbers.{arrivals_from}
use Rattle.otlp_reply.specs.Bodies.{status_of, json_body}

-- what a body is taken for: a request, or a refusal with its reply
pub data BodyReading : Type 0 where
  reads : Request → BodyReading
  refuses : Reply → BodyReading

-- bodies are in JSON; where doubles are kept or discarded: a body is refused as no JSON or of the wrong shape only where it is; for want of
-- memory, or of numbers, any body may be refused as busy
abbrev pub IsTakenFor : (keeps_doubles : Bool) → List ℕ → BodyReading → Type 0
IsTakenFor keeps_doubles body (reads request) = Reads Json keeps_doubles body request
IsTakenFor keeps_doubles body (refuses (BadData cause)) = IsRefusedFor Json keeps_doubles body cause
IsTakenFor keeps_doubles body (refuses Busy) = Unit {0}
IsTakenFor keeps_doubles body (refuses (Done spans)) = ⊥
IsTakenFor keeps_doubles body (refuses (Partial spans invalid full)) = ⊥

-- the arrivals of a request that came on this connection at this moment
abbrev pub arrivals_of : Conn → (moment : ℕ) → Request → List Arrival
arrivals_of conn moment request = arrivals_from conn.key conn.next moment (records_of request)

-- the line that a reply is written as
abbrev pub reply_line : Reply → List ℕ
reply_line reply = codes "reply " ++ decimal (status_of reply) ++ codes " " ++ json_body reply ++ codes "\n"
