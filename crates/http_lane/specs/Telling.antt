-- What a clock is told of the requests that were taken, one after the other.
use Rattle.std.specs.Prelude.{◌≡◌, ℕ, ◌+◌, Bool, ◌&&◌, if◌then◌else◌, List, [], ◌∷◌, length, flat_map}
use Rattle.span_ids.specs.declared.keys.ConnKey.{ConnKey}
use Rattle.otlp_encoding.specs.declared.encoding.Encoding.{Encoding}
use Rattle.lane_seq.specs.Replies.{is_received}
use Rattle.http_lane.specs.Connection.{Submission}

-- a request some of whose spans were received: its connection, its moment, and its text
pub record TakenRequest : Type 0 where
  pub connection : ConnKey
  pub moment : ℕ
  pub encoding : Encoding
  pub text : List ℕ

-- the request of what a lane was handed on a connection
abbrev pub request_of : ConnKey → Submission → TakenRequest
request_of connection s = record { connection = connection; moment = s.moment; encoding = s.encoding; text = s.body }

-- it was taken where its spans were received and found their place in the counts
abbrev pub is_taken : Submission → Bool
is_taken s = is_received s.reply && s.is_counted

-- those that were taken, in the order in which they were received
abbrev pub taken_of : ConnKey → List Submission → List TakenRequest
taken_of connection ss = flat_map (λ (s : Submission). if is_taken s then request_of connection s ∷ [] else []) ss

-- of these requests a clock was told, one behind the other, the first of them at this place, where `heard` says what it
-- was told of at a place
abbrev pub AreHeard : (heard : (place : ℕ) → TakenRequest → Type 0) → (place : ℕ) → List TakenRequest → Type 0
AreHeard heard place [] = Unit {0}
AreHeard heard place (r ∷ requests) = heard place r × AreHeard heard (place + 1) requests

-- While a lane was handed these on one connection its clock was told of just those that were taken, in their order. It
-- had been told of `before` requests, and then of `after`.
pub record TellsTaken (heard : (place : ℕ) → TakenRequest → Type 0) (before after : ℕ) (old new : ConnKey) (ss : List Submission) : Type 0 where
  pub told : AreHeard heard before (taken_of old ss)
  pub all : after ≡ before + length (taken_of old ss)
  pub same : new ≡ old
