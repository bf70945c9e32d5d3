-- Replies to requests.
use Rattle.std.specs.Prelude.{◌≡◌, ℕ, ◌+◌, ◌<◌, Bool, true, false}
use Rattle.lane_seq.specs.declared.reply.Reply.{Reply}
use Rattle.lane_seq.specs.declared.reply.Reply.TheVariants.{Done, Partial, BadData, Busy}

-- a reply to a request of which no span was received
abbrev pub IsRefusal : Reply → Type 0
IsRefusal (Done spans) = ⊥
IsRefusal (Partial spans invalid full) = ⊥
IsRefusal (BadData cause) = Unit {0}
IsRefusal Busy = Unit {0}

-- the request's spans were received
abbrev pub is_received : Reply → Bool
is_received (Done spans) = true
is_received (Partial spans invalid full) = true
is_received (BadData cause) = false
is_received Busy = false

-- how many spans of the request found their queue full
abbrev pub full_in : Reply → ℕ
full_in (Done spans) = 0
full_in (Partial spans invalid full) = full
full_in (BadData cause) = 0
full_in Busy = 0

-- this fact, where the request's spans were received
abbrev pub OnReceived : Reply → Type 0 → Type 0
OnReceived (Done spans) fact = fact
OnReceived (Partial spans invalid full) fact = fact
OnReceived (BadData cause) fact = Unit {0}
OnReceived Busy fact = Unit {0}

-- the reply to a request of so many spans, of which so many have invalid ids and so many found their queue full
abbrev pub IsReplyTo : (spans invalid full : ℕ) → Reply → Type 0
IsReplyTo spans invalid full (Done n) = (n ≡ spans) × (invalid + full ≡ 0)
IsReplyTo spans invalid full (Partial n i f) = (n ≡ spans) × (i ≡ invalid) × (f ≡ full) × (0 < invalid + full)
IsReplyTo spans invalid full (BadData cause) = ⊥
IsReplyTo spans invalid full Busy = ⊥
