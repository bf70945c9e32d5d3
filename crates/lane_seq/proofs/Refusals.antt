-- How many spans of a request found their queue full, by its reply.
-- For the clause `waiting` of `receive` and of `submit`, and for the contract of `full_queues_are_counted`.
use Rattle.std.proofs.Common.{◌≡◌, ◌∙◌, ℕ, ◌+◌, refl, arith}
use Rattle.lane_seq.specs.declared.reply.Reply.{Reply}
use Rattle.lane_seq.specs.declared.reply.Reply.TheVariants.{Done, Partial, BadData, Busy}
use Rattle.lane_seq.specs.Counting.{FullQueuesAreCounted}
use Rattle.lane_seq.specs.Replies.{IsRefusal, IsReplyTo, full_in}

-- a reply tells how many did
pub full_of_reply : (spans invalid full : ℕ) (reply : Reply) → IsReplyTo spans invalid full reply → full ≡ 0 → full_in reply ≡ 0
full_of_reply spans invalid full (Done n) is none = refl
full_of_reply spans invalid full (Partial n i f) is none = is.2 ∙ none
full_of_reply spans invalid full (BadData cause) is none = refl
full_of_reply spans invalid full Busy is none = refl

-- where none was received, none did
pub full_of_refusal : (reply : Reply) → IsRefusal reply → full_in reply ≡ 0
full_of_refusal (Done n) is = refl
full_of_refusal (Partial n i f) is = absurd is
full_of_refusal (BadData cause) is = refl
full_of_refusal Busy is = refl

-- what it adds to those that did
pub full_queues_are_counted : FullQueuesAreCounted
full_queues_are_counted (Done spans) = refl
full_queues_are_counted (Partial spans invalid full) = let e : 0 + full ≡ full = omega arith in e
full_queues_are_counted (BadData cause) = refl
full_queues_are_counted Busy = refl
