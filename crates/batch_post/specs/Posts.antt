-- Destinations whose lines are batches for a backend.
use Rattle.std.specs.Prelude.{◌≡◌, ℕ, List, Option, Result, Ok, Err}
use Rattle.span_sink.specs.declared.sink.SinkFault.{SinkFault}
use Rattle.span_sink.specs.declared.sink.SinkFault.TheVariants.{Failed, Down, Refused}
use Rattle.span_sink.specs.LineSinks.{LineSinkState, up_state}
use Rattle.batch_post.specs.declared.outcome.BatchFate.{BatchFate}
use Rattle.batch_post.specs.declared.outcome.BatchFate.TheVariants.{Delivered, GivenUp}
use Rattle.batch_post.specs.declared.rule.Retry.{Retry}
use Rattle.batch_post.specs.Logs.{LogEntry}
use Rattle.batch_post.specs.Deliveries.{Posts, known_bytes}

-- the rule, and what was tried, read, waited and settled, where that is known
pub record PostsState : Type 0 where
  pub rule : Retry
  pub log : Option (List LogEntry)

-- as a destination: it took the batches that were delivered, and is never down
abbrev pub posts_state : PostsState → LineSinkState
posts_state s = up_state (known_bytes s.log) 0

-- a batch was tried by the rule, which stays, and settled so
abbrev pub Posted : (old : PostsState) → (batch : List ℕ) → BatchFate → (new : PostsState) → Type 0
Posted old batch fate new = (new.rule ≡ old.rule) × Posts old.rule old.log new.log batch fate

-- what lines are printed to, and what they are posted to
pub record PrintedState : Type 0 where
  pub lines : LineSinkState
  pub posts : PostsState

-- a line was posted where it was printed whole, and settled as it is answered; else nothing was posted
abbrev pub posts_behind : (old : PrintedState) → (line : List ℕ) → Result (Unit {0}) SinkFault → (new : PrintedState) → Type 0
posts_behind old line (Ok done) new = Posted old.posts line Delivered new.posts
posts_behind old line (Err Refused) new = Posted old.posts line GivenUp new.posts
posts_behind old line (Err Failed) new = new.posts ≡ old.posts
posts_behind old line (Err Down) new = new.posts ≡ old.posts
