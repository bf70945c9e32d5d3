-- A lane, and what its pushes do to its ports.
use Rattle.std.specs.Prelude.{◌≡◌, ℕ, ◌+◌, ◌<◌, ◌==◌, Bool, false, List, [], ◌∷◌, length, filter, slice_get, slice_set, Option, Some, None, ◌⊎◌}
use Rattle.span_ids.specs.Route.{shard_of}
use Rattle.otlp_types.specs.declared.span.Ids.{Ids}
use Rattle.otlp_types.specs.declared.arrival.Arrival.{Arrival}
use Rattle.otlp_types.specs.declared.arrival.Item.{Item}
use Rattle.otlp_types.specs.declared.arrival.Item.TheVariants.{Span}
use Rattle.lane_seq.specs.declared.reply.Reply.{Reply}
use Rattle.lane_seq.specs.Numbers.{is_invalid}
use Rattle.lane_seq.specs.Replies.{IsReplyTo}

-- a lane's number, how many connections it has had, its ports, one for each shard, and whether it keeps doubles
pub record LaneState (P : Type 0) : Type 0 where
  pub number : ℕ
  pub connected : ℕ
  pub ports : List P
  pub keeps_doubles : Bool

-- the span of an arrival with these ids goes to this shard, of so many
abbrev pub goes_to : (shard shards : ℕ) → Option Ids → Bool
goes_to shard shards None = false
goes_to shard shards (Some ids) = shard_of ids.trace shards == shard

-- how many spans of these arrivals go to it
abbrev pub count_to : (shard shards : ℕ) → List Arrival → ℕ
count_to shard shards arrivals = length (filter (λ a. goes_to shard shards a.rec.span.ids) arrivals)

module _ {P : Type 0} where
  -- the port of this shard is said to take so many items as there are spans, or as many as go to that shard
  abbrev pub FitsAt : (fits : P → ℕ → Type 0) → List P → List Arrival → (shard : ℕ) → Type 0
  FitsAt fits ports arrivals shard = (port : P) × (slice_get ports shard ≡ Some port) × (fits port (length arrivals) ⊎ fits port (count_to shard (length ports) arrivals))

  -- it is said to take neither
  abbrev pub LacksAt : (lacks : P → ℕ → Type 0) → List P → List Arrival → (shard : ℕ) → Type 0
  LacksAt lacks ports arrivals shard = (port : P) × (slice_get ports shard ≡ Some port) × lacks port (length arrivals) × lacks port (count_to shard (length ports) arrivals)

  -- each port is said to take what goes to its shard
  abbrev pub FitEach : (fits : P → ℕ → Type 0) → List P → List Arrival → Type 0
  FitEach fits ports arrivals = (shard : ℕ) → shard < length ports → FitsAt fits ports arrivals shard

  -- some port isn't
  abbrev pub LacksSome : (lacks : P → ℕ → Type 0) → List P → List Arrival → Type 0
  LacksSome lacks ports arrivals = (shard : ℕ) × LacksAt lacks ports arrivals shard

-- `takes` and `refuses` say what a push does to a port, where it puts the item in and where it is refused
module _ {P : Type 0} (takes : P → Item → P → Type 0) (refuses : P → P → Type 0) where
  -- the port of this shard takes the item, and the others are as before
  abbrev pub TakesAt : (shard : ℕ) → Item → (old new : List P) → Type 0
  TakesAt shard item old new = (before : P) × (after : P) × (slice_get old shard ≡ Some before) × takes before item after × (new ≡ slice_set old shard after)

  -- the port of this shard refuses, and the others are as before
  abbrev pub RefusesAt : (shard : ℕ) → (old new : List P) → Type 0
  RefusesAt shard old new = (before : P) × (after : P) × (slice_get old shard ≡ Some before) × refuses before after × (new ≡ slice_set old shard after)

  -- an item is pushed to the port of its trace's shard; without valid ids it is not pushed; `refused` counts a push
  -- that was refused
  abbrev pub PushesOne : Option Ids → Item → (old : List P) → (refused : ℕ) → (new : List P) → Type 0
  PushesOne None item old refused new = (refused ≡ 0) × (new ≡ old)
  PushesOne (Some ids) item old refused new =
      ((refused ≡ 0) × TakesAt (shard_of ids.trace (length old)) item old new)
      ⊎ ((refused ≡ 1) × RefusesAt (shard_of ids.trace (length old)) old new)

  -- the spans of these arrivals are pushed one after the other; `refused` is the number of refused pushes
  abbrev pub PushesAll : List Arrival → (old : List P) → (refused : ℕ) → (new : List P) → Type 0
  PushesAll [] old refused new = (refused ≡ 0) × (new ≡ old)
  PushesAll (a ∷ rest) old refused new = (first : ℕ) × (others : ℕ) × (between : List P)
      × (refused ≡ first + others) × PushesOne a.rec.span.ids (Span a) old first between × PushesAll rest between others new

  -- the arrivals of a request are pushed, and the reply tells how many were not taken, for each cause
  pub record Receives (arrivals : List Arrival) (old : List P) (reply : Reply) (new : List P) : Type 0 where
    pub refused : ℕ
    pub pushed : PushesAll arrivals old refused new
    pub replied : IsReplyTo (length arrivals) (length (filter is_invalid arrivals)) refused reply
