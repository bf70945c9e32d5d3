-- Where a received span is.
use Rattle.std.specs.Prelude.{◌≡◌, ℕ, ◌+◌, Bool, true, false, List, [], ◌∷◌, ◌++◌, map, filter, flat_map, IsTrue}
use Rattle.std.specs.List.{list_all}
use Rattle.journal_theory.specs.Journal.{undecided, notes_dealt, Settings, Journal, spans_since, have_ended}
use Rattle.journal_theory.specs.Fate.{DroppedSpan}
use Rattle.otlp_types.specs.declared.arrival.Arrival.{Arrival}
use Rattle.span_ids.specs.declared.keys.ArrivalKey.{ArrivalKey}
use Rattle.span_ids.specs.declared.outcome.Reason.{Reason}
use Rattle.world_theory.specs.World.{CoreConfig, CoreLane, CoreShard, World, settings, same_key}

-- a place of a span
pub data Place : Type 0 where
  -- among a lane's spans that are still to be routed
  unrouted : (lane : ℕ) → Place
  -- in a shard's queue
  queued : (shard : ℕ) → Place
  -- in an episode of a shard's buffer that is undecided, or whose decision was not dealt with
  buffered : (shard : ℕ) → Place
  -- released by a shard, and not shipped
  unshipped : (shard : ℕ) → Place
  -- in the export list
  exported : Place
  -- in the open batch
  in_batch : Place
  -- in a batch that was handed over
  handed : Place
  -- counted under a reason
  counted_under : Reason → Place

-- the first six places are those of a waiting span
abbrev pub is_waiting : Place → Bool
is_waiting (unrouted lane) = true
is_waiting (queued shard) = true
is_waiting (buffered shard) = true
is_waiting (unshipped shard) = true
is_waiting exported = true
is_waiting in_batch = true
is_waiting handed = false
is_waiting (counted_under reason) = false

-- a key at a place
pub record HeldKey : Type 0 where
  pub place : Place
  pub key : ArrivalKey

-- the keys of these spans, at this place
abbrev pub held_at : Place → List Arrival → List HeldKey
held_at place spans = map (λ a. record { place = place; key = a.key }) spans

-- the spans of the episodes in the buffer that were not decided, or whose decision was not dealt with
abbrev pub buffered_spans : Settings → Journal → (dealt : ℕ) → List Arrival
buffered_spans s past dealt = flat_map (spans_since past) (undecided s (notes_dealt s past dealt))

-- what the lanes hold, where the first has this number
abbrev pub held_by_lanes : (number : ℕ) → List CoreLane → List HeldKey
held_by_lanes n [] = []
held_by_lanes n (l ∷ rest) = held_at (unrouted n) l.unrouted ++ held_by_lanes (n + 1) rest

-- what the shard of this number holds
abbrev pub held_by_shard : Settings → (number : ℕ) → CoreShard → List HeldKey
held_by_shard s n sh = held_at (queued n) sh.queue ++ held_at (buffered n) (buffered_spans s sh.journal sh.dealt) ++ held_at (unshipped n) sh.unshipped

-- what the shards hold, where the first has this number
abbrev pub held_by_shards : Settings → (number : ℕ) → List CoreShard → List HeldKey
held_by_shards s n [] = []
held_by_shards s n (sh ∷ rest) = held_by_shard s n sh ++ held_by_shards s (n + 1) rest

-- all keys that the world holds, each occurrence with its place
abbrev pub held : CoreConfig → World → List HeldKey
held c w = held_by_lanes 0 w.lanes ++ held_by_shards (settings c w) 0 w.shards ++ held_at exported w.exported ++ held_at in_batch w.batch
    ++ flat_map (held_at handed) w.handed ++ map (λ (n : DroppedSpan). record { place = counted_under n.reason; key = n.key }) w.counted

-- the places of a key: one for each of its occurrences
abbrev pub places : CoreConfig → World → ArrivalKey → List Place
places c w k = map (λ (h : HeldKey). h.place) (filter (λ (h : HeldKey). same_key h.key k) (held c w))

-- what waits
abbrev pub waiting : CoreConfig → World → List HeldKey
waiting c w = filter (λ (h : HeldKey). is_waiting h.place) (held c w)

-- closed: every lane has ended, every shard has taken every sender's End, and nothing waits
pub record IsClosed (c : CoreConfig) (w : World) : Type 0 where
  pub lanes_ended : IsTrue (list_all (λ (l : CoreLane). l.ended) w.lanes)
  pub ends_taken : IsTrue (list_all (λ (sh : CoreShard). have_ended sh.journal (settings c w).senders) w.shards)
  pub nothing_waits : waiting c w ≡ []
