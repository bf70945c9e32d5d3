-- What holds of every run: each received span is in one place that fits its fate, order is kept, remembered decisions
-- are met, and nothing is handed over after close.
use Rattle.std.specs.Prelude.{IsSome, ◌⊎◌, ◌≡◌, ℕ, ◌<◌, Bool, true, false, ◌&&◌, ◌||◌, ◌==◌, List, [], ◌∷◌, ◌++◌, length, count_by, slice_get, flat_map, Option, Some, None, IsTrue, IsFalse, AllPairs, Contains}
use Rattle.std.specs.List.{list_any}
use Rattle.policy_eval.specs.Given.{verdict_given, are_answered}
use Rattle.span_ids.specs.Same.{same_trace}
use Rattle.journal_theory.specs.Journal.{Entry, Settings, Journal, Opening, has_ended, spans_since, due_now, policies_for, notes, remembered, latest_episode}
use Rattle.journal_theory.specs.Fate.{Fate, waits, is_released, is_counted, fate, is_same_reason, effect_dealt}
use Rattle.otlp_types.specs.declared.span.Ids.{Ids}
use Rattle.otlp_types.specs.declared.arrival.Arrival.{Arrival}
use Rattle.otlp_types.specs.declared.arrival.Item.{Item}
use Rattle.otlp_types.specs.declared.arrival.Item.TheVariants.{Span, Tick, End}
use Rattle.span_ids.specs.declared.ids.TraceId.{TraceId}
use Rattle.span_ids.specs.declared.keys.ArrivalKey.{ArrivalKey}
use Rattle.span_ids.specs.declared.outcome.Verdict.{Verdict}
use Rattle.span_ids.specs.declared.outcome.Verdict.TheVariants.{Sampled, NotSampled}
use Rattle.span_ids.specs.declared.outcome.Reason.{Reason}
use Rattle.span_ids.specs.declared.outcome.Reason.TheVariants.{InvalidId, QueueFull, Evicted, NotSampled as DecidedAgainst, NoMemory, ExporterDown, LateNotSampled}
use Rattle.world_theory.specs.World.{may_give_up, KeepsATrace, CoreConfig, CoreLane, CoreShard, World, settings, has_due, is_same_conn, same_key}
use Rattle.world_theory.specs.Step.{Step, fail, step, run, is_of_conn, lane_is_done}
use Rattle.world_theory.specs.Places.{Place, buffered, unshipped, exported, in_batch, handed, counted_under, places, IsClosed}

-- ---- received, taken

-- a lane received this span, as it stands
pub record WasReceived (w : World) (a : Arrival) : Type 0 where
  pub lane : ℕ
  pub of : CoreLane
  pub in_world : slice_get w.lanes lane ≡ Some of
  pub has : Contains of.received a

-- a shard took a span: its marks and the answers that stand with it, and the shard's journal before and after it
pub record TakenSpan (w : World) : Type 0 where
  pub shard : ℕ
  pub of : CoreShard
  pub in_world : slice_get w.shards shard ≡ Some of
  pub arrival : Arrival
  pub ids : Ids
  pub valid : arrival.rec.span.ids ≡ Some ids
  pub refused : Bool
  pub lost : Bool
  pub answers : List (List Bool)
  pub later : Journal
  pub before : Journal
  pub split : of.journal ≡ later ++ record { item = Span arrival; refused = refused; lost = lost; answers = answers } ∷ before

-- the fate of a span that was taken, by its shard's journal
abbrev pub fate_of : (c : CoreConfig) (w : World) → TakenSpan w → Fate
fate_of c w t = fate (settings c w) t.of.journal t.before t.refused t.ids

-- a shard took the span, and by its journal this became of it
abbrev pub HasFate : CoreConfig → World → Arrival → Fate → Type 0
HasFate c w a became = (t : TakenSpan w) × (t.arrival ≡ a) × (fate_of c w t ≡ became)

-- ---- one place

-- a lane received a span of this key
abbrev pub is_received : World → ArrivalKey → Bool
is_received w k = list_any (λ (l : CoreLane). list_any (λ a. same_key a.key k) l.received) w.lanes

-- a received span's key names its lane, and its number is how many spans its connection received before it: so no two
-- received spans have one key
abbrev pub IsNumbered : World → Type 0
IsNumbered w = (lane : ℕ) (l : CoreLane) (before later : List Arrival) (a : Arrival) → slice_get w.lanes lane ≡ Some l → l.received ≡ before ++ a ∷ later
    → (a.key.conn.lane ≡ lane) × (a.key.number ≡ count_by (is_of_conn a.key.conn) before)

-- received spans are numbered, each received key has one place, and no other key has any
pub record InOnePlace (c : CoreConfig) (w : World) : Type 0 where
  pub numbered : IsNumbered w
  pub received : (k : ArrivalKey) → IsTrue (is_received w k) → length (places c w k) ≡ 1
  pub others : (k : ArrivalKey) → IsFalse (is_received w k) → places c w k ≡ []

-- ---- the place that fits the fate

-- the place is this shard's buffer
abbrev pub is_buffered : (shard : ℕ) → Place → Bool
is_buffered shard (buffered n) = n == shard
is_buffered shard _ = false

-- the place is among what is counted under this reason
abbrev pub is_under : Reason → Place → Bool
is_under reason (counted_under r) = is_same_reason r reason
is_under reason _ = false

-- where a span may be that this shard released: a batch that was given up is counted for want of memory or for its destination
abbrev pub is_past_release : (shard : ℕ) → Place → Bool
is_past_release shard (unshipped n) = n == shard
is_past_release shard exported = true
is_past_release shard in_batch = true
is_past_release shard handed = true
is_past_release shard (counted_under NoMemory) = true
is_past_release shard (counted_under ExporterDown) = true
is_past_release shard _ = false

-- where a span of this fate may be: while something is due, the spans of a decision to come are in the buffer
abbrev pub is_where : (shard : ℕ) → (due : Bool) → Fate → Place → Bool
is_where shard due waits place = is_buffered shard place
is_where shard due is_released place = is_past_release shard place || due && is_buffered shard place
is_where shard due (is_counted reason) place = is_under reason place || due && is_buffered shard place

-- each span that a shard took is in one place, which fits its fate
abbrev pub PlaceFitsFate : CoreConfig → World → Type 0
PlaceFitsFate c w = (t : TakenSpan w)
    → (place : Place) × (places c w t.arrival.key ≡ place ∷ []) × IsTrue (is_where t.shard (has_due (settings c w) t.of) (fate_of c w t) place)

-- ---- counted with its cause

-- the item is the span of this key
abbrev pub is_span_with : ArrivalKey → Item → Bool
is_span_with k (Span a) = same_key a.key k
is_span_with k (Tick m) = false
is_span_with k (End sender) = false

-- some shard took the span of this key
abbrev pub was_taken : World → ArrivalKey → Bool
was_taken w k = list_any (λ (sh : CoreShard). list_any (λ (e : Entry). is_span_with k e.item) sh.journal) w.shards

-- the cause of a count; that a queue was full, that memory was refused, or that a destination which may refuse a batch
-- refused this one, is an input of its step
abbrev pub HasCause : CoreConfig → World → Arrival → Reason → Type 0
HasCause c w a InvalidId = a.rec.span.ids ≡ None
HasCause c w a QueueFull = IsSome a.rec.span.ids × IsFalse (was_taken w a.key)
HasCause c w a NoMemory = HasFate c w a (is_counted NoMemory) ⊎ HasFate c w a is_released
HasCause c w a Evicted = HasFate c w a (is_counted Evicted)
HasCause c w a DecidedAgainst = HasFate c w a (is_counted DecidedAgainst)
HasCause c w a LateNotSampled = HasFate c w a (is_counted LateNotSampled)
HasCause c w a ExporterDown = IsTrue (may_give_up c w.down) × HasFate c w a is_released

-- a received span that is counted under a reason has its cause
abbrev pub CountedWithCause : CoreConfig → World → Type 0
CountedWithCause c w = (a : Arrival) (reason : Reason) → WasReceived w a → places c w a.key ≡ counted_under reason ∷ [] → HasCause c w a reason

-- ---- received order

-- the spans that were handed over, in order
abbrev pub handed_spans : World → List Arrival
handed_spans w = flat_map (λ batch. batch) w.handed

-- both ids are valid, and of one trace
abbrev pub have_same_trace : Option Ids → Option Ids → Bool
have_same_trace (Some i) (Some j) = same_trace i.trace j.trace
have_same_trace _ _ = false

-- of two spans of one connection and trace, the first has the lesser number
abbrev pub ComesFirst : Arrival → Arrival → Type 0
ComesFirst a b = IsTrue (is_same_conn a.key.conn b.key.conn && have_same_trace a.rec.span.ids b.rec.span.ids) → a.key.number < b.key.number

-- spans of one connection and trace are handed over in received order
abbrev pub InReceivedOrder : World → Type 0
InReceivedOrder w = AllPairs ComesFirst (handed_spans w)

-- ---- remembered decisions

-- the trace's latest episode was due at an item, and the verdict is that of the policies that decide on the spans that
-- it had there, with the limiter's answers that were given to its decision, one for each asking
pub record WasDecided (s : Settings) (before : Journal) (t : TraceId) (v : Verdict) : Type 0 where
  pub since : Journal
  pub item : Entry
  pub past : Journal
  pub split : before ≡ since ++ item ∷ past
  pub opening : Opening
  pub latest : latest_episode (notes s before) t ≡ Some opening
  pub sooner : List Opening
  pub rest : List Opening
  pub due : due_now s (item ∷ past) ≡ sooner ++ opening ∷ rest
  pub answers : List Bool
  pub given : slice_get item.answers (length sooner) ≡ Some answers
  pub enough : are_answered (policies_for s (spans_since (item ∷ past) opening)) answers (spans_since (item ∷ past) opening) ≡ true
  pub verdict : v ≡ verdict_given (policies_for s (spans_since (item ∷ past) opening)) answers (spans_since (item ∷ past) opening)

-- where a span may be that met this verdict
abbrev pub is_where_late : (shard : ℕ) → Verdict → Place → Bool
is_where_late shard Sampled place = is_past_release shard place
is_where_late shard NotSampled place = is_under LateNotSampled place

-- A span that was taken while its trace was remembered was not refused, and is where that verdict puts it: in this
-- world and, since journals only grow, in every later one.
abbrev pub MeetsRemembered : CoreConfig → World → Type 0
MeetsRemembered c w = (t : TakenSpan w) (v : Verdict) → remembered (settings c w) (notes (settings c w) t.before) t.ids.trace ≡ Some v
    → (t.refused ≡ false) × ((place : Place) × (places c w t.arrival.key ≡ place ∷ []) × IsTrue (is_where_late t.shard v place))
    × WasDecided (settings c w) t.before t.ids.trace v

-- what was handed over was received as it stands, and is what its shard's journal releases
abbrev pub OnlyReleased : CoreConfig → World → Type 0
OnlyReleased c w = (a : Arrival) → Contains (handed_spans w) a → WasReceived w a × HasFate c w a is_released

-- what each shard has shipped, followed by what it has not shipped, is what its journal released
abbrev pub ShipsOutput : CoreConfig → World → Type 0
ShipsOutput c w = (shard : ℕ) (sh : CoreShard) → slice_get w.shards shard ≡ Some sh
    → (shipped : List Arrival) × (shipped ++ sh.unshipped ≡ (effect_dealt (settings c w) sh.journal sh.dealt).released)

-- ---- close

-- a shard that took a lane's End has nothing of that lane to come
abbrev pub EndsLast : World → Type 0
EndsLast w = (shard lane : ℕ) (sh : CoreShard) (l : CoreLane) → slice_get w.shards shard ≡ Some sh → slice_get w.lanes lane ≡ Some l
    → IsTrue (has_ended sh.journal lane) → IsTrue (lane_is_done w shard sh lane l)

-- from a closed world only `fail` is enabled, which changes neither what was handed over nor the counts
abbrev pub NothingAfterClose : CoreConfig → World → Type 0
NothingAfterClose c w = IsClosed c w → (s : Step) (next : World) → step c w s ≡ Some next
    → (s ≡ fail) × (next.handed ≡ w.handed) × (next.counted ≡ w.counted)

-- ---- all of it

-- all parts of the headline
pub record HoldsOf (c : CoreConfig) (w : World) : Type 0 where
  pub one_place : InOnePlace c w
  pub fits : PlaceFitsFate c w
  pub cause : CountedWithCause c w
  pub order : InReceivedOrder w
  pub remembered : MeetsRemembered c w
  pub only_released : OnlyReleased c w
  pub ships : ShipsOutput c w
  pub ends_last : EndsLast w
  pub after_close : NothingAfterClose c w

-- in every run, for every configuration that keeps a trace and every number of lanes and shards
abbrev pub OfEachRun : (CoreConfig → World → Type 0) → Type 0
OfEachRun P = (c : CoreConfig) (lanes shards : ℕ) (steps : List Step) (w : World) → KeepsATrace c → run c lanes shards steps ≡ Some w → P c w

-- the headline: in every run all of it holds
abbrev pub Headline : Type 0
Headline = OfEachRun HoldsOf
