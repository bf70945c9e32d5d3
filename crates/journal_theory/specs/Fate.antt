-- What becomes of each span of a journal.
use Rattle.std.specs.Prelude.{ℕ, Bool, true, false, if◌then◌else◌, List, [], ◌∷◌, ◌++◌, map, length, take, filter, Option, Some, None}
use Rattle.journal_theory.specs.Journal.{Settings, Journal, Opening, Decision, Notes, Finding, joins, meets, opens, notes, finding, decisions_now, decided_as, is_in_buffer, in_buffer, leaving, spans_since}
use Rattle.otlp_types.specs.declared.span.Ids.{Ids}
use Rattle.otlp_types.specs.declared.arrival.Arrival.{Arrival}
use Rattle.span_ids.specs.declared.keys.ArrivalKey.{ArrivalKey}
use Rattle.otlp_types.specs.declared.arrival.Item.{Item}
use Rattle.otlp_types.specs.declared.arrival.Item.TheVariants.{Span}
use Rattle.journal_theory.specs.Journal.{Entry}
use Rattle.span_ids.specs.declared.outcome.Verdict.{Verdict}
use Rattle.span_ids.specs.declared.outcome.Verdict.TheVariants.{Sampled, NotSampled}
use Rattle.span_ids.specs.declared.outcome.Reason.{Reason}
use Rattle.span_ids.specs.declared.outcome.Reason.TheVariants.{InvalidId, QueueFull, NoMemory, Evicted, LateNotSampled, ExporterDown, NotSampled as DecidedAgainst}

-- ---- the fate of a span

-- what becomes of a span that was taken
pub data Fate : Type 0 where
  waits : Fate
  is_released : Fate
  is_counted : Reason → Fate

-- by the verdict of its trace: released, or counted under the reason against it
abbrev pub fate_of_verdict : Reason → Verdict → Fate
fate_of_verdict against Sampled = is_released
fate_of_verdict against NotSampled = is_counted against

-- a member of the episode of this opening: by its decision; else it waits in the buffer, or its episode left undecided
abbrev pub fate_of_member_decided : (in_buffer : Bool) → Option Verdict → Fate
fate_of_member_decided in_buffer (Some v) = fate_of_verdict DecidedAgainst v
fate_of_member_decided true None = waits
fate_of_member_decided false None = is_counted Evicted

-- a member of the episode that opened at this position
abbrev pub fate_of_member : Settings → Notes → (opened_at : ℕ) → Fate
fate_of_member s noted opened_at = fate_of_member_decided (is_in_buffer s noted opened_at) (decided_as noted opened_at)

-- by what the span found where it was taken, at position `own`
abbrev pub fate_of_finding : Settings → Notes → (own : ℕ) → Finding → Fate
fate_of_finding s noted own (meets o v) = fate_of_verdict LateNotSampled v
fate_of_finding s noted own (joins o) = fate_of_member s noted o.at
fate_of_finding s noted own opens = fate_of_member s noted own

-- the fate in a journal of a span with these ids that was taken after `before`
abbrev pub fate : Settings → (journal before : Journal) → (refused : Bool) → Ids → Fate
fate s journal before refused ids = if refused then is_counted NoMemory
    else fate_of_finding s (notes s journal) (length before) (finding s (notes s before) ids.trace)

-- ---- what an item and a decision do at once

-- a span, by its key, that is counted under a reason
pub record DroppedSpan : Type 0 where
  pub reason : Reason
  pub key : ArrivalKey

-- the spans that are released, in order, and those that are counted
pub record Effect : Type 0 where
  pub released : List Arrival
  pub counted : List DroppedSpan

-- nothing is released or counted
abbrev pub no_effect : Effect
no_effect = record { released = []; counted = [] }

-- these spans, counted under a reason
abbrev pub counts : Reason → List Arrival → List DroppedSpan
counts reason spans = map (λ a. record { reason = reason; key = a.key }) spans

-- spans are released, or counted under the reason against them
abbrev pub effect_of_verdict : (against : Reason) → List Arrival → Verdict → Effect
effect_of_verdict against spans Sampled = record { released = spans; counted = [] }
effect_of_verdict against spans NotSampled = record { released = []; counted = counts against spans }

-- the episode that left: undecided, its spans are counted
abbrev pub effect_of_leaving_decided : Reason → List Arrival → Option Verdict → Effect
effect_of_leaving_decided reason spans None = record { released = []; counted = counts reason spans }
effect_of_leaving_decided reason spans (Some v) = no_effect

-- the episode that leaves, if one does
abbrev pub effect_of_leaving : Journal → Notes → Option Opening → Effect
effect_of_leaving before noted None = no_effect
effect_of_leaving before noted (Some o) = effect_of_leaving_decided Evicted (spans_since before o) (decided_as noted o.at)

-- a span, not refused, by what it finds
abbrev pub effect_of_finding : Settings → (before : Journal) → Notes → Arrival → Finding → Effect
effect_of_finding s before noted a (meets o v) = effect_of_verdict LateNotSampled (a ∷ []) v
effect_of_finding s before noted a (joins o) = no_effect
effect_of_finding s before noted a opens = effect_of_leaving before noted (leaving s.num_traces noted.openings)

-- a span with these ids
abbrev pub effect_of_span : Settings → (before : Journal) → (refused : Bool) → Arrival → Option Ids → Effect
effect_of_span s before refused a None = no_effect
effect_of_span s before true a (Some ids) = record { released = []; counted = counts NoMemory (a ∷ []) }
effect_of_span s before false a (Some ids) = effect_of_finding s before (notes s before) a (finding s (notes s before) ids.trace)

-- an item
abbrev pub effect_of_item : Settings → (before : Journal) → (refused : Bool) → Item → Effect
effect_of_item s before refused (Span a) = effect_of_span s before refused a a.rec.span.ids
effect_of_item s before refused _ = no_effect

-- what taking this entry does, before any decision
abbrev pub effect_of_taking : Settings → Entry → (before : Journal) → Effect
effect_of_taking s e before = effect_of_item s before e.refused e.item

-- what a decision does: its spans are released or counted
abbrev pub effect_of_decision : Decision → Effect
effect_of_decision d = effect_of_verdict DecidedAgainst d.spans d.verdict

-- ---- the output and the counts of a journal

infixr 60 ◌then◌
-- one effect, and then another
abbrev pub ◌then◌ : Effect → Effect → Effect
a then b = record { released = a.released ++ b.released; counted = a.counted ++ b.counted }

-- what decisions do, in order
abbrev pub effect_of_decisions : List Decision → Effect
effect_of_decisions [] = no_effect
effect_of_decisions (d ∷ rest) = effect_of_decision d then effect_of_decisions rest

-- What a journal's items and decisions have done, in turn: released spans stand by releasing position, then opening,
-- then arrival.
abbrev pub effect : Settings → Journal → Effect
effect s [] = no_effect
effect s (e ∷ before) = (effect s before then effect_of_taking s e before) then effect_of_decisions (decisions_now s (e ∷ before))

-- the same, where of the decisions at the last item this number were dealt with
abbrev pub effect_dealt : Settings → Journal → (dealt : ℕ) → Effect
effect_dealt s [] dealt = no_effect
effect_dealt s (e ∷ before) dealt = (effect s before then effect_of_taking s e before) then effect_of_decisions (take dealt (decisions_now s (e ∷ before)))

-- the released spans, in order
abbrev pub output : Settings → Journal → List Arrival
output s past = (effect s past).released

-- two reasons are the same
abbrev pub is_same_reason : Reason → Reason → Bool
is_same_reason InvalidId InvalidId = true
is_same_reason QueueFull QueueFull = true
is_same_reason NoMemory NoMemory = true
is_same_reason Evicted Evicted = true
is_same_reason DecidedAgainst DecidedAgainst = true
is_same_reason LateNotSampled LateNotSampled = true
is_same_reason ExporterDown ExporterDown = true
is_same_reason _ _ = false

-- the keys counted under a reason
abbrev pub under : Reason → List DroppedSpan → List ArrivalKey
under reason counted = map (λ c. c.key) (filter (λ c. is_same_reason c.reason reason) counted)

-- the spans released, in order, where of the decisions at the last item this number were dealt with
abbrev pub released_dealt : Settings → Journal → (dealt : ℕ) → List Arrival
released_dealt s past dealt = (effect_dealt s past dealt).released

-- how many spans were counted under a reason, where this number were dealt with
abbrev pub dropped_dealt : Settings → Journal → (dealt : ℕ) → Reason → ℕ
dropped_dealt s past dealt reason = length (under reason (effect_dealt s past dealt).counted)
