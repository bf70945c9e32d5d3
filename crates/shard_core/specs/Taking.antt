-- What `take` and `decide` answer.
use Rattle.std.specs.Prelude.{ℕ, ◌+◌, ◌/◌, ◌≡◌, ◌==◌, max, Bool, true, false, is_none, if◌then◌else◌, List, [], ◌∷◌, ◌++◌, length, drop, filter, slice_set, Option, Some, None, option_map}
use Rattle.journal_theory.specs.Journal.{Settings, Journal, Opening, Notes, Finding, joins, meets, opens, notes, finding, leaving, cache_size, has_finished, due_now, item_moment, policies_for, spans_since, clock, answered}
use Rattle.journal_theory.specs.Standing.{evicted_of}
use Rattle.trace_buffer.specs.declared.episode.Evicted.{Evicted}
use Rattle.decision_cache.specs.declared.traces.Remembered.{Remembered}
use Rattle.decision_cache.specs.declared.traces.Remembered.TheVariants.{Kept as InCache, Off, Lost}
use Rattle.journal_theory.specs.Fate.{Fate, waits, is_released, is_counted, fate, is_same_reason, released_dealt, dropped_dealt}
use Rattle.policy_eval.specs.Amounts.{amount_at}
use Rattle.policy_eval.specs.Given.{verdict_given, decider_given, told_given, asked_given, are_answered, Asked}
use Rattle.policy_eval.specs.declared.answer.Answer.{Answer}
use Rattle.otlp_types.specs.declared.span.Ids.{Ids}
use Rattle.otlp_types.specs.declared.arrival.Arrival.{Arrival}
use Rattle.otlp_types.specs.declared.arrival.Item.{Item}
use Rattle.otlp_types.specs.declared.arrival.Item.TheVariants.{Span, Tick, End}
use Rattle.journal_theory.specs.Journal.{Entry}
use Rattle.span_ids.specs.declared.outcome.Verdict.{Verdict}
use Rattle.span_ids.specs.declared.outcome.Verdict.TheVariants.{Sampled, NotSampled}
use Rattle.span_ids.specs.declared.outcome.Reason.{Reason}
use Rattle.span_ids.specs.declared.outcome.Reason.TheVariants.{NoMemory, LateNotSampled, NotSampled as NotSampledReason, Evicted as EvictedReason}
use Rattle.shard_core.specs.Held.{Held, settings, StandsFor}
use Rattle.shard_core.specs.declared.answer.Taken.{Taken}
use Rattle.shard_core.specs.declared.answer.Taken.TheVariants.{Kept, Late, Dropped, Ticked, Ended, Finished}
use Rattle.shard_core.specs.declared.answer.Decided.{Decided}
use Rattle.shard_core.specs.declared.answer.Decided.TheVariants.{Release, Nothing, Dropped as NotReleased}

-- ---- what `take` answers

-- memory was refused to the span
abbrev pub is_refusal : Taken → Bool
is_refusal (Dropped NoMemory) = true
is_refusal _ = false

-- the span waits for its trace's decision
abbrev pub is_kept : Taken → Bool
is_kept (Kept evicted cache) = true
is_kept _ = false

-- memory was refused to the put of the decision that the opening evicted
abbrev pub is_loss : Taken → Bool
is_loss (Kept evicted (Some Lost)) = true
is_loss _ = false

-- the item as the shard's answer marks it, with no decision answered yet
abbrev pub entry : Item → Taken → Entry
entry item answer = record { item = item; refused = is_refusal answer; lost = is_loss answer; answers = [] }

-- the answer to a late span, by the verdict that it meets
abbrev pub answer_to_late : Arrival → Verdict → Taken
answer_to_late a Sampled = Late a
answer_to_late a NotSampled = Dropped LateNotSampled

-- what became of a put, by the size of the cache
abbrev pub put_in : (lost : Bool) → (size : ℕ) → Remembered
put_in lost size = if lost then Lost else if size == 0 then Off else InCache

-- what became of the verdict of the episode that left, if it was decided
abbrev pub put_answer : Settings → (lost : Bool) → Option Evicted → Option Remembered
put_answer s lost None = None
put_answer s lost (Some e) = option_map (λ v. put_in lost (cache_size s v)) e.verdict

-- the answer to a span, not refused, by what it finds
abbrev pub answer_to_finding : Settings → (lost : Bool) → (before : Journal) → Notes → Arrival → Finding → Taken
answer_to_finding s lost before noted a (meets o v) = answer_to_late a v
answer_to_finding s lost before noted a (joins o) = Kept None None
answer_to_finding s lost before noted a opens = let left = option_map (evicted_of s before noted) (leaving s.num_traces noted.openings) in Kept left (put_answer s lost left)

-- the answer to a span with these ids
abbrev pub answer_to_ids : Settings → (refused lost : Bool) → Journal → Arrival → Option Ids → Taken
answer_to_ids s refused lost before a None = Kept None None
answer_to_ids s true lost before a (Some ids) = Dropped NoMemory
answer_to_ids s false lost before a (Some ids) = answer_to_finding s lost before (notes s before) a (finding s (notes s before) ids.trace)

-- the answer to an item
abbrev pub answer_to_item : Settings → Entry → (before : Journal) → Item → Taken
answer_to_item s e before (Span a) = answer_to_ids s e.refused e.lost before a a.rec.span.ids
answer_to_item s e before (Tick m) = Ticked
answer_to_item s e before (End sender) = if has_finished s e before then Finished else Ended

-- the answer to an entry: its fate at once, and what it ends
abbrev pub answer_to : Settings → Entry → (before : Journal) → Taken
answer_to s e before = answer_to_item s e before e.item

-- the shard takes no more
abbrev pub is_last : Taken → Bool
is_last Finished = true
is_last _ = false

-- which senders have ended after an item
abbrev pub ends_after : Item → List Bool → List Bool
ends_after (Span a) ends = ends
ends_after (Tick m) ends = ends
ends_after (End sender) ends = slice_set ends sender true

-- the item moves the clock, and changes nothing else
abbrev pub only_clock : Item → Held → Held
only_clock item h = record h { standing = record h.standing { clock = max (item_moment item) h.standing.clock } }

-- the fate of a span that the answer to it tells
abbrev pub fate_told : Taken → Fate
fate_told (Late a) = is_released
fate_told (Dropped r) = is_counted r
fate_told _ = waits

-- right after a span with these ids was taken, its fate is what the answer tells
abbrev pub TellsFateOf : Settings → (past : Journal) → Arrival → Taken → Option Ids → Type 0
TellsFateOf s past a answer None = Unit {0}
TellsFateOf s past a answer (Some ids) = fate s (entry (Span a) answer ∷ past) past (is_refusal answer) ids ≡ fate_told answer

-- right after a span was taken, its fate is what the answer tells
abbrev pub TellsFate : Settings → (past : Journal) → Item → Taken → Type 0
TellsFate s past (Span a) answer = TellsFateOf s past a answer a.rec.span.ids
TellsFate s past (Tick m) answer = Unit {0}
TellsFate s past (End sender) answer = Unit {0}

-- the spans that an answer hands over at once
abbrev pub released_by : Taken → List Arrival
released_by (Late a) = a ∷ []
released_by _ = []

-- how many spans left with an evicted episode
abbrev pub spans_left_by : Option Evicted → ℕ
spans_left_by None = 0
spans_left_by (Some e) = e.spans

-- how many spans an answer counts under a reason
abbrev pub dropped_by : Reason → Taken → ℕ
dropped_by reason (Dropped r) = if is_same_reason r reason then 1 else 0
dropped_by reason (Kept evicted cache) = if is_same_reason EvictedReason reason then spans_left_by evicted else 0
dropped_by reason _ = 0

-- ---- what `decide` answers

-- how many episodes are undecided
abbrev pub waiting : Held → ℕ
waiting h = length (filter (λ e. is_none e.verdict) h.standing.episodes)

-- what `decide` answers for a decision
abbrev pub Releases : Decided → List Arrival → Verdict → Type 0
Releases (Release v) spans Sampled = v.items ≡ spans
Releases (NotReleased n) spans NotSampled = n ≡ length spans
Releases _ spans v = ⊥

-- the spans that a decision's answer hands over, in order
abbrev pub released_in : Decided → List Arrival
released_in (Release v) = v.items
released_in _ = []

-- how many spans a decision's answer counts under a reason
abbrev pub dropped_in : Reason → Decided → ℕ
dropped_in reason (NotReleased n) = if is_same_reason NotSampledReason reason then n else 0
dropped_in reason _ = 0

-- how many of the decisions at the last item were dealt with, after this answer
abbrev pub dealt_after : Decided → (dealt : ℕ) → ℕ
dealt_after Nothing dealt = dealt
dealt_after _ dealt = dealt + 1

-- the journal after this answer, where the limiter gave these to the decision
abbrev pub journal_after : Decided → Journal → (answers : List Bool) → Journal
journal_after Nothing past answers = past
journal_after _ past answers = answered past answers

-- What `decide` does to a shard and a limiter by these answers of the limiter, by the episodes that are still to be
-- decided: nothing, where none is; else the first is decided on its spans as the policies say with these answers, or as
-- no policy does where they are too big, and the limiter was asked just what they ask, in this second, for its spans or
-- their bytes.
abbrev pub DecidesFirst : {L : Type 0} → (asks : L → ℕ → ℕ → ℕ → Bool → L → Type 0) → (old new : Held) → Decided → (before after : L) → (answers : List Bool) → Journal → List Opening → Type 0
DecidesFirst asks old new answer before after answers past [] = (answer ≡ Nothing) × (new ≡ old) × (after ≡ before)
DecidesFirst asks old new answer before after answers past (o ∷ later) =
    let spans = spans_since past o in
    let policies = policies_for (settings old) spans in
    Releases answer spans (verdict_given policies answers spans)
    × (are_answered policies answers spans ≡ true)
    × Asked asks (clock past / 1000) (amount_at policies spans) (asked_given policies answers spans) answers before after

-- what was released and counted by this answer
abbrev pub AddsDecision : Settings → Decided → (answers : List Bool) → Journal → (dealt : ℕ) → Type 0
AddsDecision s answer answers past dealt =
    let later = journal_after answer past answers in
    let n = dealt_after answer dealt in
    (released_dealt s later n ≡ released_dealt s past dealt ++ released_in answer)
    × ((reason : Reason) → dropped_dealt s later n reason ≡ dropped_dealt s past dealt reason + dropped_in reason answer)

-- What `decide` does: there are answers of the limiter by which the first due episode is decided, whichever journal the
-- shard stood for; it then stands for that journal with these answers and one more decision dealt with.
abbrev pub Decides : {L : Type 0} → (asks : L → ℕ → ℕ → ℕ → Bool → L → Type 0) → (old new : Held) → Decided → (before after : L) → Type 0
Decides asks old new answer before after = (answers : List Bool) × ((past : Journal) (dealt : ℕ) → StandsFor old past dealt →
    DecidesFirst asks old new answer before after answers past (drop dealt (due_now (settings old) past))
    × StandsFor new (journal_after answer past answers) (dealt_after answer dealt)
    × AddsDecision (settings old) answer answers past dealt)

-- which policy decided by these answers of the limiter, by the episodes that are still to be decided: the one that
-- decides on the spans of the first, and none where there is none
abbrev pub TellsDecider : Settings → (decider : Option ℕ) → (answers : List Bool) → Journal → List Opening → Type 0
TellsDecider s decider answers past [] = decider ≡ None
TellsDecider s decider answers past (o ∷ later) = decider ≡ decider_given (policies_for s (spans_since past o)) answers (spans_since past o)

-- What `decide_with_decider` does: the same, with the policy that decided by these answers.
abbrev pub DecidesWithDecider : {L : Type 0} → (asks : L → ℕ → ℕ → ℕ → Bool → L → Type 0) → (old new : Held) → Decided → (decider : Option ℕ) → (before after : L) → Type 0
DecidesWithDecider asks old new answer decider before after = (answers : List Bool) × ((past : Journal) (dealt : ℕ) → StandsFor old past dealt →
    DecidesFirst asks old new answer before after answers past (drop dealt (due_now (settings old) past))
    × StandsFor new (journal_after answer past answers) (dealt_after answer dealt)
    × AddsDecision (settings old) answer answers past dealt
    × TellsDecider (settings old) decider answers past (drop dealt (due_now (settings old) past)))

-- what each policy said by these answers of the limiter, by the episodes that are still to be decided: what they say on
-- the spans of the first, and nothing where there is none
abbrev pub TellsAnswers : Settings → (told : List Answer) → (answers : List Bool) → Journal → List Opening → Type 0
TellsAnswers s told answers past [] = told ≡ []
TellsAnswers s told answers past (o ∷ later) = told ≡ told_given (policies_for s (spans_since past o)) answers (spans_since past o)

-- What `decide_with_answers` does: the same, with what each policy said by these answers.
abbrev pub DecidesWithAnswers : {L : Type 0} → (asks : L → ℕ → ℕ → ℕ → Bool → L → Type 0) → (old new : Held) → Decided → (decider : Option ℕ) → (told : List Answer) → (before after : L) → Type 0
DecidesWithAnswers asks old new answer decider told before after = (answers : List Bool) × ((past : Journal) (dealt : ℕ) → StandsFor old past dealt →
    DecidesFirst asks old new answer before after answers past (drop dealt (due_now (settings old) past))
    × StandsFor new (journal_after answer past answers) (dealt_after answer dealt)
    × AddsDecision (settings old) answer answers past dealt
    × TellsDecider (settings old) decider answers past (drop dealt (due_now (settings old) past))
    × TellsAnswers (settings old) told answers past (drop dealt (due_now (settings old) past)))
