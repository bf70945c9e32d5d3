-- What a shard has done, looking back over the items that it has taken (tailsamplingprocessor README: `decision_wait`,
-- `num_traces`, `decision_cache`, `maximum_trace_size_bytes`). A journal is a list of entries, the newest first: the
-- journal before an entry is the list behind it, whose length is the entry's position.
use Rattle.std.specs.Prelude.{ℕ, zero, suc, ◌+◌, ◌-◌, max, Bool, true, false, not, ◌&&◌, ◌||◌, if◌then◌else◌, ◌==◌, nat_lt, nat_le, is_none, is_some, List, [], ◌∷◌, ◌++◌, reverse, length, take, slice_get, filter, find, Option, Some, None, option_map, ◌≡◌}
use Rattle.std.specs.List.{list_any}
use Rattle.trace_buffer.specs.Buffer.{are_of_root, is_too_big}
use Rattle.policy_tree.specs.Tree.{Policies, no_more}
use Rattle.policy_eval.specs.Given.{verdict_given, are_answered}
use Rattle.span_ids.specs.Same.{same_trace}
use Rattle.decision_cache.specs.Touches.{Touch, last_touched, touches_since}
use Rattle.otlp_types.specs.declared.span.Ids.{Ids}
use Rattle.span_ids.specs.declared.ids.TraceId.{TraceId}
use Rattle.otlp_types.specs.declared.arrival.Arrival.{Arrival}
use Rattle.otlp_types.specs.declared.arrival.Item.{Item}
use Rattle.otlp_types.specs.declared.arrival.Item.TheVariants.{Span, Tick, End}
use Rattle.span_ids.specs.declared.outcome.Verdict.{Verdict}
use Rattle.span_ids.specs.declared.outcome.Verdict.TheVariants.{Sampled, NotSampled}

-- An item that a shard has taken, with its marks: memory was refused to the span itself, or to the put of the decision
-- that its opening evicted. With it stand the limiter's answers: for each decision at the item, in order, those to its
-- askings, in the order in which the policies ask.
pub record Entry : Type 0 where
  pub item : Item
  pub refused : Bool
  pub lost : Bool
  pub answers : List (List Bool)

-- the settings of a shard: times are milliseconds, a `root_wait` of 0 is off, a `num_traces` of None is no limit, and
-- the greatest size of a trace is bytes, where 0 is none
pub record Settings : Type 0 where
  pub policies : Policies
  pub decision_wait : ℕ
  pub root_wait : ℕ
  pub maximum_trace_size : ℕ
  pub num_traces : Option ℕ
  pub sampled_cache_size : ℕ
  pub non_sampled_cache_size : ℕ
  pub senders : ℕ

-- what a shard has taken, the newest first
abbrev pub Journal : Type 0
Journal = List Entry

-- ---- traces

-- ids are those of a span of this trace
abbrev pub ids_have_trace : TraceId → Option Ids → Bool
ids_have_trace t None = false
ids_have_trace t (Some ids) = same_trace t ids.trace

-- the arrival's ids are valid, and of this trace
abbrev pub is_of_trace : TraceId → Arrival → Bool
is_of_trace t a = ids_have_trace t a.rec.span.ids

-- a span that a shard is handed has valid ids
abbrev pub has_ids : Item → Bool
has_ids (Span a) = is_some a.rec.span.ids
has_ids (Tick m) = true
has_ids (End sender) = true

-- ---- the clock and the ends

-- the moment of a span or a tick
abbrev pub item_moment : Item → ℕ
item_moment (Span a) = a.moment
item_moment (Tick m) = m
item_moment (End sender) = 0

-- the greatest moment of the spans and ticks
abbrev pub clock : Journal → ℕ
clock [] = 0
clock (e ∷ past) = max (item_moment e.item) (clock past)

-- the item is the End of this sender
abbrev pub is_end_of : ℕ → Item → Bool
is_end_of sender (Span a) = false
is_end_of sender (Tick m) = false
is_end_of sender (End s) = s == sender

-- the sender has ended
abbrev pub has_ended : Journal → (sender : ℕ) → Bool
has_ended past sender = list_any (λ e. is_end_of sender e.item) past

-- each sender below `senders` has ended
abbrev pub have_ended : Journal → (senders : ℕ) → Bool
have_ended past zero = true
have_ended past (suc n) = has_ended past n && have_ended past n

-- ---- what is noted, the newest first

-- an opening: its position, its trace, and the clock after its span
pub record Opening : Type 0 where
  pub at : ℕ
  pub trace : TraceId
  pub moment : ℕ

-- the decision of an episode, on the spans that it had
pub record Decision : Type 0 where
  pub opening : Opening
  pub spans : List Arrival
  pub verdict : Verdict

-- what the items did: openings, decisions, touches
pub record Notes : Type 0 where
  pub openings : List Opening
  pub decisions : List Decision
  pub touches : List Touch

-- ---- the buffer

-- the last `num_traces` of the openings, or all
abbrev pub last_of : Option ℕ → List Opening → List Opening
last_of None openings = openings
last_of (Some num_traces) openings = take num_traces openings

-- the openings of the episodes in the buffer: fewer than `num_traces` openings lie after each
abbrev pub in_buffer : Settings → Notes → List Opening
in_buffer s noted = last_of s.num_traces noted.openings

-- the episode that opened at this position is in the buffer
abbrev pub is_in_buffer : Settings → Notes → (opened_at : ℕ) → Bool
is_in_buffer s noted opened_at = list_any (λ o. o.at == opened_at) (in_buffer s noted)

-- the episode that the next opening puts out of a full buffer
abbrev pub leaving : Option ℕ → List Opening → Option Opening
leaving None openings = None
leaving (Some num_traces) openings = slice_get openings (num_traces - 1)

-- the verdict of the episode that opened at this position, once it is decided
abbrev pub decided_as : Notes → (opened_at : ℕ) → Option Verdict
decided_as noted opened_at = option_map (λ d. d.verdict) (find (λ d. d.opening.at == opened_at) noted.decisions)

-- the undecided episodes in the buffer, in order of opening
abbrev pub undecided : Settings → Notes → List Opening
undecided s noted = reverse (filter (λ o. is_none (decided_as noted o.at)) (in_buffer s noted))

-- the trace's latest opening
abbrev pub latest_episode : Notes → TraceId → Option Opening
latest_episode noted t = find (λ o. same_trace o.trace t) noted.openings

-- ---- remembered

-- the size of the cache of a verdict
abbrev pub cache_size : Settings → Verdict → ℕ
cache_size s Sampled = s.sampled_cache_size
cache_size s NotSampled = s.non_sampled_cache_size

-- its episode left without losing the verdict, and fewer other traces were touched since than the cache has room for
abbrev pub is_cached : Settings → Notes → Opening → Verdict → Bool
is_cached s noted o v = list_any (λ u. u.episode == o.at) noted.touches && nat_lt (length (last_touched v (touches_since o.trace noted.touches))) (cache_size s v)

-- the verdict of the trace's latest episode is remembered: in the buffer, or outside
abbrev pub is_remembered : Settings → Notes → Opening → Verdict → Bool
is_remembered s noted o v = is_in_buffer s noted o.at || is_cached s noted o v

-- ---- what a span finds

-- what a span finds of its trace
pub data Finding : Type 0 where
  -- its trace stands undecided in the buffer: it joins that episode
  joins : Opening → Finding
  -- its trace is remembered, by the verdict of that episode: it is late
  meets : Opening → Verdict → Finding
  -- neither: it opens an episode
  opens : Finding

-- by that episode, where it was decided so
abbrev pub finding_at : Settings → Notes → Opening → Option Verdict → Finding
finding_at s noted o None = if is_in_buffer s noted o.at then joins o else opens
finding_at s noted o (Some v) = if is_remembered s noted o v then meets o v else opens

-- by an episode, if there is one
abbrev pub finding_of : Settings → Notes → Option Opening → Finding
finding_of s noted None = opens
finding_of s noted (Some o) = finding_at s noted o (decided_as noted o.at)

-- by the trace's latest episode
abbrev pub finding : Settings → Notes → TraceId → Finding
finding s noted t = finding_of s noted (latest_episode noted t)

-- the verdict that a late span meets
abbrev pub verdict_met : Finding → Option Verdict
verdict_met (joins o) = None
verdict_met (meets o v) = Some v
verdict_met opens = None

-- the verdict with which a trace is remembered
abbrev pub remembered : Settings → Notes → TraceId → Option Verdict
remembered s noted t = verdict_met (finding s noted t)

-- ---- an episode's spans

-- the span at position `at`, where it is of the opening's trace, not refused, and not before the opening
abbrev pub item_spans : Opening → (at : ℕ) → (refused : Bool) → Item → List Arrival
item_spans o at refused (Span a) = if nat_le o.at at && is_of_trace o.trace a && not refused then a ∷ [] else []
item_spans o at refused (Tick m) = []
item_spans o at refused (End sender) = []

-- the spans of the opening's trace, not refused, from the opening on, in order of arrival: the episode's, as long as it
-- stands undecided in the buffer
abbrev pub spans_since : Journal → Opening → List Arrival
spans_since [] o = []
spans_since (e ∷ before) o = spans_since before o ++ item_spans o (length before) e.refused e.item

-- ---- due

-- the span has no parent
abbrev pub is_root : Arrival → Bool
is_root a = are_of_root a.rec.span.ids

-- some root among the spans of the opening's episode was taken at a clock that lies at least `root_wait` before `now`
abbrev pub is_root_past : (root_wait now : ℕ) → Journal → Opening → Bool
is_root_past root_wait now [] o = false
is_root_past root_wait now (e ∷ before) o = is_root_past root_wait now before o || (list_any is_root (item_spans o (length before) e.refused e.item) && nat_le (clock (e ∷ before) + root_wait) now)

-- the spans of the opening's episode have more bytes than a trace may have
abbrev pub is_oversized : Settings → Journal → Opening → Bool
is_oversized s past o = is_too_big s.maximum_trace_size (spans_since past o)

-- whether an undecided episode is due at a tick, the journal's last item: it opened long enough before, or root wait is
-- on and some root was taken long enough before, or it is too big
abbrev pub is_due : Settings → Journal → Opening → Bool
is_due s past o = nat_le (o.moment + s.decision_wait) (clock past) || (nat_lt 0 s.root_wait && is_root_past s.root_wait (clock past) past o) || is_oversized s past o

-- the senders' Ends became complete
abbrev pub has_finished : Settings → Entry → (before : Journal) → Bool
has_finished s e before = have_ended (e ∷ before) s.senders && not (have_ended before s.senders)

-- the undecided episodes that are too big, in order of opening
abbrev pub oversized : Settings → Journal → Notes → List Opening
oversized s past noted = filter (is_oversized s past) (undecided s noted)

-- the episodes that are due at the item just taken, by the notes after it, in order of opening
abbrev pub due_at : Settings → Entry → (before : Journal) → Item → Notes → List Opening
due_at s e before (Span a) noted = oversized s (e ∷ before) noted
due_at s e before (Tick m) noted = filter (is_due s (e ∷ before)) (undecided s noted)
due_at s e before (End sender) noted = if has_finished s e before then undecided s noted else oversized s (e ∷ before) noted

-- ---- decisions

-- the policies that decide on these spans: none where they are too big, which doesn't sample and asks nothing
abbrev pub policies_for : Settings → List Arrival → Policies
policies_for s spans = if is_too_big s.maximum_trace_size spans then no_more else s.policies

-- the decision of an episode at the journal's end, where the limiter answers so
abbrev pub decision : Settings → Journal → Opening → (answers : List Bool) → Decision
decision s past o answers = let spans = spans_since past o in record { opening = o; spans = spans; verdict = verdict_given (policies_for s spans) answers spans }

-- the decisions of these episodes, in order, each by its answers: as many as were given answers, the others are still
-- to be decided
abbrev pub decisions_in_turn : Settings → Journal → List Opening → (answers : List (List Bool)) → List Decision
decisions_in_turn s past [] answers = []
decisions_in_turn s past (o ∷ rest) [] = []
decisions_in_turn s past (o ∷ rest) (a ∷ later) = decision s past o a ∷ decisions_in_turn s past rest later

-- ---- the notes of a journal

-- a touch of an episode's verdict
abbrev pub touch : Opening → Verdict → Touch
touch o v = record { episode = o.at; trace = o.trace; verdict = v }

-- the touch where an episode leaves that was decided so
abbrev pub touch_of_leaving_decided : Opening → Option Verdict → List Touch
touch_of_leaving_decided o None = []
touch_of_leaving_decided o (Some v) = touch o v ∷ []

-- the touch where this episode leaves, if one does
abbrev pub touch_of_leaving : Notes → Option Opening → List Touch
touch_of_leaving noted None = []
touch_of_leaving noted (Some o) = touch_of_leaving_decided o (decided_as noted o.at)

-- the notes after a span, by what it finds
abbrev pub after_finding : Settings → TraceId → (lost : Bool) → (at clock_after : ℕ) → Notes → Finding → Notes
after_finding s t lost at clock_after noted (joins o) = noted
after_finding s t lost at clock_after noted (meets o v) = record noted { touches = (if is_in_buffer s noted o.at then [] else touch o v ∷ []) ++ noted.touches }
after_finding s t lost at clock_after noted opens = record noted {
  openings = record { at = at; trace = t; moment = clock_after } ∷ noted.openings;
  touches = (if lost then [] else touch_of_leaving noted (leaving s.num_traces noted.openings)) ++ noted.touches;
}

-- the notes after a span with these ids
abbrev pub after_span : Settings → Option Ids → Entry → (before : Journal) → Notes → Notes
after_span s None e before noted = noted
after_span s (Some ids) e before noted = if e.refused then noted else after_finding s ids.trace e.lost (length before) (clock (e ∷ before)) noted (finding s noted ids.trace)

-- the notes after the item, before any decision
abbrev pub after_item : Settings → Entry → (before : Journal) → Item → Notes → Notes
after_item s e before (Span a) noted = after_span s a.rec.span.ids e before noted
after_item s e before (Tick m) noted = noted
after_item s e before (End sender) noted = noted

-- the notes after these further decisions, in order
abbrev pub after_decisions : List Decision → Notes → Notes
after_decisions decisions noted = record noted { decisions = reverse decisions ++ noted.decisions }

-- the notes of the empty journal
abbrev pub no_notes : Notes
no_notes = record { openings = []; decisions = []; touches = [] }

-- the decisions at the item just taken, by the notes after it, in order of opening
abbrev pub decisions_at : Settings → Entry → (before : Journal) → Notes → List Decision
decisions_at s e before noted = decisions_in_turn s (e ∷ before) (due_at s e before e.item noted) e.answers

-- the notes of a journal, each due episode decided whose decision was given answers
unfoldable pub notes : Settings → Journal → Notes
notes s [] = no_notes
notes s (e ∷ before) = let noted = after_item s e before e.item (notes s before) in after_decisions (decisions_at s e before noted) noted

-- the episodes that were due at the journal's last item, in order of opening
abbrev pub due_now : Settings → Journal → List Opening
due_now s [] = []
due_now s (e ∷ before) = due_at s e before e.item (after_item s e before e.item (notes s before))

-- their decisions, as far as they were given answers
abbrev pub decisions_now : Settings → Journal → List Decision
decisions_now s [] = []
decisions_now s (e ∷ before) = decisions_at s e before (after_item s e before e.item (notes s before))

-- the notes, where of the decisions at the last item the first `dealt` were dealt with, and the other episodes stand
-- undecided
abbrev pub notes_dealt : Settings → Journal → (dealt : ℕ) → Notes
notes_dealt s [] dealt = no_notes
notes_dealt s (e ∷ before) dealt = let noted = after_item s e before e.item (notes s before) in after_decisions (take dealt (decisions_at s e before noted)) noted

-- no item was taken after the senders' Ends were complete
abbrev pub StoppedInTime : Settings → Journal → Type 0
StoppedInTime s [] = Unit {0}
StoppedInTime s (e ∷ before) = have_ended before s.senders ≡ false

-- ---- the limiter's answers

-- the journal, where the next decision at its last item is given these answers
abbrev pub answered : Journal → (answers : List Bool) → Journal
answered [] answers = []
answered (e ∷ before) answers = record e { answers = e.answers ++ answers ∷ [] } ∷ before

-- the decisions of just these episodes are answered, each with one answer for each asking
abbrev pub are_each_answered : Settings → Journal → List Opening → (answers : List (List Bool)) → Bool
are_each_answered s past [] [] = true
are_each_answered s past [] (a ∷ later) = false
are_each_answered s past (o ∷ rest) [] = false
are_each_answered s past (o ∷ rest) (a ∷ later) = are_answered (policies_for s (spans_since past o)) a (spans_since past o) && are_each_answered s past rest later

-- each decision of the journal is answered
abbrev pub IsAnswered : Settings → Journal → Type 0
IsAnswered s [] = Unit {0}
IsAnswered s (e ∷ before) = (are_each_answered s (e ∷ before) (due_now s (e ∷ before)) e.answers ≡ true) × IsAnswered s before

-- the same, where of the decisions at the last item just the first `dealt` are answered
abbrev pub IsAnsweredUpTo : Settings → Journal → (dealt : ℕ) → Type 0
IsAnsweredUpTo s [] dealt = Unit {0}
IsAnsweredUpTo s (e ∷ before) dealt = (are_each_answered s (e ∷ before) (take dealt (due_now s (e ∷ before))) e.answers ≡ true) × IsAnswered s before
