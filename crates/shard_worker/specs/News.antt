-- What there is to tell of what becomes of traces, by a shard's journal, and whether it was told.
use Rattle.std.specs.Prelude.{◌⊎◌, ℕ, Bool, List, [], ◌∷◌, ◌++◌, map, length, Option, Some, None, option_map}
use Rattle.std.specs.List.{AllByRecursion}
use Rattle.span_ids.specs.declared.ids.TraceId.{TraceId}
use Rattle.span_ids.specs.declared.outcome.Verdict.{Verdict}
use Rattle.otlp_types.specs.declared.span.Ids.{Ids}
use Rattle.otlp_types.specs.declared.arrival.Item.{Item}
use Rattle.otlp_types.specs.declared.arrival.Item.TheVariants.{Span, Tick, End}
use Rattle.decision_line.specs.declared.decision.DecidedTrace.{DecidedTrace}
use Rattle.decision_line.specs.declared.decision.EvictedTrace.{EvictedTrace}
use Rattle.decision_line.specs.declared.decision.LateSpans.{LateSpans}
use Rattle.decision_line.specs.declared.decision.Said.{Said}
use Rattle.policy_eval.specs.Given.{verdict_given, decider_given, told_given}
use Rattle.journal_theory.specs.Journal.{Settings, Journal, Opening, clock, due_now, policies_for, spans_since}
use Rattle.shard_core.specs.Taking.{answer_to}
use Rattle.shard_core.specs.Telling.{cause_at, said_by, told_evicted, verdict_of_late}
use Rattle.shard_core.specs.declared.answer.Taken.{Taken}

-- that a trace was decided, and what the policies said of it; that one left the full buffer undecided; that spans came
-- late
pub data News : Type 0 where
  decided : DecidedTrace → List Said → News
  evicted : EvictedTrace → News
  late : LateSpans → News

-- ---- an item

-- the trace of an item, if it is a span
abbrev pub trace_of : Item → Option TraceId
trace_of (Span a) = option_map (λ (ids : Ids). ids.trace) a.rec.span.ids
trace_of (Tick m) = None
trace_of (End sender) = None

abbrev pub evicted_news : Option EvictedTrace → List News
evicted_news None = []
evicted_news (Some trace) = evicted trace ∷ []

-- of one late span of this trace, by the verdict that it met
abbrev pub late_news : TraceId → (moment : ℕ) → Option Verdict → List News
late_news trace moment None = []
late_news trace moment (Some verdict) = late (record { trace = trace; moment = moment; verdict = verdict; spans = 1 }) ∷ []

-- what there is to tell of the answer to an item of this trace
abbrev pub answer_news : Option TraceId → (moment : ℕ) → Taken → List News
answer_news None moment answer = []
answer_news (Some trace) moment answer = evicted_news (told_evicted moment answer) ++ late_news trace moment (verdict_of_late answer)

-- ---- a decision

-- what there is to tell of the decision of an episode at the journal's end, where the limiter answers so: what the
-- policies mean on the spans that it has then
abbrev pub decision_news : Settings → Journal → Opening → (answers : List Bool) → News
decision_news s past o answers =
    let spans = spans_since past o in
    let policies = policies_for s spans in
    decided (record {
      trace = o.trace;
      moment = clock past;
      opened = o.moment;
      spans = length spans;
      verdict = verdict_given policies answers spans;
      cause = cause_at s past o;
      decider = decider_given policies answers spans;
    }) (map said_by (told_given policies answers spans))

-- of the decisions of these episodes, in order, as far as they were given answers
abbrev pub decisions_news : Settings → Journal → List Opening → (answers : List (List Bool)) → List News
decisions_news s past [] answers = []
decisions_news s past (o ∷ rest) [] = []
decisions_news s past (o ∷ rest) (a ∷ later) = decision_news s past o a ∷ decisions_news s past rest later

-- ---- a journal

-- what there is to tell of the journal's last item, and of the decisions at it
abbrev pub news_now : Settings → Journal → List News
news_now s [] = []
news_now s (e ∷ before) = answer_news (trace_of e.item) (clock (e ∷ before)) (answer_to s e before) ++ decisions_news s (e ∷ before) (due_now s (e ∷ before)) e.answers

-- what there was to tell, item by item
abbrev pub news : Settings → Journal → List News
news s [] = []
news s (e ∷ before) = news s before ++ news_now s (e ∷ before)

-- ---- who hears of it

-- either a watcher was told this, or it had answered this shard, at that moment of its clock, that it isn't to be told
abbrev pub IsTold : {W : Type 0} → (unheard : W → ℕ → ℕ → Type 0) → (told_decided : W → DecidedTrace → List Said → Type 0) → (told_evicted : W → EvictedTrace → Type 0) → (told_late : W → LateSpans → Type 0) → W → (shard : ℕ) → News → Type 0
IsTold unheard told_decided told_evicted told_late w shard (decided trace said) = told_decided w trace said ⊎ unheard w shard trace.moment
IsTold unheard told_decided told_evicted told_late w shard (evicted trace) = told_evicted w trace ⊎ unheard w shard trace.moment
IsTold unheard told_decided told_evicted told_late w shard (late spans) = told_late w spans ⊎ unheard w shard spans.moment

-- this holds of each of the news
abbrev pub AreTold : (News → Type 0) → List News → Type 0
AreTold told all = AllByRecursion told all
