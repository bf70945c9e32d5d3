-- What the code of a shard does to what it holds: words of its private functions, beside the definitions.
use Rattle.std.specs.Prelude.{ℕ, ◌≡◌, max, Bool, true, false, not, ◌&&◌, ◌||◌, is_none, if◌then◌else◌, List, slice_set, find, Option, Some, None, Result, Ok, Err}
use Rattle.journal_theory.specs.Standing.{Standing}
use Rattle.trace_buffer.specs.Buffer.{Episode, leaves, settle_first, is_due_at, is_too_big}
use Rattle.trace_buffer.specs.declared.episode.Evicted.{Evicted}
use Rattle.decision_cache.specs.Lists.{CacheLists, Remembers, is_held_in_either}
use Rattle.decision_cache.specs.declared.traces.Remembered.{Remembered}
use Rattle.policy_tree.specs.Tree.{Policies, no_more}
use Rattle.policy_tree.specs.Meaning.{meaning}
use Rattle.policy_eval.specs.Given.{verdict_given}
use Rattle.otlp_types.specs.declared.span.Ids.{Ids}
use Rattle.span_ids.specs.declared.ids.TraceId.{TraceId}
use Rattle.otlp_types.specs.declared.arrival.Arrival.{Arrival}
use Rattle.span_ids.specs.declared.outcome.Verdict.{Verdict}
use Rattle.span_ids.specs.declared.outcome.Reason.TheVariants.{NoMemory}
use Rattle.journal_theory.specs.Journal.{Settings}
use Rattle.journal_theory.specs.Keeping.{buffer, after_span_of}
use Rattle.journal_theory.specs.Laws.{State, state_in}
use Rattle.shard_core.specs.Held.{Held, settings}
use Rattle.shard_core.specs.Taking.{is_refusal, is_loss, answer_to_late, put_answer, Releases}
use Rattle.journal_theory.specs.Marked.{cache_is_on}
use Rattle.shard_core.specs.declared.answer.Taken.{Taken}
use Rattle.shard_core.specs.declared.answer.Taken.TheVariants.{Kept, Dropped}
use Rattle.shard_core.specs.declared.answer.Decided.{Decided}

-- ---- a span

-- the answer to a span, not refused, by how its trace stands
abbrev pub answer_by_state : Settings → (num_traces : ℕ) → (lost : Bool) → Arrival → Standing → State → Taken
answer_by_state s num_traces lost a st (Some None) = Kept None None
answer_by_state s num_traces lost a st (Some (Some v)) = answer_to_late a v
answer_by_state s num_traces lost a st None = Kept (leaves (buffer num_traces st)) (put_answer s lost (leaves (buffer num_traces st)))

-- the answer to a span
abbrev pub answer_held : Settings → (num_traces : ℕ) → (refused lost : Bool) → Arrival → Standing → State → Taken
answer_held s num_traces refused lost a st state = if refused then Dropped NoMemory else answer_by_state s num_traces lost a st state

-- the verdict of the episode that leaves, if one leaves that is decided
abbrev pub verdict_leaving : Option Evicted → Option Verdict
verdict_leaving None = None
verdict_leaving (Some e) = e.verdict

-- memory may be refused to a span that isn't late
abbrev pub may_refuse : State → Bool
may_refuse (Some (Some v)) = false
may_refuse (Some None) = true
may_refuse None = true

-- a put may be lost where the span opens an episode and a decided one leaves whose cache isn't off
abbrev pub may_lose : Settings → (num_traces : ℕ) → Standing → State → Bool
may_lose s num_traces st (Some v) = false
may_lose s num_traces st None = cache_is_on s (verdict_leaving (leaves (buffer num_traces st)))

-- the marks that the answer tells can apply
abbrev pub marks_held : Settings → (num_traces : ℕ) → (refused lost : Bool) → Standing → State → Bool
marks_held s num_traces refused lost st state = (not refused || may_refuse state) && (not lost || (not refused && may_lose s num_traces st state))

-- what a shard holds at the clock after a moment
abbrev pub at_clock : (moment : ℕ) → Standing → Standing
at_clock m st = record st { clock = max m st.clock }

-- `take` of a span of this trace
abbrev pub TakesSpanOf : (old : Held) → Arrival → TraceId → Taken → (new : Held) → Type 0
TakesSpanOf old a t answer new =
    let s = settings old in
    let st = at_clock a.moment old.standing in
    (new ≡ record old { standing = after_span_of s old.num_traces (is_refusal answer) (is_loss answer) t a st })
    × (answer ≡ answer_held s old.num_traces (is_refusal answer) (is_loss answer) a st (state_in st t))
    × (marks_held s old.num_traces (is_refusal answer) (is_loss answer) st (state_in st t) ≡ true)

-- `take` of a span with these ids
abbrev pub TakesSpan : (old : Held) → Arrival → Option Ids → Taken → (new : Held) → Type 0
TakesSpan old a None answer new = Unit {0}
TakesSpan old a (Some ids) answer new = TakesSpanOf old a ids.trace answer new

-- the verdict of a decided episode that left is put, by the answer
abbrev pub PutsDecided : TraceId → Option Verdict → (old : CacheLists) → Option Remembered → (new : CacheLists) → Type 0
PutsDecided t None old r new = (r ≡ None) × (new ≡ old)
PutsDecided t (Some v) old r new = (x : Remembered) × (r ≡ Some x) × Remembers t v old x new

-- the verdict of the episode that left is put, if one left that was decided
abbrev pub Puts : Option Evicted → (old : CacheLists) → Option Remembered → (new : CacheLists) → Type 0
Puts None old r new = (r ≡ None) × (new ≡ old)
Puts (Some e) old r new = PutsDecided e.trace e.verdict old r new

-- what is answered to a span that opened an episode, with the put of the verdict of the episode that left
abbrev pub KeepsAs : Option Evicted → (old : CacheLists) → Taken → (new : CacheLists) → Type 0
KeepsAs left old (Kept evicted r) new = (evicted ≡ left) × Puts left old r new
KeepsAs left old _ new = ⊥

-- what is answered to a span that was appended to its trace's episode, or found no memory
abbrev pub answer_to_append : {E : Type 0} → Result (Unit {0}) E → Taken
answer_to_append (Ok u) = Kept None None
answer_to_append (Err e) = Dropped NoMemory

-- what is answered to a span that opened an episode, or found no memory
abbrev pub OpensAs : {E : Type 0} → Result (Option Evicted) E → (old : CacheLists) → Taken → (new : CacheLists) → Type 0
OpensAs (Ok left) old answer new = KeepsAs left old answer new
OpensAs (Err e) old answer new = (answer ≡ Dropped NoMemory) × (new ≡ old)

-- the trace of a decided episode that left is in no cache
abbrev pub leaves_forgotten : Option Evicted → CacheLists → Bool
leaves_forgotten None c = true
leaves_forgotten (Some e) c = is_none e.verdict || not (is_held_in_either e.trace c)

-- ---- a tick, and an End

-- what is held after a tick
abbrev pub held_after_tick : ℕ → Standing → Standing
held_after_tick m h = let c = max m h.clock in record h { clock = c; mark = c }

-- what is held after an End
abbrev pub held_after_end : ℕ → Standing → Standing
held_after_end sender h = record h { ends = slice_set h.ends sender true }

-- ---- a decision

-- the policies that decide an episode: none where it is too big
abbrev pub policies_on : Policies → Episode → Policies
policies_on policies e = if is_too_big e.maximum e.spans then no_more else policies

-- the first episode that is due by this mark is decided by these answers of the limiter
abbrev pub SettlesFirst : (old : Held) → (mark decision_wait root_wait : ℕ) → (answers : List Bool) → Decided → (new : Held) → Type 0
SettlesFirst old mark decision_wait root_wait answers answer new = (e : Episode) → find (is_due_at mark decision_wait root_wait) old.standing.episodes ≡ Some e →
    let v = verdict_given (policies_on (meaning old.policies) e) answers e.spans in
    Releases answer e.spans v × (new ≡ record old { standing = record old.standing { episodes = settle_first mark decision_wait root_wait v old.standing.episodes } })
