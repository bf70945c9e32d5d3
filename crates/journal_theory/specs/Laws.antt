-- What holds of every journal.
use Rattle.std.specs.Prelude.{◌≢◌, ◌≡◌, ◌≤◌, ℕ, if◌then◌else◌, List, length, find, Option, Some, None}
use Rattle.decision_cache.specs.Lists.{is_held}
use Rattle.span_ids.specs.Same.{same_trace}
use Rattle.trace_buffer.specs.Buffer.{Episode}
use Rattle.journal_theory.specs.Journal.{Settings, Journal, Finding, joins, meets, opens, finding, notes, due_now}
use Rattle.journal_theory.specs.Standing.{Standing, standing}
use Rattle.span_ids.specs.declared.ids.TraceId.{TraceId}
use Rattle.span_ids.specs.declared.outcome.Verdict.{Verdict}
use Rattle.span_ids.specs.declared.outcome.Verdict.TheVariants.{Sampled, NotSampled}

-- how a trace stands: not at all, undecided, or decided so
abbrev pub State : Type 0
State = Option (Option Verdict)

-- how a span finds its trace, looking back over the journal
abbrev pub state_found : Finding → State
state_found (joins o) = Some None
state_found (meets o v) = Some (Some v)
state_found opens = None

-- how a trace stands in the caches: these are remembered as sampled, and these as not sampled
abbrev pub state_cached : (sampled non_sampled : List TraceId) → TraceId → State
state_cached sampled non_sampled t = if is_held t sampled then Some (Some Sampled) else if is_held t non_sampled then Some (Some NotSampled) else None

-- how a trace stands in a shard, with the first of its episodes in the buffer
abbrev pub state_by : Standing → TraceId → Option Episode → State
state_by st t None = state_cached st.sampled st.non_sampled t
state_by st t (Some e) = Some e.verdict

-- how a trace stands in a shard: in the buffer, else in the caches
abbrev pub state_in : Standing → TraceId → State
state_in st t = state_by st t (find (λ e. same_trace e.trace t) st.episodes)

-- For a limit of at least 1: what a span finds, looking back over the journal, is how its trace stands in a shard that
-- stands for the journal, once each decision was dealt with.
abbrev pub FoundAsHeld : Type 0
FoundAsHeld = (s : Settings) (past : Journal) (dealt : ℕ) (t : TraceId) → s.num_traces ≢ Some 0 → length (due_now s past) ≤ dealt
    → state_found (finding s (notes s past) t) ≡ state_in (standing s past dealt) t
