-- What a shard holds after an item, by what it held before: no journal is needed to say it.
use Rattle.std.specs.Prelude.{◌≡◌, ◌≤◌, ◌<◌, ℕ, max, Bool, true, if◌then◌else◌, ◌∷◌, length, slice_set, Option, Some, None}
use Rattle.decision_cache.specs.Lists.{CacheLists, asked, after_asking, after_put}
use Rattle.trace_buffer.specs.Buffer.{Episode, Buffer, episode_of, append_first, after_opening, opening_episode, leaves}
use Rattle.trace_buffer.specs.declared.episode.Evicted.{Evicted}
use Rattle.journal_theory.specs.Journal.{Entry, Settings, Journal, due_now, has_ids}
use Rattle.journal_theory.specs.Standing.{Standing, standing}
use Rattle.otlp_types.specs.declared.span.Ids.{Ids}
use Rattle.otlp_types.specs.declared.arrival.Arrival.{Arrival}
use Rattle.otlp_types.specs.declared.arrival.Item.{Item}
use Rattle.otlp_types.specs.declared.arrival.Item.TheVariants.{Span, Tick, End}
use Rattle.span_ids.specs.declared.ids.TraceId.{TraceId}
use Rattle.span_ids.specs.declared.outcome.Verdict.{Verdict}

-- the caches of a shard
abbrev pub caches : Settings → Standing → CacheLists
caches s st = record { sampled = record { traces = st.sampled; size = s.sampled_cache_size }; not_sampled = record { traces = st.non_sampled; size = s.non_sampled_cache_size } }

-- a shard with these caches
abbrev pub with_caches : CacheLists → Standing → Standing
with_caches c st = record st { sampled = c.sampled.traces; non_sampled = c.not_sampled.traces }

-- the buffer of a shard
abbrev pub buffer : (num_traces : ℕ) → Standing → Buffer
buffer num_traces st = record { episodes = st.episodes; num_traces = num_traces }

-- the caches after an episode left that was decided so
abbrev pub after_leaving_decided : (lost : Bool) → TraceId → Option Verdict → CacheLists → CacheLists
after_leaving_decided lost t None c = c
after_leaving_decided lost t (Some v) c = if lost then c else after_put t v c

-- the caches after an episode left, if one did
abbrev pub after_leaving : (lost : Bool) → Option Evicted → CacheLists → CacheLists
after_leaving lost None c = c
after_leaving lost (Some e) c = after_leaving_decided lost e.trace e.verdict c

-- an episode opens: the oldest leaves a full buffer, and its verdict is put into its cache
abbrev pub after_opening_in : Settings → (num_traces : ℕ) → (lost : Bool) → TraceId → Arrival → Standing → Standing
after_opening_in s num_traces lost t a st = record (with_caches (after_leaving lost (leaves (buffer num_traces st)) (caches s st)) st) {
  episodes = (after_opening (buffer num_traces st) (opening_episode t a st.clock s.maximum_trace_size)).episodes;
}

-- a span of a trace that isn't in the buffer: late, where a cache remembers it, which then is the last touched
abbrev pub after_unknown : Settings → (num_traces : ℕ) → (lost : Bool) → TraceId → Arrival → Standing → Option Verdict → Standing
after_unknown s num_traces lost t a st (Some v) = with_caches (after_asking t (caches s st)) st
after_unknown s num_traces lost t a st None = after_opening_in s num_traces lost t a st

-- a span of a trace in the buffer: appended where that is undecided, else late
abbrev pub after_known : TraceId → Arrival → Standing → Option Verdict → Standing
after_known t a st None = record st { episodes = append_first t st.clock a st.episodes }
after_known t a st (Some v) = st

-- a span, not refused, by the trace's episode in the buffer
abbrev pub after_episode : Settings → (num_traces : ℕ) → (lost : Bool) → TraceId → Arrival → Standing → Option Episode → Standing
after_episode s num_traces lost t a st (Some e) = after_known t a st e.verdict
after_episode s num_traces lost t a st None = after_unknown s num_traces lost t a st (asked t (caches s st))

-- a span of this trace, at the clock after it
abbrev pub after_span_of : Settings → (num_traces : ℕ) → (refused lost : Bool) → TraceId → Arrival → Standing → Standing
after_span_of s num_traces refused lost t a st = if refused then st else after_episode s num_traces lost t a st (episode_of t st.episodes)

-- a span with these ids
abbrev pub after_span_in : Settings → (num_traces : ℕ) → (refused lost : Bool) → Arrival → Option Ids → Standing → Standing
after_span_in s num_traces refused lost a None st = st
after_span_in s num_traces refused lost a (Some ids) st = after_span_of s num_traces refused lost ids.trace a st

-- what a shard holds after an item, by what it held before
abbrev pub after_entry : Settings → (num_traces : ℕ) → (refused lost : Bool) → Item → Standing → Standing
after_entry s num_traces refused lost (Span a) st = after_span_in s num_traces refused lost a a.rec.span.ids (record st { clock = max a.moment st.clock })
after_entry s num_traces refused lost (Tick m) st = record st { clock = max m st.clock; mark = max m st.clock }
after_entry s num_traces refused lost (End sender) st = record st { ends = slice_set st.ends sender true }

-- For a limit of at least 1: once each decision was dealt with, what a shard holds after an item is computed from what
-- it held before, and stands for the longer journal.
abbrev pub KeepsStanding : Type 0
KeepsStanding = (s : Settings) (num_traces : ℕ) (past : Journal) (dealt : ℕ) (e : Entry) → s.num_traces ≡ Some num_traces → 0 < num_traces → length (due_now s past) ≤ dealt → has_ids e.item ≡ true
    → standing s (e ∷ past) 0 ≡ after_entry s num_traces e.refused e.lost e.item (standing s past dealt)
