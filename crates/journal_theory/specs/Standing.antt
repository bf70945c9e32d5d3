-- What a shard holds that stands for a journal.
use Rattle.std.specs.Prelude.{ℕ, zero, suc, Bool, List, [], ◌∷◌, ◌++◌, length, map, reverse, take, Option, Some, None}
use Rattle.decision_cache.specs.Touches.{last_touched}
use Rattle.journal_theory.specs.Journal.{Settings, Journal, Opening, Notes, clock, has_ended, in_buffer, decided_as, cache_size, item_spans, spans_since, notes_dealt}
use Rattle.trace_buffer.specs.Buffer.{Episode, root_before, evicted_as}
use Rattle.trace_buffer.specs.declared.episode.Evicted.{Evicted}
use Rattle.span_ids.specs.declared.ids.TraceId.{TraceId}
use Rattle.otlp_types.specs.declared.arrival.Arrival.{Arrival}
use Rattle.otlp_types.specs.declared.arrival.Item.{Item}
use Rattle.otlp_types.specs.declared.arrival.Item.TheVariants.{Span, Tick, End}
use Rattle.journal_theory.specs.Journal.{Entry}
use Rattle.span_ids.specs.declared.outcome.Verdict.{Verdict}
use Rattle.span_ids.specs.declared.outcome.Verdict.TheVariants.{Sampled, NotSampled}

-- what a shard holds: episodes in order of opening; a cache's traces, the last touched first; whether each sender has
-- ended
pub record Standing : Type 0 where
  pub episodes : List Episode
  pub sampled : List TraceId
  pub non_sampled : List TraceId
  pub clock : ℕ
  pub mark : ℕ
  pub ends : List Bool

-- the spans that an episode holds: none once it is decided
abbrev pub spans_left : List Arrival → Option Verdict → List Arrival
spans_left spans None = spans
spans_left spans (Some v) = []

-- the clock at the first root, with these spans behind that were taken at this clock
abbrev pub root_among : Option ℕ → (clock : ℕ) → List Arrival → Option ℕ
root_among root clock [] = root
root_among root clock (a ∷ rest) = root_among (root_before root clock a) clock rest

-- the clock at the first root among the spans of an opening's episode
abbrev pub first_root_since : Journal → Opening → Option ℕ
first_root_since [] o = None
first_root_since (e ∷ before) o = root_among (first_root_since before o) (clock (e ∷ before)) (item_spans o (length before) e.refused e.item)

-- the clock at the first root that an episode holds: none once it is decided
abbrev pub root_left : Option ℕ → Option Verdict → Option ℕ
root_left root None = root
root_left root (Some v) = None

-- the episode of an opening
abbrev pub episode : Settings → Journal → Notes → Opening → Episode
episode s past noted o = let verdict = decided_as noted o.at in
    record { trace = o.trace; moment = o.moment; maximum = s.maximum_trace_size; first_root = root_left (first_root_since past o) verdict; spans = spans_left (spans_since past o) verdict; verdict = verdict }

-- what is told of the episode that leaves: its trace, how many spans it still holds, and its verdict
abbrev pub evicted_of : Settings → (before : Journal) → Notes → Opening → Evicted
evicted_of s before noted o = evicted_as (episode s before noted o)

-- the episodes in the buffer, in order of opening
abbrev pub episodes : Settings → Journal → Notes → List Episode
episodes s past noted = map (episode s past noted) (reverse (in_buffer s noted))

-- the last touched of the traces with this verdict
abbrev pub cache : Settings → Notes → Verdict → List TraceId
cache s noted v = take (cache_size s v) (last_touched v noted.touches)

-- the mark after an item
abbrev pub mark_at : Entry → (before : Journal) → (earlier : ℕ) → Item → ℕ
mark_at e before earlier (Tick m) = clock (e ∷ before)
mark_at e before earlier (Span a) = earlier
mark_at e before earlier (End sender) = earlier

-- the clock at the last tick
abbrev pub mark : Journal → ℕ
mark [] = 0
mark (e ∷ before) = mark_at e before (mark before) e.item

-- whether each sender has ended
abbrev pub ends : Journal → (senders : ℕ) → List Bool
ends past zero = []
ends past (suc n) = ends past n ++ has_ended past n ∷ []

-- what a shard holds that stands for the journal, where of the decisions at its last item the first `dealt` were dealt
-- with
abbrev pub standing : Settings → Journal → (dealt : ℕ) → Standing
standing s past dealt =
    let noted = notes_dealt s past dealt in
    record {
      episodes = episodes s past noted;
      sampled = cache s noted Sampled;
      non_sampled = cache s noted NotSampled;
      clock = clock past;
      mark = mark past;
      ends = ends past s.senders;
    }
