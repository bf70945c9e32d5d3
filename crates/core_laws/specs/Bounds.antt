-- How much waits in a shard at most.
use Rattle.std.specs.Prelude.{◌≡◌, ◌≤◌, ◌<◌, ◌*◌, ℕ, false, length, Some, slice_get}
use Rattle.std.specs.List.{sum_by}
use Rattle.span_size.specs.Size.{size_of}
use Rattle.journal_theory.specs.Journal.{Journal, Opening, Settings, notes, notes_dealt, undecided, spans_since}
use Rattle.world_theory.specs.World.{CoreConfig, CoreShard, World, settings, has_due}

-- with a limit, at most so many traces wait in a shard
abbrev pub WaitingTracesAreFew : CoreConfig → World → Type 0
WaitingTracesAreFew c w = (num_traces : ℕ) → c.shard.num_traces ≡ Some num_traces → (shard : ℕ) (sh : CoreShard) → slice_get w.shards shard ≡ Some sh
    → length (undecided (settings c w) (notes_dealt (settings c w) sh.journal sh.dealt)) ≤ num_traces

-- the bytes of the spans of the traces that wait, each trace's by itself
abbrev pub waiting_bytes : Settings → Journal → ℕ
waiting_bytes s past = sum_by (λ (o : Opening). size_of (spans_since past o)) (undecided s (notes s past))

-- with a limit and a maximum size, at most so many times that many bytes wait in a shard that has nothing to decide
abbrev pub WaitingBytesAreFew : CoreConfig → World → Type 0
WaitingBytesAreFew c w = (num_traces : ℕ) → c.shard.num_traces ≡ Some num_traces → 0 < c.shard.maximum_trace_size → 0 < c.shard.decision_wait
    → (shard : ℕ) (sh : CoreShard) → slice_get w.shards shard ≡ Some sh → has_due (settings c w) sh ≡ false
    → waiting_bytes (settings c w) sh.journal ≤ num_traces * c.shard.maximum_trace_size
