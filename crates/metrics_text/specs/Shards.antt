-- The numbers of each shard: a family for each, with a sample for each shard.
use Rattle.std.specs.Prelude.{ℕ, suc, List, [], ◌∷◌, ◌++◌, map, codes, decimal}
use Rattle.std.specs.List.{concat}
use Rattle.metrics_text.specs.declared.metrics.ShardNumbers.{ShardNumbers}
use Rattle.metrics_text.specs.declared.kind.FamilyKind.TheVariants.{Gauge}
use Rattle.metrics_text.specs.declared.figure.ShardFigure.{ShardFigure}
use Rattle.metrics_text.specs.declared.figure.ShardFigure.TheVariants.{Queued, Traces, Spans}
use Rattle.metrics_text.specs.Families.{head_lines, labelled, sample, sample_line, word_of}

-- what is told of a number: the name of its family, and the family's help
pub record ShardRow : Type 0 where
  pub name : List ℕ
  pub help : List ℕ

-- the table
abbrev pub shard_row : ShardFigure → ShardRow
shard_row Queued = record { name = codes "tsc_shard_queue_items"; help = codes "Items that wait in the queues of a shard, as it told last." }
shard_row Traces = record { name = codes "tsc_shard_traces_waiting"; help = codes "Traces that wait for their decision, as the shard told last." }
shard_row Spans = record { name = codes "tsc_shard_spans_waiting"; help = codes "Spans of traces that wait for their decision, as the shard told last." }

-- the values
abbrev pub shard_value : ShardNumbers → ShardFigure → ℕ
shard_value shard Queued = shard.queued
shard_value shard Traces = shard.traces
shard_value shard Spans = shard.spans

-- each once, in their order
abbrev pub all_shard_figures : List ShardFigure
all_shard_figures = Queued ∷ Traces ∷ Spans ∷ []

-- the line of the shard of this number
abbrev pub shard_line : ShardFigure → (number : ℕ) → ShardNumbers → List ℕ
shard_line figure number shard = sample_line (shard_row figure).name (sample (labelled (codes "shard") (decimal number)) (shard_value shard figure))

-- the lines of shards, of which the first has this number
abbrev pub shard_lines : ShardFigure → (number : ℕ) → List ShardNumbers → List ℕ
shard_lines figure number [] = []
shard_lines figure number (shard ∷ rest) = shard_line figure number shard ++ shard_lines figure (suc number) rest

-- the lines of a family
abbrev pub shard_text : List ShardNumbers → ShardFigure → List ℕ
shard_text shards figure = head_lines (shard_row figure).name (shard_row figure).help (word_of Gauge) ++ shard_lines figure 0 shards

-- the lines of all
abbrev pub shards_text : List ShardNumbers → List ℕ
shards_text shards = concat (map (shard_text shards) all_shard_figures)
