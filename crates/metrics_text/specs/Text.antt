-- The whole text, and that it tells each number.
use Rattle.std.specs.Prelude.{◌≡◌, ◌^◌, ◌<◌, ℕ, List, ◌++◌, map, length, Option}
use Rattle.std.specs.List.{AllByRecursion, concat}
use Rattle.drop_ledger.specs.Sums.{Fits}
use Rattle.drop_ledger.specs.declared.count.Count.{Count}
use Rattle.metrics_text.specs.declared.metrics.Metrics.{Metrics}
use Rattle.metrics_text.specs.declared.metrics.ShardNumbers.{ShardNumbers}
use Rattle.metrics_text.specs.declared.metrics.PolicyNumbers.{PolicyNumbers}
use Rattle.metrics_text.specs.declared.figure.Figure.{Figure}
use Rattle.metrics_text.specs.declared.figure.ShardFigure.{ShardFigure}
use Rattle.metrics_text.specs.Families.{families, family_text, number_of}
use Rattle.metrics_text.specs.Figures.{figures_text, figure_value}
use Rattle.metrics_text.specs.Deciders.{policies_text}
use Rattle.metrics_text.specs.Shards.{shards_text, shard_value}

-- the whole text
abbrev pub metrics_text : Metrics → List PolicyNumbers → List ShardNumbers → List ℕ
metrics_text metrics policies shards = concat (map family_text (families metrics)) ++ (figures_text metrics ++ (policies_text policies ++ shards_text shards))

-- the numbers of what was measured
pub record AreNumbers (metrics : Metrics) : Type 0 where
  pub counts : Fits metrics.report
  pub open_connections : metrics.open_connections < 2 ^ 64
  pub uptime_seconds : metrics.uptime_seconds < 2 ^ 64
  pub figures : (figure : Figure) → figure_value metrics figure < 2 ^ 64

-- the numbers of a policy
abbrev pub OfPolicy : PolicyNumbers → Type 0
OfPolicy policy = (policy.sampled < 2 ^ 64) × (policy.not_sampled < 2 ^ 64)

-- the names of policies
abbrev pub names : List PolicyNumbers → List (List ℕ)
names policies = map (λ (p : PolicyNumbers). p.name) policies

-- the places that stand for names
abbrev pub places : List PolicyNumbers → List (Option ℕ)
places policies = map (λ (p : PolicyNumbers). p.place) policies

-- the numbers of a shard
abbrev pub OfShard : ShardNumbers → Type 0
OfShard shard = (figure : ShardFigure) → shard_value shard figure < 2 ^ 64

-- the same numbers
pub record SameNumbers (a b : Metrics) : Type 0 where
  pub counts : (count : Count) → number_of a.report count ≡ number_of b.report count
  pub open_connections : a.open_connections ≡ b.open_connections
  pub uptime_seconds : a.uptime_seconds ≡ b.uptime_seconds
  pub figures : (figure : Figure) → figure_value a figure ≡ figure_value b figure

-- the text tells each number: numbers that differ have texts that differ
abbrev pub TellsAll : Type 0
TellsAll = (a b : Metrics) (ps qs : List PolicyNumbers) (xs ys : List ShardNumbers) → AreNumbers a → AreNumbers b
    → AllByRecursion OfPolicy ps → AllByRecursion OfPolicy qs → names ps ≡ names qs → places ps ≡ places qs → AllByRecursion OfShard xs → AllByRecursion OfShard ys → length xs ≡ length ys
    → metrics_text a ps xs ≡ metrics_text b qs ys → SameNumbers a b × (ps ≡ qs) × (xs ≡ ys)
