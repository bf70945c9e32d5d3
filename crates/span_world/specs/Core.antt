-- What a caller sees of the program's world.
use Rattle.std.specs.Prelude.{◌≡◌, ℕ, ◌+◌, List, [], map}
use Rattle.journal_theory.specs.Journal.{Settings}
use Rattle.shard_journal.specs.Look.{Look, look_of}
use Rattle.shard_journal.specs.Settings.{settings_of}
use Rattle.span_sink.specs.Manners.{takes_all}
use Rattle.world_theory.specs.World.{CoreConfig, CoreShard, World}
use Rattle.span_world.specs.declared.config.CoreConfig.{CoreConfig as Given}

-- the configuration, with what its policies mean, and lines as the destination; the senders are those of the world
abbrev pub config_of : Given → CoreConfig
config_of g = record { shard = record (settings_of g.shard) { senders = 0 }; batch_size = g.batch_size; manner = takes_all; names = [] }

-- the configuration whose senders are so many lanes and the ticker
abbrev pub with_senders : ℕ → Given → Given
with_senders lanes g = record g { shard = record g.shard { senders = lanes + 1 } }

-- what the world was made with, and its lists
pub record Core : Type 0 where
  pub config : Given
  pub world : World

-- what was found looking back over each shard's journal
abbrev pub LooksBack : Settings → List CoreShard → List Look → Type 0
LooksBack s shards looks = looks ≡ map (λ (sh : CoreShard). look_of s sh.journal) shards
