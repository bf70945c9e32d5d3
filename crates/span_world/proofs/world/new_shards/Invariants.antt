use Rattle.std.proofs.Common.{◌≡◌, [], replicate}
use Rattle.shard_journal.specs.Settings.{settings_of}
use Rattle.shard_journal.specs.Look.{look_of}
use Rattle.world_theory.specs.World.{new_shard}
use Rattle.span_world.proofs.world.new_shards.Given as goal

abbrev pub invariant-loop-i : goal.invariant-loop-i
invariant-loop-i l = (l.shards.items ≡ replicate l._i new_shard) × (l.looks.items ≡ replicate l._i (look_of (settings_of l.fn.settings) []))
