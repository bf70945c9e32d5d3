-- Whether lanes wait for room in the queues of shards.
use Rattle.std.specs.Prelude.{Bool, not, ◌||◌, ◌==◌, length}
use Rattle.tsc_config.specs.declared.config.Config.{Config}

-- the configuration says so, or requests are kept in a folder
abbrev pub waits : Config → Bool
waits config = config.waits_for_room || not (length config.ledger.path == 0)
