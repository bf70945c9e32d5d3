-- What every shard is told, as an item.
use Rattle.otlp_types.specs.declared.arrival.Item.{Item}
use Rattle.otlp_types.specs.declared.arrival.Item.TheVariants as item_is
use Rattle.script_session.specs.declared.signal.Signal.{Signal}
use Rattle.script_session.specs.declared.signal.Signal.TheVariants.{Tick, End}

-- the item by which a shard is told
abbrev pub item_of : Signal → Item
item_of (Tick moment) = item_is.Tick moment
item_of (End sender) = item_is.End sender
