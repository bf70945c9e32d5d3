use Rattle.std.proofs.Common.{◌≡◌, Some, ◌-◌, List}
use Rattle.serde_json.specs.Data.{Data}
use Rattle.serde_json.specs.View.{items_of}
use Rattle.otlp_reading.specs.Kinds.{each, message}
use Rattle.otlp_stream.specs.Taking.{WithinItems}
use Rattle.otlp_stream.proofs.stream.list_of.Given as goal

abbrev pub invariant-items : goal.invariant-items
invariant-items g l = (done : List Data) × WithinItems (l.depth - 1) l.initial.reader l.reader done × (each (message (g.B.Building.meaning l.keeps_doubles)) (items_of done) ≡ Some l.all)
