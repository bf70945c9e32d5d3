use Rattle.std.proofs.Common.{map, take}
use Rattle.std.specs.List.{AllByRecursion}
use Rattle.protobuf_writer.specs.Writing.{Adds}
use Rattle.protobuf_writer.specs.Defaults.{repeated}
use Rattle.span_block.proofs.packed.list.Given as goal

abbrev pub invariant-loop-item : goal.invariant-loop-item
invariant-loop-item g l = record {
  written : Adds l.fn.out.items l.out.items (repeated l.number (map g.T.Packed.fields (take l.item-index l.all)));
  fits : AllByRecursion (g.T.Packed.fits l.levels) (take l.item-index l.all);
  holds : AllByRecursion g.T.Packed.holds (take l.item-index l.all);
  typed : AllByRecursion (g.T.Packed.typed l.levels) (take l.item-index l.all);
}
