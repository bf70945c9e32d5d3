use Rattle.std.proofs.Common.{◌≡◌, map, take, None}
use Rattle.std.specs.List.{AllByRecursion}
use Rattle.protobuf_writer.specs.Writing.{Adds}
use Rattle.protobuf_writer.specs.Defaults.{repeated}
use Rattle.otlp_protobuf_encode.specs.Faults.{first}
use Rattle.otlp_protobuf_encode.proofs.writing.list.Given as goal

abbrev pub invariant-loop-item : goal.invariant-loop-item
invariant-loop-item g l = record {
  written : Adds l.fn.out.items l.out.items (repeated l.number (map g.T.Written.fields (take l.item-index l.all)));
  none : first (map g.T.Written.fault (take l.item-index l.all)) ≡ None;
  back : AllByRecursion g.T.Written.reads_back (take l.item-index l.all);
}
