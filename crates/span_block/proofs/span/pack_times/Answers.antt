use Rattle.std.proofs.Common.{◌++◌}
use Rattle.protobuf_writer.specs.Defaults.{fixed64_field}
use Rattle.protobuf_writer.proofs.Adding.{then}
use Rattle.otlp_protobuf_encode.specs.Writing.{enum_field}
use Rattle.span_block.proofs.span.pack_times.Goals as goal

pub returns-clause-bytes : goal.returns-clause-bytes
returns-clause-bytes c = then c.args.out.now.items c.pack_time.new.out.items c.pack_time-2.new.out.items (enum_field 6 c.args.span.now.kind ++ fixed64_field 7 c.args.span.now.start_time_unix_nano) (fixed64_field 8 c.args.span.now.end_time_unix_nano) (then c.args.out.now.items c.pack_enumeration.new.out.items c.pack_time.new.out.items (enum_field 6 c.args.span.now.kind) (fixed64_field 7 c.args.span.now.start_time_unix_nano) c.in_ok-pack_enumeration.ensures.bytes c.in_ok-pack_time.ensures.bytes) c.in_ok-pack_time-2.ensures.bytes

pub returns-clause-holds : goal.returns-clause-holds
returns-clause-holds c = record { kind = c.pack_enumeration.ensures.range; start = c.pack_time.ensures.range; end = c.pack_time-2.ensures.range }
