use Rattle.std.proofs.Common.{◌++◌}
use Rattle.protobuf_writer.specs.Defaults.{fixed64_field}
use Rattle.protobuf_writer.proofs.Adding.{then}
use Rattle.otlp_protobuf_encode.specs.Writing.{enum_field}
use Rattle.otlp_protobuf_encode.proofs.span.write_times.Goals as goal

pub returns-clause-bytes : goal.returns-clause-bytes
returns-clause-bytes c = then c.args.out.now.items c.write_time.new.out.items c.write_time-2.new.out.items (enum_field 6 c.args.span.now.kind ++ fixed64_field 7 c.args.span.now.start_time_unix_nano) (fixed64_field 8 c.args.span.now.end_time_unix_nano) (then c.args.out.now.items c.write_enumeration.new.out.items c.write_time.new.out.items (enum_field 6 c.args.span.now.kind) (fixed64_field 7 c.args.span.now.start_time_unix_nano) c.in_ok-write_enumeration.ensures.bytes c.in_ok-write_time.ensures.bytes) c.in_ok-write_time-2.ensures.bytes

pub returns-clause-back : goal.returns-clause-back
returns-clause-back c = record { kind = c.write_enumeration.ensures.range; start = c.write_time.ensures.range; end = c.write_time-2.ensures.range }
