use Rattle.std.proofs.Common.{◌++◌, map}
use Rattle.protobuf_writer.specs.Defaults.{number_field, fixed32_field, message_field, repeated}
use Rattle.protobuf_writer.proofs.Adding.{then}
use Rattle.otlp_protobuf_encode.specs.Writing.{attributes, event_fields, link_fields, status_fields}
use Rattle.otlp_protobuf_encode.proofs.span.write_tail.Goals as goal

pub returns-clause-bytes : goal.returns-clause-bytes
returns-clause-bytes c = then c.args.out.now.items c.write_status.new.out.items c.write_flags.new.out.items (attributes 9 c.args.span.now.attributes ++ number_field 10 c.args.span.now.dropped_attributes_count ++ repeated 11 (map event_fields c.args.span.now.events) ++ number_field 12 c.args.span.now.dropped_events_count ++ repeated 13 (map link_fields c.args.span.now.links) ++ number_field 14 c.args.span.now.dropped_links_count ++ message_field 15 (status_fields c.args.span.now.status)) (fixed32_field 16 c.args.span.now.flags) (then c.args.out.now.items c.write_count-3.new.out.items c.write_status.new.out.items (attributes 9 c.args.span.now.attributes ++ number_field 10 c.args.span.now.dropped_attributes_count ++ repeated 11 (map event_fields c.args.span.now.events) ++ number_field 12 c.args.span.now.dropped_events_count ++ repeated 13 (map link_fields c.args.span.now.links) ++ number_field 14 c.args.span.now.dropped_links_count) (message_field 15 (status_fields c.args.span.now.status)) (then c.args.out.now.items c.list-3.new.out.items c.write_count-3.new.out.items (attributes 9 c.args.span.now.attributes ++ number_field 10 c.args.span.now.dropped_attributes_count ++ repeated 11 (map event_fields c.args.span.now.events) ++ number_field 12 c.args.span.now.dropped_events_count ++ repeated 13 (map link_fields c.args.span.now.links)) (number_field 14 c.args.span.now.dropped_links_count) (then c.args.out.now.items c.write_count-2.new.out.items c.list-3.new.out.items (attributes 9 c.args.span.now.attributes ++ number_field 10 c.args.span.now.dropped_attributes_count ++ repeated 11 (map event_fields c.args.span.now.events) ++ number_field 12 c.args.span.now.dropped_events_count) (repeated 13 (map link_fields c.args.span.now.links)) (then c.args.out.now.items c.list-2.new.out.items c.write_count-2.new.out.items (attributes 9 c.args.span.now.attributes ++ number_field 10 c.args.span.now.dropped_attributes_count ++ repeated 11 (map event_fields c.args.span.now.events)) (number_field 12 c.args.span.now.dropped_events_count) (then c.args.out.now.items c.write_count.new.out.items c.list-2.new.out.items (attributes 9 c.args.span.now.attributes ++ number_field 10 c.args.span.now.dropped_attributes_count) (repeated 11 (map event_fields c.args.span.now.events)) (then c.args.out.now.items c.list.new.out.items c.write_count.new.out.items (attributes 9 c.args.span.now.attributes) (number_field 10 c.args.span.now.dropped_attributes_count) c.in_ok-list.ensures.bytes c.in_ok-write_count.ensures.bytes) c.in_ok-list-2.ensures.bytes) c.in_ok-write_count-2.ensures.bytes) c.in_ok-list-3.ensures.bytes) c.in_ok-write_count-3.ensures.bytes) c.in_ok-write_status.ensures.bytes) c.in_ok-write_flags.ensures.bytes

pub returns-clause-back : goal.returns-clause-back
returns-clause-back c = record {
  attributes = c.in_ok-list.ensures.back;
  dropped_attributes = c.write_count.ensures.range;
  events = c.in_ok-list-2.ensures.back;
  dropped_events = c.write_count-2.ensures.range;
  links = c.in_ok-list-3.ensures.back;
  dropped_links = c.write_count-3.ensures.range;
  status = c.in_ok-write_status.ensures.back;
  flags = c.write_flags.ensures.range;
}
