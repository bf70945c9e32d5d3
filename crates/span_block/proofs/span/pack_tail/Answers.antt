use Rattle.std.proofs.Common.{◌++◌, map}
use Rattle.protobuf_writer.specs.Defaults.{number_field, fixed32_field, message_field, repeated}
use Rattle.protobuf_writer.proofs.Adding.{then}
use Rattle.otlp_protobuf_encode.specs.Writing.{attributes, event_fields, link_fields, status_fields}
use Rattle.span_block.proofs.span.pack_tail.Goals as goal

pub returns-clause-bytes : goal.returns-clause-bytes
returns-clause-bytes c = then c.args.out.now.items c.pack_status.new.out.items c.pack_flags.new.out.items (attributes 9 c.args.span.now.attributes ++ number_field 10 c.args.span.now.dropped_attributes_count ++ repeated 11 (map event_fields c.args.span.now.events) ++ number_field 12 c.args.span.now.dropped_events_count ++ repeated 13 (map link_fields c.args.span.now.links) ++ number_field 14 c.args.span.now.dropped_links_count ++ message_field 15 (status_fields c.args.span.now.status)) (fixed32_field 16 c.args.span.now.flags) (then c.args.out.now.items c.pack_count-3.new.out.items c.pack_status.new.out.items (attributes 9 c.args.span.now.attributes ++ number_field 10 c.args.span.now.dropped_attributes_count ++ repeated 11 (map event_fields c.args.span.now.events) ++ number_field 12 c.args.span.now.dropped_events_count ++ repeated 13 (map link_fields c.args.span.now.links) ++ number_field 14 c.args.span.now.dropped_links_count) (message_field 15 (status_fields c.args.span.now.status)) (then c.args.out.now.items c.list-3.new.out.items c.pack_count-3.new.out.items (attributes 9 c.args.span.now.attributes ++ number_field 10 c.args.span.now.dropped_attributes_count ++ repeated 11 (map event_fields c.args.span.now.events) ++ number_field 12 c.args.span.now.dropped_events_count ++ repeated 13 (map link_fields c.args.span.now.links)) (number_field 14 c.args.span.now.dropped_links_count) (then c.args.out.now.items c.pack_count-2.new.out.items c.list-3.new.out.items (attributes 9 c.args.span.now.attributes ++ number_field 10 c.args.span.now.dropped_attributes_count ++ repeated 11 (map event_fields c.args.span.now.events) ++ number_field 12 c.args.span.now.dropped_events_count) (repeated 13 (map link_fields c.args.span.now.links)) (then c.args.out.now.items c.list-2.new.out.items c.pack_count-2.new.out.items (attributes 9 c.args.span.now.attributes ++ number_field 10 c.args.span.now.dropped_attributes_count ++ repeated 11 (map event_fields c.args.span.now.events)) (number_field 12 c.args.span.now.dropped_events_count) (then c.args.out.now.items c.pack_count.new.out.items c.list-2.new.out.items (attributes 9 c.args.span.now.attributes ++ number_field 10 c.args.span.now.dropped_attributes_count) (repeated 11 (map event_fields c.args.span.now.events)) (then c.args.out.now.items c.list.new.out.items c.pack_count.new.out.items (attributes 9 c.args.span.now.attributes) (number_field 10 c.args.span.now.dropped_attributes_count) c.in_ok-list.ensures.bytes c.in_ok-pack_count.ensures.bytes) c.in_ok-list-2.ensures.bytes) c.in_ok-pack_count-2.ensures.bytes) c.in_ok-list-3.ensures.bytes) c.in_ok-pack_count-3.ensures.bytes) c.in_ok-pack_status.ensures.bytes) c.in_ok-pack_flags.ensures.bytes

pub returns-clause-holds : goal.returns-clause-holds
returns-clause-holds c = record {
  attributes = c.in_ok-list.ensures.holds;
  dropped_attributes = c.pack_count.ensures.range;
  events = c.in_ok-list-2.ensures.holds;
  dropped_events = c.pack_count-2.ensures.range;
  links = c.in_ok-list-3.ensures.holds;
  dropped_links = c.pack_count-3.ensures.range;
  status = c.in_ok-pack_status.ensures.holds;
  flags = c.pack_flags.ensures.range;
}
