use Rattle.std.proofs.Common.{◌∙◌, ap, lit<}
use Rattle.protobuf_wire.specs.Wire.{fields_of}
use Rattle.otlp_protobuf.specs.Kinds.{int64, uint32}
use Rattle.otlp_protobuf.specs.Values.{most_levels}
use Rattle.otlp_protobuf_encode.specs.Writing.{span_fields, pair_fields, event_fields, link_fields}
use Rattle.message_cursor.specs.Walk.{number_in, fixed64_in, fixed32_in, bytes_in}
use Rattle.message_cursor.proofs.Lefts.{all_left, next}
use Rattle.span_block.specs.Typed.{PairIsTyped, EventIsTyped, LinkIsTyped}
use Rattle.span_block.proofs.Found.{name_found, state_found, start_found, end_found, flags_found, status_is}
use Rattle.span_block.proofs.PairsLeft.{span_messages}
use Rattle.block_json.proofs.Found.{signed_again, trace_found, id_found, parent_found, kind_found, dropped_attributes_found, dropped_events_found, dropped_links_found}
use Rattle.block_json.proofs.Groups.{in_fields, span_events, span_links}
use Rattle.block_json.proofs.parts.parts.Goals as goal

pub returns : goal.returns
returns c s is =
    let fs = span_fields s in
    let all = all_left fs c.of-cursor.result.rest.now (ap fields_of c.of-cursor.ensures ∙ is.read) in
    let trace = next bytes_in 0 1 fs _ _ _ all (lit< tt) c.bytes-trace_id.ensures.asked in
    let id = next bytes_in 1 2 fs _ _ _ trace.1 (lit< tt) c.bytes-span_id.ensures.asked in
    let state = next bytes_in 2 3 fs _ _ _ id.1 (lit< tt) c.bytes-trace_state.ensures.asked in
    let parent = next bytes_in 3 4 fs _ _ _ state.1 (lit< tt) c.bytes-parent_id.ensures.asked in
    let name = next bytes_in 4 5 fs _ _ _ parent.1 (lit< tt) c.bytes-name.ensures.asked in
    let kind = next number_in 5 6 fs _ _ _ name.1 (lit< tt) c.number.ensures in
    let start = next fixed64_in 6 7 fs _ _ _ kind.1 (lit< tt) c.fixed64-start.ensures in
    let end = next fixed64_in 7 8 fs _ _ _ start.1 (lit< tt) c.fixed64-end.ensures in
    let attributes = next number_in 8 10 fs _ _ _ end.1 (lit< tt) c.number-2.ensures in
    let events = next number_in 10 12 fs _ _ _ attributes.1 (lit< tt) c.number-3.ensures in
    let links = next number_in 12 14 fs _ _ _ events.1 (lit< tt) c.number-4.ensures in
    let status = next bytes_in 14 15 fs _ _ _ links.1 (lit< tt) c.bytes-status.ensures.asked in
    let flags = next fixed32_in 15 16 fs _ _ _ status.1 (lit< tt) c.fixed32-flags.ensures in
    record {
      ids = is.ids;
      holds = is.holds;
      trace_id = trace.0 ∙ trace_found s;
      span_id = id.0 ∙ id_found s;
      trace_state = state.0 ∙ state_found s;
      parent_id = parent.0 ∙ parent_found s;
      name = name.0 ∙ name_found s;
      kind = signed_again c.int64-kind.result s.kind (c.int64-kind.ensures ∙ ap int64 kind.0 ∙ kind_found s is.holds.times.kind) is.holds.times.kind;
      start = start.0 ∙ start_found s;
      end = end.0 ∙ end_found s;
      attributes = in_fields pair_fields (PairIsTyped most_levels) 9 _ end.1.remaining s.attributes end.1.read (end.1.several 9 (lit< tt) ∙ span_messages s) is.typed.attributes;
      dropped_attributes = c.uint32-dropped_attributes.ensures ∙ ap uint32 attributes.0 ∙ dropped_attributes_found s is.holds.parts.dropped_attributes;
      events = in_fields event_fields (EventIsTyped most_levels) 11 _ attributes.1.remaining s.events attributes.1.read (attributes.1.several 11 (lit< tt) ∙ span_events s) is.typed.events;
      dropped_events = c.uint32-dropped_events.ensures ∙ ap uint32 events.0 ∙ dropped_events_found s is.holds.parts.dropped_events;
      links = in_fields link_fields (LinkIsTyped most_levels) 13 _ events.1.remaining s.links events.1.read (events.1.several 13 (lit< tt) ∙ span_links s) is.typed.links;
      dropped_links = c.uint32-dropped_links.ensures ∙ ap uint32 links.0 ∙ dropped_links_found s is.holds.parts.dropped_links;
      status = status.0 ∙ status_is s;
      flags = flags.0 ∙ flags_found s;
    }
