use Rattle.std.proofs.Common.{codes}
use Rattle.otlp_protobuf.specs.Values.{most_levels}
use Rattle.otlp_protobuf_encode.specs.Writing as wire
use Rattle.otlp_json.specs.Writing.{event_fields}
use Rattle.span_block.specs.Typed.{EventIsTyped}
use Rattle.block_json.proofs.Lists.{first-told, next-told, all-told, none-told}
use Rattle.block_json.proofs.span.events.Goals as goal

pub returns-in_default : goal.returns-in_default
returns-in_default g c = none-told g.met.S.TokenSink.composes wire.event_fields (EventIsTyped most_levels) event_fields (codes "events") 11 c.args.message.now c.of-items.result.rest.now c.message.new.self.rest.now c.args.out.now c.of-items.ensures c.in_default.ensures.next

pub items-init : goal.items-init
items-init g c = first-told g.met.S.TokenSink.composes wire.event_fields (EventIsTyped most_levels) event_fields (codes "events") 11 c.args.message.now c.of-items.result.rest.now c.message.new.self.rest.now c.in-Some.first c.args.out.now c.key.new.self c.begin_array.new.self c.event.new.out c.of-items.ensures c.in-Some.ensures.next c.key.ensures c.begin_array.ensures c.event.ensures

pub items-preserved : goal.items-preserved
items-preserved g c = next-told g.met.S.TokenSink.composes wire.event_fields (EventIsTyped most_levels) event_fields (codes "events") 11 c.args.message.now c.items.items.rest.now c.message-in-items.new.self.rest.now c.in-Some-message.item c.args.out.now c.items.out c.event-in-Some-message.new.out c.items.invariant c.in-Some-message.ensures.next c.event-in-Some-message.ensures

pub returns : goal.returns
returns g c = all-told g.met.S.TokenSink.composes wire.event_fields (EventIsTyped most_levels) event_fields (codes "events") 11 c.args.message.now c.items.items.rest.now c.message-in-items.new.self.rest.now c.args.out.now c.items.out c.end_array.new.self c.items.invariant c.in_default-message.ensures.next c.end_array.ensures
