use Rattle.std.proofs.Common.{codes, length}
use Rattle.otlp_protobuf.specs.Values.{most_levels}
use Rattle.otlp_protobuf_encode.specs.Writing as wire
use Rattle.otlp_json.specs.Writing.{event_fields}
use Rattle.span_block.specs.Typed.{EventIsTyped}
use Rattle.block_json.proofs.Lists.{SoFar}
use Rattle.block_json.proofs.span.events.Given as goal

abbrev pub invariant-items : goal.invariant-items
invariant-items g l = SoFar g.S.TokenSink.adds wire.event_fields (EventIsTyped most_levels) event_fields (codes "events") 11 l.message l.items.rest.now l.fn.out l.out

abbrev pub decreases-items : goal.decreases-items
decreases-items g l = length l.items.rest.now
