-- Records, arrivals and what is sent of them may go to another thread, type by type. What records share may also be
-- read from several threads. For each call above that starts threads: the lines before its result are found step by
-- step from these.
use denote.Param.Send.{IsSend, IsSync, sendable}
use Rattle.otlp_types.proofs.value.AnyValue.TheLaws.TheKnot as knot
use Rattle.otlp_types.proofs.list.List.TheSendSync as list
use Rattle.otlp_types.proofs.list.Text.TheSendSync as text
use Rattle.otlp_types.proofs.shared.Shared.TheSendSync as shared
use Rattle.otlp_types.proofs.boxed.Boxed.TheSendSync as boxed
use Rattle.otlp_types.proofs.span.Ids.TheSendSync as ids
use Rattle.otlp_types.proofs.span.Status.TheSendSync as status
use Rattle.span_ids.proofs.keys.ArrivalKey.TheSendSync as key
use Rattle.otlp_types.specs.contracts.value.KeyValue as pair
use Rattle.otlp_types.specs.contracts.request.Resource as resource
use Rattle.otlp_types.specs.contracts.request.Scope as scope
use Rattle.otlp_types.specs.contracts.span.Event as event
use Rattle.otlp_types.specs.contracts.span.Link as link
use Rattle.otlp_types.specs.contracts.span.Span as span
use Rattle.otlp_types.specs.contracts.arrival.Record as rec
use Rattle.otlp_types.specs.contracts.arrival.Arrival as arrival
use Rattle.otlp_types.specs.contracts.arrival.Item as item

pub pair_send : IsSend pair.the_row
pair_send = search (sendable, list.the_send, text.the_send, knot.send-KeyValue) depth 40

pub pair_sync : IsSync pair.the_row
pair_sync = search (sendable, list.the_sync, text.the_sync, knot.sync-KeyValue) depth 40

pub resource_send : IsSend resource.the_row
resource_send = search (sendable, list.the_send, pair_send) depth 40

pub resource_sync : IsSync resource.the_row
resource_sync = search (sendable, list.the_sync, pair_sync) depth 40

pub scope_send : IsSend scope.the_row
scope_send = search (sendable, list.the_send, text.the_send, pair_send) depth 40

pub scope_sync : IsSync scope.the_row
scope_sync = search (sendable, list.the_sync, text.the_sync, pair_sync) depth 40

pub event_send : IsSend event.the_row
event_send = search (sendable, list.the_send, text.the_send, pair_send) depth 40

pub link_send : IsSend link.the_row
link_send = search (sendable, list.the_send, text.the_send, pair_send) depth 40

pub span_field : IsSend (span.the_field).row
span_field = search (sendable, list.the_send, text.the_send, pair_send, event_send, link_send, ids.the_send, status.the_field_send) depth 20

pub span_send : IsSend span.the_row
span_send = search (sendable, span_field) depth 20

pub rec_field : IsSend (rec.the_field).row
rec_field = search (sendable, shared.the_send, text.the_send, text.the_sync, resource_send, resource_sync, scope_send, scope_sync, boxed.the_send, span_send) depth 20

pub arrival_field : IsSend (arrival.the_field).row
arrival_field = search (sendable, rec_field, key.the_field_send) depth 20

pub arrival_send : IsSend arrival.the_row
arrival_send = search (sendable, arrival_field) depth 20

pub item_send : IsSend item.the_row
item_send = search (sendable, arrival_field) depth 20
