-- Shipments may go to another thread.
use denote.Param.Send.{IsSend, sendable}
use Rattle.otlp_types.proofs.Sent.{arrival_field}
use Rattle.released_spans.specs.contracts.shipment.Shipment as shipment

pub shipment_send : IsSend shipment.the_row
shipment_send = search (sendable, arrival_field) depth 20
