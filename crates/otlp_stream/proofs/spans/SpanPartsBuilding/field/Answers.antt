use Rattle.std.proofs.lemmas.Result.{on_ok_weaker}
use Rattle.otlp_reading.specs.Kinds.{unless_null, text, enum, u32, u64, list_of, message, inner}
use Rattle.otlp_reading.specs.Reading.{status, event, link}
use Rattle.otlp_stream.specs.SoFar.{trace_field, id_field, parent_field}
use Rattle.otlp_stream.proofs.Named.{other, put_at, put_token_at}
use Rattle.otlp_stream.proofs.spans.SpanPartsBuilding.field.Goals as goal

pub returns-in-traceId : goal.returns-in-traceId
returns-in-traceId c = put_token_at _ _ _ _ _ _ _ _ _ _ c.put.ensures c.in-traceId.is c.trace_id.ensures (λ seen o e s. (e, s.1, s.2, s.3, s.4, s.5, s.6, s.7, s.8, s.9, s.10, s.11, s.12, s.13, s.14))

pub returns-in-spanId : goal.returns-in-spanId
returns-in-spanId c = put_token_at _ _ _ _ _ _ _ _ _ _ c.put-in-spanId.ensures c.in-spanId.is c.span_id.ensures (λ seen o e s. (s.0, e, s.2, s.3, s.4, s.5, s.6, s.7, s.8, s.9, s.10, s.11, s.12, s.13, s.14))

pub returns-in-parentSpanId : goal.returns-in-parentSpanId
returns-in-parentSpanId c = put_token_at _ _ _ _ _ _ _ _ _ _ c.put-in-parentSpanId.ensures c.in-parentSpanId.is c.parent_id.ensures (λ seen o e s. (s.0, s.1, e, s.3, s.4, s.5, s.6, s.7, s.8, s.9, s.10, s.11, s.12, s.13, s.14))

pub returns-in-traceState : goal.returns-in-traceState
returns-in-traceState c = put_token_at _ _ _ _ _ _ _ _ _ _ c.put-in-traceState.ensures c.in-traceState.is c.text.ensures (λ seen o e s. (s.0, s.1, s.2, e, s.4, s.5, s.6, s.7, s.8, s.9, s.10, s.11, s.12, s.13, s.14))

pub returns-in-flags : goal.returns-in-flags
returns-in-flags c = put_token_at _ _ _ _ _ _ _ _ _ _ c.put-in-flags.ensures c.in-flags.is c.number_u32.ensures (λ seen o e s. (s.0, s.1, s.2, s.3, e, s.5, s.6, s.7, s.8, s.9, s.10, s.11, s.12, s.13, s.14))

pub returns-in-name : goal.returns-in-name
returns-in-name c = put_token_at _ _ _ _ _ _ _ _ _ _ c.put-in-name.ensures c.in-name.is c.text-in-name.ensures (λ seen o e s. (s.0, s.1, s.2, s.3, s.4, e, s.6, s.7, s.8, s.9, s.10, s.11, s.12, s.13, s.14))

pub returns-in-kind : goal.returns-in-kind
returns-in-kind c = put_token_at _ _ _ _ _ _ _ _ _ _ c.put-in-kind.ensures c.in-kind.is c.enumeration.ensures (λ seen o e s. (s.0, s.1, s.2, s.3, s.4, s.5, e, s.7, s.8, s.9, s.10, s.11, s.12, s.13, s.14))

pub returns-in-startTimeUnixNano : goal.returns-in-startTimeUnixNano
returns-in-startTimeUnixNano c = put_token_at _ _ _ _ _ _ _ _ _ _ c.put-in-startTimeUnixNano.ensures c.in-startTimeUnixNano.is c.number_u64.ensures (λ seen o e s. (s.0, s.1, s.2, s.3, s.4, s.5, s.6, e, s.8, s.9, s.10, s.11, s.12, s.13, s.14))

pub returns-in-endTimeUnixNano : goal.returns-in-endTimeUnixNano
returns-in-endTimeUnixNano c = put_token_at _ _ _ _ _ _ _ _ _ _ c.put-in-endTimeUnixNano.ensures c.in-endTimeUnixNano.is c.number_u64-in-endTimeUnixNano.ensures (λ seen o e s. (s.0, s.1, s.2, s.3, s.4, s.5, s.6, s.7, e, s.9, s.10, s.11, s.12, s.13, s.14))

pub returns-in-events : goal.returns-in-events
returns-in-events c = put_at _ _ _ _ _ _ _ _ _ _ c.put-in-events.ensures c.in-events.is c.list_of.ensures (λ seen o e s. (s.0, s.1, s.2, s.3, s.4, s.5, s.6, s.7, s.8, e, s.10, s.11, s.12, s.13, s.14))

pub returns-in-droppedEventsCount : goal.returns-in-droppedEventsCount
returns-in-droppedEventsCount c = put_token_at _ _ _ _ _ _ _ _ _ _ c.put-in-droppedEventsCount.ensures c.in-droppedEventsCount.is c.number_u32-in-droppedEventsCount.ensures (λ seen o e s. (s.0, s.1, s.2, s.3, s.4, s.5, s.6, s.7, s.8, s.9, e, s.11, s.12, s.13, s.14))

pub returns-in-links : goal.returns-in-links
returns-in-links c = put_at _ _ _ _ _ _ _ _ _ _ c.put-in-links.ensures c.in-links.is c.list_of-in-links.ensures (λ seen o e s. (s.0, s.1, s.2, s.3, s.4, s.5, s.6, s.7, s.8, s.9, s.10, e, s.12, s.13, s.14))

pub returns-in-droppedLinksCount : goal.returns-in-droppedLinksCount
returns-in-droppedLinksCount c = put_token_at _ _ _ _ _ _ _ _ _ _ c.put-in-droppedLinksCount.ensures c.in-droppedLinksCount.is c.number_u32-in-droppedLinksCount.ensures (λ seen o e s. (s.0, s.1, s.2, s.3, s.4, s.5, s.6, s.7, s.8, s.9, s.10, s.11, e, s.13, s.14))

pub returns-in-status : goal.returns-in-status
returns-in-status c = put_at _ _ _ _ _ _ _ _ _ _ c.put-in-status.ensures c.in-status.is c.message.ensures.field (λ seen o e s. (s.0, s.1, s.2, s.3, s.4, s.5, s.6, s.7, s.8, s.9, s.10, s.11, s.12, e, s.14))

pub returns-in_default : goal.returns-in_default
returns-in_default c =
    on_ok_weaker c.field.result (λ t. record {
      found = t.found;
      takes = t.takes;
      keeps = λ seen s.
          let d = c.in_default in
          let o = unless_null t.found in (
            other trace_field o seen _ d.not-traceId s.0,
            other id_field o seen _ d.not-spanId s.1,
            other parent_field o seen _ d.not-parentSpanId s.2,
            other text o seen _ d.not-traceState s.3,
            other u32 o seen _ d.not-flags s.4,
            other text o seen _ d.not-name s.5,
            other enum o seen _ d.not-kind s.6,
            other u64 o seen _ d.not-startTimeUnixNano s.7,
            other u64 o seen _ d.not-endTimeUnixNano s.8,
            other (list_of (message (event c.args.keeps_doubles))) o seen _ d.not-events s.9,
            other u32 o seen _ d.not-droppedEventsCount s.10,
            other (list_of (message (link c.args.keeps_doubles))) o seen _ d.not-links s.11,
            other u32 o seen _ d.not-droppedLinksCount s.12,
            other (inner status) o seen _ d.not-status s.13,
            t.keeps seen s.14,
          );
    }) c.field.ensures
