-- What a condition is asked of: a span as it was sent, or an event of such a span (OTTL, `contexts/ottlspan` and
-- `contexts/ottlspanevent`).
use Rattle.otlp_types.specs.declared.span.Event.{Event}
use Rattle.otlp_types.specs.declared.arrival.Record.{Record}
use Rattle.ottl_condition.specs.declared.subject.Subject.{Subject as Held}
use Rattle.ottl_condition.specs.declared.subject.Subject.TheVariants as declared_as

pub data Subject : Type 0 where
  span : Record → Subject
  event : Record → Event → Subject

-- the subject as the program holds it
abbrev pub subject_of : Held → Subject
subject_of (declared_as.Span r) = span r.now
subject_of (declared_as.Event r e) = event r.now e.now

-- the span
abbrev pub sent_of : Subject → Record
sent_of (span r) = r
sent_of (event r e) = r
