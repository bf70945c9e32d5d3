-- Lists of conditions, of which one suffices (the Collector contrib's `pkg/ottl`, `ConditionSequence`; the tail sampling
-- processor's policy `ottl_condition`): asked of a span, of its events, or of the spans of a trace and of their events.
use Rattle.std.specs.Prelude.{ℕ, Bool, true, false, List, [], ◌∷◌, map, Ok, Err}
use Rattle.otlp_types.specs.declared.span.Event.{Event}
use Rattle.otlp_types.specs.declared.arrival.Record.{Record}
use Rattle.otlp_types.specs.declared.arrival.Arrival.{Arrival}
use Rattle.ottl_text.specs.declared.expression.Context.{Context}
use Rattle.ottl_text.specs.declared.expression.Context.TheVariants.{Span, SpanEvent}
use Rattle.ottl_text.specs.declared.expression.ErrorMode.{ErrorMode}
use Rattle.ottl_text.specs.declared.expression.ErrorMode.TheVariants as modes
use Rattle.ottl_condition.specs.Subjects.{Subject, span, event}
use Rattle.ottl_condition.specs.Values.{Answer}
use Rattle.ottl_lists.specs.Texts.{said_of}

-- what one says, and behind it the others, which are asked where it is false; where it is an error, `propagate` ends with
-- that, and the other modes go on
abbrev pub or_next : ErrorMode → Answer Bool → Answer Bool → Answer Bool
or_next mode (Ok true) next = Ok true
or_next mode (Ok false) next = next
or_next modes.Propagate (Err e) next = Err e
or_next modes.Ignore (Err e) next = next
or_next modes.Silent (Err e) next = next

-- whether one of them is true, asked in this order
abbrev pub some_of : ErrorMode → List (Answer Bool) → Answer Bool
some_of mode [] = Ok false
some_of mode (said ∷ rest) = or_next mode said (some_of mode rest)

-- whether some condition is true of a span or of an event
abbrev pub some_holds : ErrorMode → Context → (texts : List (List ℕ)) → Subject → Answer Bool
some_holds mode context texts s = some_of mode (map (λ text. said_of context text s) texts)

-- whether some condition is true of some event of a span; an error ends it
abbrev pub some_event_holds : ErrorMode → (texts : List (List ℕ)) → Record → List Event → Answer Bool
some_event_holds mode texts sent events = some_of modes.Propagate (map (λ e. some_holds mode SpanEvent texts (event sent e)) events)

-- whether some condition on spans is true of a span, or, where none is, some condition on events of one of its events
abbrev pub span_meets : ErrorMode → (on_span on_event : List (List ℕ)) → Record → Answer Bool
span_meets mode on_span on_event sent = or_next modes.Propagate (some_holds mode Span on_span (span sent)) (some_event_holds mode on_event sent sent.span.events)

-- whether some span of a trace meets them so, asked in this order; an error ends it
abbrev pub trace_meets : ErrorMode → (on_span on_event : List (List ℕ)) → List Arrival → Answer Bool
trace_meets mode on_span on_event spans = some_of modes.Propagate (map (λ (a : Arrival). span_meets mode on_span on_event a.rec) spans)
