-- What a span and an event have, and what they were sent under (OTTL, `contexts/ottlspan` and `contexts/ottlspanevent`, "Paths").
use Rattle.std.specs.Prelude.{ℕ, ℤ, pos, negsuc, Bool, true, false, List, [], ◌∷◌, slice_get, Option, Some, None, Result, Ok, Err, codes, if◌then◌else◌}
use Rattle.std.specs.Option.{option_map}
use Rattle.std.specs.Int.{w64, cast_signed}
use Rattle.std.specs.Ordering.{int_eq}
use Rattle.span_ids.specs.Id.{id_text}
use Rattle.span_ids.specs.declared.ids.SpanId.{SpanId}
use Rattle.otlp_types.specs.declared.span.Ids.{Ids}
use Rattle.otlp_types.specs.declared.arrival.Record.{Record}
use Rattle.otlp_types.specs.declared.value.AnyValue.{AnyValue}
use Rattle.otlp_types.specs.declared.value.KeyValue.{KeyValue}
use Rattle.ottl_text.specs.declared.expression.Root.{Root}
use Rattle.ottl_text.specs.declared.expression.Root.TheVariants as roots
use Rattle.ottl_text.specs.declared.expression.Key.{Key}
use Rattle.ottl_text.specs.declared.expression.Key.TheVariants as keys
use Rattle.ottl_condition.specs.declared.value.Value.{Value as Held}
use Rattle.ottl_condition.specs.declared.eval_error.EvalError.{EvalError}
use Rattle.ottl_condition.specs.declared.eval_error.EvalError.TheVariants as errors
use Rattle.ottl_condition.specs.Subjects.{Subject, event, sent_of}
use Rattle.ottl_equality.specs.Equality.{pair_of}
use Rattle.ottl_condition.specs.Values.{Value, nil, int, text, map, list, time, any_value, value_of, Answer, ◌>>=◌}

-- a kind's name; other numbers have none
abbrev pub kind_text : ℤ → List ℕ
kind_text z =
    if int_eq z (pos 0) then codes "Unspecified"
    else if int_eq z (pos 1) then codes "Internal"
    else if int_eq z (pos 2) then codes "Server"
    else if int_eq z (pos 3) then codes "Client"
    else if int_eq z (pos 4) then codes "Producer"
    else if int_eq z (pos 5) then codes "Consumer"
    else []

-- the digits of ids; those of none are zeros
abbrev pub no_span : Value
no_span = text (codes "0000000000000000")

abbrev pub no_trace : Value
no_trace = text (codes "00000000000000000000000000000000")

abbrev pub span_id_value : Option SpanId → Value
span_id_value (Some id) = text (id_text id)
span_id_value None = no_span

abbrev pub parent_of : Option Ids → Option SpanId
parent_of (Some ids) = ids.parent
parent_of None = None

-- a root has no parent
abbrev pub is_root : Option SpanId → Bool
is_root None = true
is_root (Some id) = false

-- the ids of a span
abbrev pub id_value : Root → Option Ids → Value
id_value roots.ParentSpanIdText ids = span_id_value (parent_of ids)
id_value roots.SpanIdText (Some ids) = text (id_text ids.span)
id_value roots.SpanIdText None = no_span
id_value _ (Some ids) = text (id_text ids.trace)
id_value _ None = no_trace

-- what the span was sent under
abbrev pub outer_value : Root → Record → Value
outer_value roots.ResourceAttributes r = map r.resource.attributes
outer_value roots.ResourceDroppedAttributes r = int (pos r.resource.dropped_attributes_count)
outer_value roots.ScopeName r = text r.scope.name
outer_value roots.ScopeVersion r = text r.scope.version
outer_value roots.ScopeAttributes r = map r.scope.attributes
outer_value roots.ScopeDroppedAttributes r = int (pos r.scope.dropped_attributes_count)
outer_value _ r = nil

-- what a span has
abbrev pub root_value : Root → Record → Value
root_value roots.Name r = text r.span.name
root_value roots.Kind r = int r.span.kind
root_value roots.KindText r = text (kind_text r.span.kind)
root_value roots.StatusCode r = int r.span.status.code
root_value roots.StatusMessage r = text r.span.status.message
root_value roots.TraceState r = text r.span.trace_state
root_value roots.TraceIdText r = id_value roots.TraceIdText r.span.ids
root_value roots.SpanIdText r = id_value roots.SpanIdText r.span.ids
root_value roots.ParentSpanIdText r = id_value roots.ParentSpanIdText r.span.ids
root_value roots.StartTime r = int (cast_signed w64 r.span.start_time_unix_nano)
root_value roots.EndTime r = int (cast_signed w64 r.span.end_time_unix_nano)
root_value roots.StartMoment r = time (cast_signed w64 r.span.start_time_unix_nano)
root_value roots.EndMoment r = time (cast_signed w64 r.span.end_time_unix_nano)
root_value roots.Attributes r = map r.span.attributes
root_value roots.DroppedAttributes r = int (pos r.span.dropped_attributes_count)
root_value roots.DroppedEvents r = int (pos r.span.dropped_events_count)
root_value roots.DroppedLinks r = int (pos r.span.dropped_links_count)
root_value root r = outer_value root r

-- the value of a path before its keys: of an event just where one is asked
abbrev pub begun : Root → Subject → Value
begun roots.EventName (event r e) = text e.name
begun roots.EventTime (event r e) = int (cast_signed w64 e.time_unix_nano)
begun roots.EventMoment (event r e) = time (cast_signed w64 e.time_unix_nano)
begun roots.EventAttributes (event r e) = map e.attributes
begun roots.EventDroppedAttributes (event r e) = int (pos e.dropped_attributes_count)
begun root s = root_value root (sent_of s)

-- the pairs of a map
abbrev pub pairs_in : Value → Option (List KeyValue)
pairs_in (map ps) = Some ps
pairs_in _ = None

abbrev pub value_in : KeyValue → Value
value_in p = any_value p.value

-- the value of the first pair of a key, if there is one
abbrev pub look_up : (key : List ℕ) → List KeyValue → Option Value
look_up key ps = option_map value_in (pair_of key ps)

-- a value, or `nil` where there is none
abbrev pub or_nil : Option Value → Value
or_nil (Some v) = v
or_nil None = nil

-- the value at a place, from 0; there is none at a place below it
abbrev pub value_at : ℤ → List AnyValue → Option Value
value_at (pos n) vs = option_map any_value (slice_get vs n)
value_at (negsuc n) vs = None

abbrev pub or_out_of_bounds : Option Value → Answer (Option Value)
or_out_of_bounds (Some v) = Ok (Some v)
or_out_of_bounds None = Err errors.OutOfBounds

-- what a key finds, as the program holds it
abbrev pub found_of : Result (Option Held) EvalError → Answer (Option Value)
found_of (Ok o) = Ok (option_map value_of o)
found_of (Err e) = Err e

-- what a key finds in a value: a map may have nothing under it, a list has to have the place
abbrev pub step_into : Value → Key → Answer (Option Value)
step_into (map ps) (keys.Text k) = Ok (look_up k ps)
step_into (map ps) (keys.Index z) = Err errors.KeyIsNoText
step_into (list vs) (keys.Index z) = or_out_of_bounds (value_at z vs)
step_into (list vs) (keys.Text k) = Err errors.KeyIsNoIndex
step_into _ k = Err errors.NoKeysInside

-- a value, or `nil` for none, whatever keys follow
abbrev pub go_on : Option Value → (Value → Answer Value) → Answer Value
go_on None more = Ok nil
go_on (Some v) more = more v

-- what keys find, one inside the other
abbrev pub walk : Value → List Key → Answer Value
walk v [] = Ok v
walk v (k ∷ ks) = step_into v k >>= λ o. go_on o (λ w. walk w ks)
