-- The request that a JSON value is, field by field (OTLP 1.x, the JSON encoding of `ExportTraceServiceRequest`). The
-- outer Option is the reading: None is a value of another shape. An Option inside is part of what is read: a discarded
-- value, a root, invalid ids.
use Rattle.std.specs.Prelude.{◌≡◌, ℕ, zero, suc, ◌≤◌, ◌+◌, ◌-◌, ◌^◌, min, List, [], ◌∷◌, ◌++◌, length, codes, ◌==◌, ◌||◌, if◌then◌else◌, count_by, is_none, Bool, true, false, Option, Some, None, option_map, Bool}
use Rattle.std.specs.Float.{Float}
use Rattle.std.specs.Float.Ieee.{nan, inf}
use Rattle.std.specs.List.{filter_map}
use Rattle.std.specs.Option.{option_to_list}
use Rattle.std.specs.Str.{bytes_eq}
use Rattle.serde_json.specs.Data.{Data, null, boolean, number, string, array, object, Members, no_members, member, depth}
use Rattle.serde_json.specs.Read.{number_of}
use Rattle.serde_json.specs.Find.{as_bool, as_str, to_float}
use Rattle.otlp_types.specs.declared.value.AnyValue.{AnyValue, Empty, Str, Bool as Truth, Int, Double, Array, KvList, Bytes}
use Rattle.otlp_types.specs.Doubles.{is_number}
use Rattle.otlp_types.specs.declared.value.KeyValue.{KeyValue}
use Rattle.otlp_types.specs.declared.span.Ids.{Ids}
use Rattle.otlp_types.specs.declared.span.Status.{Status}
use Rattle.otlp_types.specs.declared.span.Event.{Event}
use Rattle.otlp_types.specs.declared.span.Link.{Link}
use Rattle.otlp_types.specs.declared.span.Span.{Span}
use Rattle.otlp_types.specs.declared.request.Resource.{Resource}
use Rattle.otlp_types.specs.declared.request.Scope.{Scope}
use Rattle.otlp_types.specs.declared.request.ScopeSpans.{ScopeSpans}
use Rattle.otlp_types.specs.declared.request.ResourceSpans.{ResourceSpans}
use Rattle.otlp_types.specs.declared.request.Request.{Request}
use Rattle.span_ids.specs.Id.{id_of}
use Rattle.otlp_reading.specs.declared.value.ValueKey.{ValueKey}
use Rattle.otlp_reading.specs.declared.value.ValueKey.TheVariants as key
use Rattle.otlp_reading.specs.Kinds.{◌>>=◌, field, unless_null, read_or, text, i64_value, u32, u64, enum, list_of, message, inner}

-- ---- values

-- None: it holds a double that is not kept at some depth, so its attribute is discarded, and that is no fault
abbrev pub OrDiscarded : Type 0 → Type 0
OrDiscarded A = Option A

-- those that are kept
abbrev pub kept : {A : Type 0} → List (OrDiscarded A) → List A
kept = filter_map (λ x. x)

-- how many are discarded
abbrev pub discarded : {A : Type 0} → List (OrDiscarded A) → ℕ
discarded = count_by is_none

-- those that are kept, and how many are discarded
abbrev pub sieved : {A : Type 0} → List (OrDiscarded A) → List A × ℕ
sieved xs = (kept xs, discarded xs)

-- all of them, if none is discarded
abbrev pub all_kept : {A : Type 0} → List (OrDiscarded A) → OrDiscarded (List A)
all_kept xs = if discarded xs == 0 then Some (kept xs) else None

-- the kind of value that a member of this name holds (`common.proto` v1, `AnyValue`)
abbrev pub value_key : List ℕ → Option ValueKey
value_key name =
    if bytes_eq name (codes "stringValue") then Some key.Str
    else if bytes_eq name (codes "boolValue") then Some key.Bool
    else if bytes_eq name (codes "intValue") then Some key.Int
    else if bytes_eq name (codes "doubleValue") then Some key.Double
    else if bytes_eq name (codes "arrayValue") then Some key.Array
    else if bytes_eq name (codes "kvlistValue") then Some key.KvList
    else if bytes_eq name (codes "bytesValue") then Some key.Bytes
    else None

-- what this member holds, if its name is a value key and it is not null
abbrev pub value_member : List ℕ → Data → Option (ValueKey × Data)
value_member name d = value_key name >>= λ k. option_map (λ e. (k, e)) (unless_null d)

-- what the members with value keys hold
abbrev pub value_members : Members → List (ValueKey × Data)
value_members no_members = []
value_members (member name d ms) = option_to_list (value_member name d) ++ value_members ms

-- the one that is there, if any; two are refused
abbrev pub at_most_one : {A : Type 0} → List A → Option (Option A)
at_most_one [] = Some None
at_most_one (x ∷ []) = Some (Some x)
at_most_one (x ∷ y ∷ xs) = None

-- the double that a text names or writes (protobuf's JSON mapping)
abbrev pub double_of_text : List ℕ → Option Float
double_of_text s =
    if bytes_eq s (codes "NaN") then Some nan
    else if bytes_eq s (codes "Infinity") then Some (inf false)
    else if bytes_eq s (codes "-Infinity") then Some (inf true)
    else if is_number s then option_map to_float (number_of s)
    else None

-- the double that is nearest to a number, or that a text is
abbrev pub double_of : Data → Option Float
double_of null = None
double_of (boolean b) = None
double_of (number n) = Some (to_float n)
double_of (string s) = double_of_text s
double_of (array ds) = None
double_of (object ms) = None

-- a double that is kept
abbrev pub kept_double : Float → OrDiscarded AnyValue
kept_double x = Some (Double x)

-- a double, whatever stands there where doubles are discarded
abbrev pub double_value : Bool → Data → Option (OrDiscarded AnyValue)
double_value keeps_doubles d = if keeps_doubles then option_map kept_double (double_of d) else Some None

-- `value` reads the values inside
module _ (value : Data → Option (OrDiscarded AnyValue)) where
  -- a pair whose value is absent has the empty value
  abbrev pub key_value : Members → Option (OrDiscarded KeyValue)
  key_value ms = do
    name ← text (field (codes "key") ms)
    v ← read_or (Some Empty) value (field (codes "value") ms)
    Some (option_map (λ x. record { key = name; value = x }) v)

  -- an `ArrayValue`
  abbrev pub values : Members → Option (OrDiscarded (List AnyValue))
  values ms = option_map all_kept (list_of value (field (codes "values") ms))

  -- a `KeyValueList`
  abbrev pub pairs : Members → Option (OrDiscarded (List KeyValue))
  pairs ms = option_map all_kept (list_of (message key_value) (field (codes "values") ms))

  -- what is held under a value key
  abbrev pub value_by : Bool → ValueKey → Data → Option (OrDiscarded AnyValue)
  value_by keeps_doubles key.Str d = option_map (λ s. Some (Str s)) (as_str d)
  value_by keeps_doubles key.Bool d = option_map (λ b. Some (Truth b)) (as_bool d)
  value_by keeps_doubles key.Int d = option_map (λ n. Some (Int n)) (i64_value d)
  value_by keeps_doubles key.Double d = double_value keeps_doubles d
  value_by keeps_doubles key.Array d = option_map (option_map Array) (message values d)
  value_by keeps_doubles key.KvList d = option_map (option_map KvList) (message pairs d)
  value_by keeps_doubles key.Bytes d = option_map (λ s. Some (Bytes s)) (as_str d)

  -- an AnyValue with no value key is empty
  abbrev pub value_of_member : Bool → Option (ValueKey × Data) → Option (OrDiscarded AnyValue)
  value_of_member keeps_doubles None = Some (Some Empty)
  value_of_member keeps_doubles (Some h) = value_by keeps_doubles h.0 h.1

  -- an `AnyValue`
  abbrev pub value_in : Bool → Members → Option (OrDiscarded AnyValue)
  value_in keeps_doubles ms = at_most_one (value_members ms) >>= value_of_member keeps_doubles

-- a value that nests at most so many levels deep
unfoldable pub value_to : Bool → ℕ → Data → Option (OrDiscarded AnyValue)
value_to keeps_doubles zero d = None
value_to keeps_doubles (suc levels) d = message (value_in (value_to keeps_doubles levels) keeps_doubles) d

-- how many levels are allowed makes no difference to a value that nests within them
abbrev pub LevelsSuffice : Type 0
LevelsSuffice = (keeps_doubles : Bool) (n m : ℕ) (d : Data) → depth d ≤ n → depth d ≤ m → value_to keeps_doubles n d ≡ value_to keeps_doubles m d

-- `serde_json` reads no text that nests deeper than 127, and each level here takes one of those.
abbrev pub any_value : Bool → Data → Option (OrDiscarded AnyValue)
any_value keeps_doubles = value_to keeps_doubles 127

-- the attributes that are kept, and how many were dropped: those already counted, and those discarded
abbrev pub attributes : Bool → Members → Option (List KeyValue × ℕ)
attributes keeps_doubles ms = do
  all ← list_of (message (key_value (any_value keeps_doubles))) (field (codes "attributes") ms)
  dropped ← u32 (field (codes "droppedAttributesCount") ms)
  Some (kept all, min (dropped + discarded all) (2 ^ 32 - 1))

-- ---- spans

-- an empty parent, or one of sixteen zeros, is a root
abbrev pub parent_of : List ℕ → Option (Option (List ℕ))
parent_of s = if (length s == 0) || bytes_eq s (codes "0000000000000000") then Some None else option_map Some (id_of 8 s)

-- the ids of a span, where all of them are valid
abbrev pub valid_ids : List ℕ → List ℕ → List ℕ → Option Ids
valid_ids trace_id span_id parent_id = do
  t ← id_of 16 trace_id
  s ← id_of 8 span_id
  p ← parent_of parent_id
  Some (record { trace = t; span = s; parent = p })

-- a request stands with a span whose ids are invalid
abbrev pub ids : Members → Option (Option Ids)
ids ms = do
  trace_id ← text (field (codes "traceId") ms)
  span_id ← text (field (codes "spanId") ms)
  parent_id ← text (field (codes "parentSpanId") ms)
  Some (valid_ids trace_id span_id parent_id)

-- a `Status`
abbrev pub status : Members → Option Status
status ms = do
  message ← text (field (codes "message") ms)
  code ← enum (field (codes "code") ms)
  Some (record { message = message; code = code })

-- a `Span.Event`
abbrev pub event : Bool → Members → Option Event
event keeps_doubles ms = do
  time ← u64 (field (codes "timeUnixNano") ms)
  name ← text (field (codes "name") ms)
  a ← attributes keeps_doubles ms
  Some (record { time_unix_nano = time; name = name; attributes = a.0; dropped_attributes_count = a.1 })

-- a `Span.Link`: its ids are kept as the text that came
abbrev pub link : Bool → Members → Option Link
link keeps_doubles ms = do
  trace_id ← text (field (codes "traceId") ms)
  span_id ← text (field (codes "spanId") ms)
  trace_state ← text (field (codes "traceState") ms)
  a ← attributes keeps_doubles ms
  flags ← u32 (field (codes "flags") ms)
  Some (record { trace_id = trace_id; span_id = span_id; trace_state = trace_state; attributes = a.0; dropped_attributes_count = a.1; flags = flags })

-- a `Span`
abbrev pub span : Bool → Members → Option Span
span keeps_doubles ms = do
  ids ← ids ms
  trace_state ← text (field (codes "traceState") ms)
  flags ← u32 (field (codes "flags") ms)
  name ← text (field (codes "name") ms)
  kind ← enum (field (codes "kind") ms)
  start ← u64 (field (codes "startTimeUnixNano") ms)
  end ← u64 (field (codes "endTimeUnixNano") ms)
  a ← attributes keeps_doubles ms
  events ← list_of (message (event keeps_doubles)) (field (codes "events") ms)
  dropped_events ← u32 (field (codes "droppedEventsCount") ms)
  links ← list_of (message (link keeps_doubles)) (field (codes "links") ms)
  dropped_links ← u32 (field (codes "droppedLinksCount") ms)
  status ← inner status (field (codes "status") ms)
  Some (record {
    ids = ids;
    trace_state = trace_state;
    flags = flags;
    name = name;
    kind = kind;
    start_time_unix_nano = start;
    end_time_unix_nano = end;
    attributes = a.0;
    dropped_attributes_count = a.1;
    events = events;
    dropped_events_count = dropped_events;
    links = links;
    dropped_links_count = dropped_links;
    status = status;
  })

-- ---- the request

-- a `Resource`
abbrev pub resource : Bool → Members → Option Resource
resource keeps_doubles ms = option_map (λ a. record { attributes = a.0; dropped_attributes_count = a.1 }) (attributes keeps_doubles ms)

-- an `InstrumentationScope`
abbrev pub scope : Bool → Members → Option Scope
scope keeps_doubles ms = do
  name ← text (field (codes "name") ms)
  version ← text (field (codes "version") ms)
  a ← attributes keeps_doubles ms
  Some (record { name = name; version = version; attributes = a.0; dropped_attributes_count = a.1 })

-- a message that all of a group share, the messages of the group, and the URL of their schema
abbrev pub grouped : {A B : Type 0} → (Members → Option A) → (Members → Option B) → List ℕ → List ℕ → Members → Option (A × List B × List ℕ)
grouped read_shared read_one shared list ms = do
  s ← inner read_shared (field shared ms)
  all ← list_of (message read_one) (field list ms)
  url ← text (field (codes "schemaUrl") ms)
  Some (s, all, url)

-- a `ScopeSpans`
abbrev pub scope_spans : Bool → Members → Option ScopeSpans
scope_spans keeps_doubles ms = option_map (λ g. record { scope = g.0; spans = g.1; schema_url = g.2 }) (grouped (scope keeps_doubles) (span keeps_doubles) (codes "scope") (codes "spans") ms)

-- a `ResourceSpans`
abbrev pub resource_spans : Bool → Members → Option ResourceSpans
resource_spans keeps_doubles ms = option_map (λ g. record { resource = g.0; scope_spans = g.1; schema_url = g.2 }) (grouped (resource keeps_doubles) (scope_spans keeps_doubles) (codes "resource") (codes "scopeSpans") ms)

-- an `ExportTraceServiceRequest`
abbrev pub request : Bool → Members → Option Request
request keeps_doubles ms = option_map (λ all. record { resource_spans = all }) (list_of (message (resource_spans keeps_doubles)) (field (codes "resourceSpans") ms))

-- the request that a JSON value is, if it is one
abbrev pub request_of : Bool → Data → Option Request
request_of keeps_doubles = message (request keeps_doubles)
