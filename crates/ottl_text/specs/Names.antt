-- The names of the language: paths (OTTL, `contexts/ottlspan` and `contexts/ottlspanevent`, "Paths" and "Enums"), functions (`ottlfuncs`), operators.
use Rattle.std.specs.Prelude.{ℕ, ℤ, pos, Bool, true, false, List, length, take, drop, Option, Some, None, codes, bytes_eq, if◌then◌else◌}
use Rattle.ottl_text.specs.declared.expression.Context.{Context}
use Rattle.ottl_text.specs.declared.expression.Context.TheVariants as contexts
use Rattle.ottl_text.specs.declared.expression.Root.{Root}
use Rattle.ottl_text.specs.declared.expression.Root.TheVariants as roots
use Rattle.ottl_text.specs.declared.expression.Case.{Case}
use Rattle.ottl_text.specs.declared.expression.Case.TheVariants as cases
use Rattle.ottl_text.specs.declared.expression.Unary.{Unary}
use Rattle.ottl_text.specs.declared.expression.Unary.TheVariants as one
use Rattle.ottl_text.specs.declared.expression.Binary.{Binary}
use Rattle.ottl_text.specs.declared.expression.Binary.TheVariants as two
use Rattle.ottl_text.specs.Tokens.{Piece, word, operator}

-- the kinds of spans and the codes of a status, by name
unfoldable pub enumeration_of : List ℕ → Option ℤ
enumeration_of w =
    if bytes_eq w (codes "SPAN_KIND_UNSPECIFIED") then Some (pos 0)
    else if bytes_eq w (codes "SPAN_KIND_INTERNAL") then Some (pos 1)
    else if bytes_eq w (codes "SPAN_KIND_SERVER") then Some (pos 2)
    else if bytes_eq w (codes "SPAN_KIND_CLIENT") then Some (pos 3)
    else if bytes_eq w (codes "SPAN_KIND_PRODUCER") then Some (pos 4)
    else if bytes_eq w (codes "SPAN_KIND_CONSUMER") then Some (pos 5)
    else if bytes_eq w (codes "STATUS_CODE_UNSET") then Some (pos 0)
    else if bytes_eq w (codes "STATUS_CODE_OK") then Some (pos 1)
    else if bytes_eq w (codes "STATUS_CODE_ERROR") then Some (pos 2)
    else None

-- functions of one value
unfoldable pub unary_of : List ℕ → Option Unary
unary_of w =
    if bytes_eq w (codes "IsString") then Some one.IsString
    else if bytes_eq w (codes "IsInt") then Some one.IsInt
    else if bytes_eq w (codes "IsDouble") then Some one.IsDouble
    else if bytes_eq w (codes "IsBool") then Some one.IsBool
    else if bytes_eq w (codes "IsMap") then Some one.IsMap
    else if bytes_eq w (codes "IsList") then Some one.IsList
    else if bytes_eq w (codes "Len") then Some one.Len
    else if bytes_eq w (codes "Int") then Some one.Int
    else if bytes_eq w (codes "Double") then Some one.Double
    else if bytes_eq w (codes "String") then Some one.Text
    else if bytes_eq w (codes "Duration") then Some one.Duration
    else None

-- functions of two values
unfoldable pub binary_of : List ℕ → Option Binary
binary_of w =
    if bytes_eq w (codes "HasPrefix") then Some two.HasPrefix
    else if bytes_eq w (codes "HasSuffix") then Some two.HasSuffix
    else None

-- the cases that `ConvertCase` takes
unfoldable pub case_named : List ℕ → Option Case
case_named w =
    if bytes_eq w (codes "lower") then Some cases.Lower
    else if bytes_eq w (codes "upper") then Some cases.Upper
    else None

-- paths of the span to ids, times and counts
unfoldable pub number_root_of : List ℕ → Option Root
number_root_of w =
    if bytes_eq w (codes "trace_id.string") then Some roots.TraceIdText
    else if bytes_eq w (codes "span_id.string") then Some roots.SpanIdText
    else if bytes_eq w (codes "parent_span_id.string") then Some roots.ParentSpanIdText
    else if bytes_eq w (codes "start_time_unix_nano") then Some roots.StartTime
    else if bytes_eq w (codes "end_time_unix_nano") then Some roots.EndTime
    else if bytes_eq w (codes "start_time") then Some roots.StartMoment
    else if bytes_eq w (codes "end_time") then Some roots.EndMoment
    else if bytes_eq w (codes "dropped_attributes_count") then Some roots.DroppedAttributes
    else if bytes_eq w (codes "dropped_events_count") then Some roots.DroppedEvents
    else if bytes_eq w (codes "dropped_links_count") then Some roots.DroppedLinks
    else None

-- paths of the span
unfoldable pub span_root_of : List ℕ → Option Root
span_root_of w =
    if bytes_eq w (codes "attributes") then Some roots.Attributes
    else if bytes_eq w (codes "name") then Some roots.Name
    else if bytes_eq w (codes "kind") then Some roots.Kind
    else if bytes_eq w (codes "kind.string") then Some roots.KindText
    else if bytes_eq w (codes "status.code") then Some roots.StatusCode
    else if bytes_eq w (codes "status.message") then Some roots.StatusMessage
    else if bytes_eq w (codes "trace_state") then Some roots.TraceState
    else number_root_of w

-- paths of what the span was sent under
unfoldable pub outer_root_of : List ℕ → Option Root
outer_root_of w =
    if bytes_eq w (codes "resource.attributes") then Some roots.ResourceAttributes
    else if bytes_eq w (codes "resource.dropped_attributes_count") then Some roots.ResourceDroppedAttributes
    else if bytes_eq w (codes "instrumentation_scope.name") then Some roots.ScopeName
    else if bytes_eq w (codes "instrumentation_scope.version") then Some roots.ScopeVersion
    else if bytes_eq w (codes "instrumentation_scope.attributes") then Some roots.ScopeAttributes
    else if bytes_eq w (codes "instrumentation_scope.dropped_attributes_count") then Some roots.ScopeDroppedAttributes
    else None

-- paths of an event of a span
unfoldable pub event_root_of : List ℕ → Option Root
event_root_of w =
    if bytes_eq w (codes "attributes") then Some roots.EventAttributes
    else if bytes_eq w (codes "name") then Some roots.EventName
    else if bytes_eq w (codes "time_unix_nano") then Some roots.EventTime
    else if bytes_eq w (codes "time") then Some roots.EventMoment
    else if bytes_eq w (codes "dropped_attributes_count") then Some roots.EventDroppedAttributes
    else None

-- the maps, which take keys
abbrev pub takes_keys : Root → Bool
takes_keys roots.Attributes = true
takes_keys roots.ResourceAttributes = true
takes_keys roots.ScopeAttributes = true
takes_keys roots.EventAttributes = true
takes_keys _ = false

abbrev pub operator_of_word : List ℕ → Option Binary
operator_of_word w = if bytes_eq w (codes "or") then Some two.Or else if bytes_eq w (codes "and") then Some two.And else None

-- the operator that stands between two operands
abbrev pub operator_of : Piece → Option Binary
operator_of (word w) = operator_of_word w
operator_of (operator b) = Some b
operator_of _ = None

-- how tight it binds: `or` least, then `and`, comparisons, sums, products
abbrev pub precedence : Binary → ℕ
precedence two.Or = 1
precedence two.And = 2
precedence two.Add = 4
precedence two.Subtract = 4
precedence two.Multiply = 5
precedence two.Divide = 5
precedence _ = 3

abbrev pub begins_with : (prefix : List ℕ) → List ℕ → Bool
begins_with prefix w = bytes_eq (take (length prefix) w) prefix

-- a path without its context in front, where that stands there
abbrev pub without : (prefix : List ℕ) → List ℕ → List ℕ
without prefix w = if begins_with prefix w then drop (length prefix) w else w

abbrev pub or_else : Option Root → Option Root → Option Root
or_else (Some r) other = Some r
or_else None other = other

-- a path of the span, before which `span.` has to stand
abbrev pub root_behind_span : List ℕ → Option Root
root_behind_span w = if begins_with (codes "span.") w then span_root_of (drop 5 w) else None

-- what a condition is asked of, and for an event its span
abbrev pub inner_root_of : Context → List ℕ → Option Root
inner_root_of contexts.Span w = span_root_of (without (codes "span.") w)
inner_root_of contexts.SpanEvent w = or_else (event_root_of (without (codes "spanevent.") w)) (root_behind_span w)

-- a path by its name
unfoldable pub root_of : Context → List ℕ → Option Root
root_of context w = or_else (inner_root_of context w) (outer_root_of w)
