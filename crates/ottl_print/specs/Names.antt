-- What is written for operators, functions and paths: the names that `ottl_text` reads (`Names`, `Grammar`).
use Rattle.std.specs.Prelude.{ℕ, Bool, true, false, List, ◌++◌, codes, if◌then◌else◌}
use Rattle.ottl_text.specs.declared.expression.Context.{Context}
use Rattle.ottl_text.specs.declared.expression.Context.TheVariants as contexts
use Rattle.ottl_text.specs.declared.expression.Root.{Root}
use Rattle.ottl_text.specs.declared.expression.Root.TheVariants as roots
use Rattle.ottl_text.specs.declared.expression.Unary.{Unary}
use Rattle.ottl_text.specs.declared.expression.Unary.TheVariants as one
use Rattle.ottl_text.specs.declared.expression.Case.{Case}
use Rattle.ottl_text.specs.declared.expression.Case.TheVariants as cases
use Rattle.ottl_text.specs.declared.expression.Binary.{Binary}
use Rattle.ottl_text.specs.declared.expression.Binary.TheVariants as two

abbrev pub unary_name : Unary → List ℕ
unary_name one.Not = codes "not"
unary_name one.IsString = codes "IsString"
unary_name one.IsInt = codes "IsInt"
unary_name one.IsDouble = codes "IsDouble"
unary_name one.IsBool = codes "IsBool"
unary_name one.IsMap = codes "IsMap"
unary_name one.IsList = codes "IsList"
unary_name one.Len = codes "Len"
unary_name one.Int = codes "Int"
unary_name one.Double = codes "Double"
unary_name one.Text = codes "String"
unary_name one.Duration = codes "Duration"
unary_name one.Like = codes "Concat"

-- what `ConvertCase` makes of letters
abbrev pub case_name : Case → List ℕ
case_name cases.Lower = codes "lower"
case_name cases.Upper = codes "upper"

abbrev pub binary_name : Binary → List ℕ
binary_name two.Or = codes "or"
binary_name two.And = codes "and"
binary_name two.Equal = codes "=="
binary_name two.NotEqual = codes "!="
binary_name two.Less = codes "<"
binary_name two.AtMost = codes "<="
binary_name two.Greater = codes ">"
binary_name two.AtLeast = codes ">="
binary_name two.Add = codes "+"
binary_name two.Subtract = codes "-"
binary_name two.Multiply = codes "*"
binary_name two.Divide = codes "/"
binary_name two.HasPrefix = codes "HasPrefix"
binary_name two.HasSuffix = codes "HasSuffix"

-- it stands between its operands
abbrev pub is_operator : Binary → Bool
is_operator two.HasPrefix = false
is_operator two.HasSuffix = false
is_operator _ = true

-- a path by its name, where nothing has to stand before it
abbrev pub plain_name : Root → List ℕ
plain_name roots.Name = codes "name"
plain_name roots.Kind = codes "kind"
plain_name roots.KindText = codes "kind.string"
plain_name roots.StatusCode = codes "status.code"
plain_name roots.StatusMessage = codes "status.message"
plain_name roots.TraceState = codes "trace_state"
plain_name roots.TraceIdText = codes "trace_id.string"
plain_name roots.SpanIdText = codes "span_id.string"
plain_name roots.ParentSpanIdText = codes "parent_span_id.string"
plain_name roots.StartTime = codes "start_time_unix_nano"
plain_name roots.EndTime = codes "end_time_unix_nano"
plain_name roots.Attributes = codes "attributes"
plain_name roots.DroppedAttributes = codes "dropped_attributes_count"
plain_name roots.DroppedEvents = codes "dropped_events_count"
plain_name roots.DroppedLinks = codes "dropped_links_count"
plain_name roots.ResourceAttributes = codes "resource.attributes"
plain_name roots.ResourceDroppedAttributes = codes "resource.dropped_attributes_count"
plain_name roots.ScopeName = codes "instrumentation_scope.name"
plain_name roots.ScopeVersion = codes "instrumentation_scope.version"
plain_name roots.ScopeAttributes = codes "instrumentation_scope.attributes"
plain_name roots.ScopeDroppedAttributes = codes "instrumentation_scope.dropped_attributes_count"
plain_name roots.EventName = codes "name"
plain_name roots.EventTime = codes "time_unix_nano"
plain_name roots.EventAttributes = codes "attributes"
plain_name roots.EventDroppedAttributes = codes "dropped_attributes_count"
plain_name roots.StartMoment = codes "start_time"
plain_name roots.EndMoment = codes "end_time"
plain_name roots.EventMoment = codes "time"

-- it is no part of the span itself
abbrev pub is_outside : Root → Bool
is_outside roots.ResourceAttributes = true
is_outside roots.ResourceDroppedAttributes = true
is_outside roots.ScopeName = true
is_outside roots.ScopeVersion = true
is_outside roots.ScopeAttributes = true
is_outside roots.ScopeDroppedAttributes = true
is_outside roots.EventName = true
is_outside roots.EventTime = true
is_outside roots.EventAttributes = true
is_outside roots.EventDroppedAttributes = true
is_outside roots.EventMoment = true
is_outside _ = false

-- a path by its name: in a condition on events those of the span stand behind `span.`
abbrev pub root_name : Context → Root → List ℕ
root_name contexts.Span root = plain_name root
root_name contexts.SpanEvent root = if is_outside root then plain_name root else codes "span." ++ plain_name root
