-- The types of policy, and the table of the settings of each (tailsamplingprocessor README): their keys, what stands
-- there, and which of them are required.
use Rattle.std.specs.Prelude.{ℕ, pos, Bool, true, false, List, [], ◌∷◌, codes}
use Rattle.config_faults.specs.Setting.{Setting, required, optional}
use Rattle.config_faults.specs.declared.policy_types.PolicyType.{PolicyType}
use Rattle.config_faults.specs.declared.policy_types.PolicyType.TheVariants as type_is
use Rattle.config_faults.specs.declared.settings.ItemKind.TheVariants as item_is
use Rattle.config_faults.specs.declared.settings.ValueKind.{ValueKind}
use Rattle.config_faults.specs.declared.settings.ValueKind.TheVariants as value_is

-- the text that names a type of policy, and the key of its settings
abbrev pub type_name : PolicyType → List ℕ
type_name type_is.AlwaysSample = codes "always_sample"
type_name type_is.Latency = codes "latency"
type_name type_is.StatusCode = codes "status_code"
type_name type_is.StringAttribute = codes "string_attribute"
type_name type_is.NumericAttribute = codes "numeric_attribute"
type_name type_is.BooleanAttribute = codes "boolean_attribute"
type_name type_is.SpanCount = codes "span_count"
type_name type_is.RateLimiting = codes "rate_limiting"
type_name type_is.BytesLimiting = codes "bytes_limiting"
type_name type_is.Probabilistic = codes "probabilistic"
type_name type_is.TraceState = codes "trace_state"
type_name type_is.OttlCondition = codes "ottl_condition"
type_name type_is.TraceFlags = codes "trace_flags"
type_name type_is.And = codes "and"
type_name type_is.Not = codes "not"
type_name type_is.Drop = codes "drop"
type_name type_is.Composite = codes "composite"

-- a policy of this type has settings
abbrev pub has_settings : PolicyType → Bool
has_settings type_is.AlwaysSample = false
has_settings type_is.TraceFlags = false
has_settings _ = true

-- each type once
abbrev pub all_types : List PolicyType
all_types =
    type_is.AlwaysSample ∷ type_is.Latency ∷ type_is.StatusCode ∷ type_is.StringAttribute ∷ type_is.NumericAttribute ∷ type_is.BooleanAttribute ∷ type_is.SpanCount
    ∷ type_is.RateLimiting ∷ type_is.BytesLimiting ∷ type_is.Probabilistic ∷ type_is.TraceState ∷ type_is.OttlCondition ∷ type_is.TraceFlags ∷ type_is.And ∷ type_is.Not ∷ type_is.Drop ∷ type_is.Composite ∷ []

-- a whole number from 0 to 2^63-1
abbrev pub natural : ValueKind
natural = value_is.Integer (pos 0) (pos 9223372036854775807)

-- the settings of a policy of this type, but for the policies that it is made of
abbrev pub settings : PolicyType → List Setting
settings type_is.Latency = required (codes "threshold_ms") natural ∷ optional (codes "upper_threshold_ms") natural ∷ []
settings type_is.StatusCode = required (codes "status_codes") (value_is.Array item_is.StatusCode) ∷ []
settings type_is.StringAttribute = required (codes "key") value_is.Text ∷ required (codes "values") (value_is.Array item_is.Text) ∷ optional (codes "invert_match") value_is.Truth ∷ optional (codes "enabled_regex_matching") value_is.Truth ∷ optional (codes "cache_max_size") natural ∷ []
settings type_is.NumericAttribute =
    required (codes "key") value_is.Text ∷ optional (codes "min_value") value_is.Whole ∷ optional (codes "max_value") value_is.Whole ∷ optional (codes "invert_match") value_is.Truth ∷ []
settings type_is.BooleanAttribute = required (codes "key") value_is.Text ∷ required (codes "value") value_is.Truth ∷ optional (codes "invert_match") value_is.Truth ∷ []
settings type_is.SpanCount = required (codes "min_spans") natural ∷ optional (codes "max_spans") natural ∷ []
settings type_is.RateLimiting = required (codes "spans_per_second") natural ∷ []
settings type_is.BytesLimiting = required (codes "bytes_per_second") natural ∷ optional (codes "burst_capacity") natural ∷ []
settings type_is.Probabilistic = optional (codes "hash_salt") value_is.Text ∷ required (codes "sampling_percentage") value_is.Percentage ∷ []
settings type_is.TraceState = required (codes "key") value_is.Text ∷ required (codes "values") (value_is.Array item_is.Text) ∷ []
settings type_is.OttlCondition = optional (codes "error_mode") value_is.ErrorMode ∷ optional (codes "span") (value_is.Array item_is.Text) ∷ optional (codes "spanevent") (value_is.Array item_is.Text) ∷ []
settings type_is.Composite = required (codes "max_total_spans_per_second") natural ∷ optional (codes "policy_order") (value_is.Array item_is.Text) ∷ optional (codes "rate_allocation") (value_is.Array item_is.Allocation) ∷ []
settings _ = []

-- those of the share of a part of a composite
abbrev pub allocation_settings : List Setting
allocation_settings = required (codes "policy") value_is.Text ∷ required (codes "percent") (value_is.Integer (pos 1) (pos 100)) ∷ []
