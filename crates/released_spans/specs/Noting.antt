-- The name of the policy that decided, as an attribute of the scope that a span was sent under.
use Rattle.std.specs.Prelude.{ℕ, List, [], ◌∷◌, if◌then◌else◌, bytes_eq, Option, Some, None, option_and_then, slice_get, codes}
use Rattle.otlp_types.specs.declared.arrival.Record.{Record}
use Rattle.otlp_types.specs.declared.request.Scope.{Scope}
use Rattle.otlp_types.specs.declared.value.AnyValue.TheVariants.{Str}
use Rattle.otlp_types.specs.declared.value.KeyValue.{KeyValue}

-- the key of the attribute, as the processor has it
abbrev pub policy_key : List ℕ
policy_key = codes "tailsampling.policy"

-- the attribute with this name
abbrev pub policy_attribute : List ℕ → KeyValue
policy_attribute name = record { key = policy_key; value = Str name }

-- the attributes with it: in the place of the first of its key, or else last
abbrev pub with_policy : List ℕ → List KeyValue → List KeyValue
with_policy name [] = policy_attribute name ∷ []
with_policy name (a ∷ rest) = if bytes_eq a.key policy_key then policy_attribute name ∷ rest else a ∷ with_policy name rest

-- the scope with it
abbrev pub scope_with_policy : List ℕ → Scope → Scope
scope_with_policy name scope = record scope { attributes = with_policy name scope.attributes }

-- the record with this name in its scope, if there is one
abbrev pub noted_as : Option (List ℕ) → Record → Record
noted_as None rec = rec
noted_as (Some name) rec = record rec { scope = scope_with_policy name rec.scope }

-- the record with the name of the policy at this place, where there is such a name
abbrev pub noted : (names : List (List ℕ)) → (policy : Option ℕ) → Record → Record
noted names policy rec = noted_as (option_and_then (λ place. slice_get names place) policy) rec

-- each record with the name of its policy
abbrev pub noted_records : (names : List (List ℕ)) → (policies : List (Option ℕ)) → List Record → List Record
noted_records names [] records = records
noted_records names (policy ∷ policies) [] = []
noted_records names (policy ∷ policies) (rec ∷ records) = noted names policy rec ∷ noted_records names policies records
