-- A request whose groups are not empty, and as large as their neighbours allow.
use Rattle.std.specs.Prelude.{◌≡◌, ◌≢◌, ℕ, List, [], ◌∷◌, map, ⊤}
use Rattle.std.specs.List.{AllByRecursion}
use Rattle.otlp_types.specs.declared.request.Resource.{Resource}
use Rattle.otlp_types.specs.declared.request.Scope.{Scope}
use Rattle.otlp_types.specs.declared.request.ScopeSpans.{ScopeSpans}
use Rattle.otlp_types.specs.declared.request.ResourceSpans.{ResourceSpans}
use Rattle.otlp_types.specs.declared.request.Request.{Request}
use Rattle.otlp_flatten.specs.Flat.{records_of}

-- neighbours in a list are different
abbrev pub NeighboursDiffer : {A : Type 0} → List A → Type 0
NeighboursDiffer [] = ⊤
NeighboursDiffer (x ∷ []) = ⊤
NeighboursDiffer (x ∷ y ∷ xs) = (x ≢ y) × NeighboursDiffer (y ∷ xs)

-- what neighbouring scope groups differ in
abbrev pub scope_key : ScopeSpans → Scope × List ℕ
scope_key group = (group.scope, group.schema_url)

-- what neighbouring resource groups differ in
abbrev pub resource_key : ResourceSpans → Resource × List ℕ
resource_key group = (group.resource, group.schema_url)

-- a group of spans is not empty
abbrev pub HasSpan : ScopeSpans → Type 0
HasSpan group = group.spans ≢ []

-- no group of a resource is empty, and neighbours differ in scope or schema URL
pub record IsResourceGroup (group : ResourceSpans) : Type 0 where
  pub some_scope : group.scope_spans ≢ []
  pub some_span : AllByRecursion HasSpan group.scope_spans
  pub scopes_differ : NeighboursDiffer (map scope_key group.scope_spans)

-- the same of all groups, and neighbours differ in resource or schema URL
pub record IsGrouped (request : Request) : Type 0 where
  pub groups : AllByRecursion IsResourceGroup request.resource_spans
  pub resources_differ : NeighboursDiffer (map resource_key request.resource_spans)

-- two grouped requests of the same records are equal
abbrev pub GroupingIsUnique : Type 0
GroupingIsUnique = (a b : Request) → IsGrouped a → IsGrouped b → records_of a ≡ records_of b → a ≡ b
