-- The spans at the front of a list that belong together.
use Rattle.std.specs.Prelude.{◌≡◌, ◌≢◌, ℕ, ◌<◌, ◌≤◌, List, length, slice_get, option_map}
use Rattle.otlp_types.specs.declared.request.Resource.{Resource}
use Rattle.otlp_types.specs.declared.request.Scope.{Scope}
use Rattle.otlp_types.specs.declared.arrival.Record.{Record}

-- a record's resource, and the schema URL of the resource
abbrev pub resource_of : Record → Resource × List ℕ
resource_of r = (r.resource, r.resource_schema_url)

-- a record's scope, and the schema URL of the scope
abbrev pub scope_of : Record → Scope × List ℕ
scope_of r = (r.scope, r.scope_schema_url)

-- the first n have one key, and the next has another
pub record IsKeyRun {A : Type 0} {K : Type 0} (key : A → K) (xs : List A) (n : ℕ) : Type 0 where
  pub some : 0 < n
  pub within : n ≤ length xs
  pub same : (k : ℕ) → k < n → option_map key (slice_get xs k) ≡ option_map key (slice_get xs 0)
  pub other : n < length xs → option_map key (slice_get xs n) ≢ option_map key (slice_get xs 0)
