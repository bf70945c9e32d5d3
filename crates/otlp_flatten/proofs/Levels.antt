-- The two levels of groups: by scope inside a resource, and by resource.
-- For the contracts of `group`, `grouping_is_unique`, `resource_group` and `scope_group`.
use Rattle.std.proofs.Common.{◌≡◌, ◌≢◌, ℕ, List, [], ◌∷◌, ◌++◌, map, refl, sym, ap, ◌∙◌}
use Rattle.std.specs.List.{AllByRecursion, flat_map}
use Rattle.otlp_types.specs.declared.span.Span.{Span}
use Rattle.otlp_types.specs.declared.request.Resource.{Resource}
use Rattle.otlp_types.specs.declared.request.Scope.{Scope}
use Rattle.otlp_types.specs.declared.request.ScopeSpans.{ScopeSpans}
use Rattle.otlp_types.specs.declared.request.ResourceSpans.{ResourceSpans}
use Rattle.otlp_types.specs.declared.arrival.Record.{Record}
use Rattle.otlp_flatten.specs.Flat.{record_with, scope_records, resource_records}
use Rattle.otlp_flatten.specs.Grouped.{HasSpan, IsResourceGroup, scope_key, resource_key}
use Rattle.otlp_flatten.specs.Runs.{resource_of, scope_of}
use Rattle.otlp_flatten.proofs.Groups.{Begins}

scope_begins_with : (r : Resource) (url : List ℕ) (s : Scope) (s_url : List ℕ) (xs : List Span) → xs ≢ []
    → Begins scope_key (scope_records r url) scope_of (record { scope = s; spans = xs; schema_url = s_url })
scope_begins_with r url s s_url [] some = absurd (some refl)
scope_begins_with r url s s_url (x ∷ xs) some = record { first = record_with r url s s_url x; rest = map (record_with r url s s_url) xs; records_are = refl; key_is = refl }

pub scope_begins : (r : Resource) (url : List ℕ) (g : ScopeSpans) → HasSpan g → Begins scope_key (scope_records r url) scope_of g
scope_begins r url g some = scope_begins_with r url g.scope g.schema_url g.spans some

resource_begins_with : (r : Resource) (url : List ℕ) (gs : List ScopeSpans) → gs ≢ [] → AllByRecursion HasSpan gs
    → Begins resource_key resource_records resource_of (record { resource = r; scope_spans = gs; schema_url = url })
resource_begins_with r url [] some full = absurd (some refl)
resource_begins_with r url (g ∷ gs) some full = begins_of g.scope g.schema_url g.spans full.0
  where
    begins_of : (s : Scope) (s_url : List ℕ) (xs : List Span) → xs ≢ []
        → Begins resource_key resource_records resource_of (record { resource = r; scope_spans = record { scope = s; spans = xs; schema_url = s_url } ∷ gs; schema_url = url })
    begins_of s s_url [] empty = absurd (empty refl)
    begins_of s s_url (x ∷ xs) empty = record { first = record_with r url s s_url x; rest = map (record_with r url s s_url) xs ++ flat_map (scope_records r url) gs; records_are = refl; key_is = refl }

pub resource_begins : (g : ResourceSpans) → IsResourceGroup g → Begins resource_key resource_records resource_of g
resource_begins g is_group = resource_begins_with g.resource g.schema_url g.scope_spans is_group.some_scope is_group.some_span

-- a record is put together from its parts
pub restored : {A : Type 0} (record_in : A → Record) (r : Resource) (url : List ℕ) (s : Scope) (s_url : List ℕ) (xs : List A)
    → AllByRecursion (λ x. scope_of (record_in x) ≡ (s, s_url)) xs → AllByRecursion (λ x. resource_of (record_in x) ≡ (r, url)) xs
    → map (record_with r url s s_url) (map (λ x. (record_in x).span) xs) ≡ map record_in xs
restored record_in r url s s_url [] a b = refl
restored record_in r url s s_url (x ∷ xs) a b = ap (λ ys. record_with r url s s_url (record_in x).span ∷ ys) (restored record_in r url s s_url xs a.1 b.1)
    ∙ ap (λ y. y ∷ map record_in xs) (whole (record_in x) a.0 b.0)
  where
    whole : (y : Record) → scope_of y ≡ (s, s_url) → resource_of y ≡ (r, url) → record_with r url s s_url y.span ≡ y
    whole y p q = sym (ap (λ k. record_with y.resource y.resource_schema_url k.0 k.1 y.span) p
        ∙ ap (λ k. record_with k.0 k.1 s s_url y.span) q)

pub scope_records-restored : {A : Type 0} (record_in : A → Record) (r : Resource) (url : List ℕ) (g : ScopeSpans) (xs : List A)
    → g.spans ≡ map (λ x. (record_in x).span) xs
    → AllByRecursion (λ x. scope_of (record_in x) ≡ scope_key g) xs → AllByRecursion (λ x. resource_of (record_in x) ≡ (r, url)) xs
    → scope_records r url g ≡ map record_in xs
scope_records-restored record_in r url g xs e a b =
    ap (λ ys. map (record_with r url g.scope g.schema_url) ys) e ∙ restored record_in r url g.scope g.schema_url xs a b
