-- Records determine their groups.
-- For the contract of `grouping_is_unique`.
use Rattle.std.proofs.Common.{◌≡◌, ℕ, List, [], ◌∷◌, ◌++◌, map, refl, sym, ap, ◌∙◌}
use Rattle.std.specs.List.{AllByRecursion, flat_map}
use Rattle.otlp_types.specs.declared.span.Span.{Span}
use Rattle.otlp_types.specs.declared.request.Resource.{Resource}
use Rattle.otlp_types.specs.declared.request.Scope.{Scope}
use Rattle.otlp_types.specs.declared.request.ScopeSpans.{ScopeSpans}
use Rattle.otlp_types.specs.declared.request.ResourceSpans.{ResourceSpans}
use Rattle.otlp_types.specs.declared.arrival.Record.{Record}
use Rattle.otlp_flatten.specs.Flat.{record_with, scope_records, resource_records}
use Rattle.otlp_flatten.specs.Grouped.{HasSpan, IsResourceGroup, scope_key, resource_key, GroupingIsUnique}
use Rattle.otlp_flatten.specs.Runs.{resource_of, scope_of}
use Rattle.otlp_flatten.proofs.Groups.{Begins, AreGroups, Another}
use Rattle.otlp_flatten.proofs.Levels.{scope_begins, resource_begins}

-- two lists that end where the key changes end at the same place
cut : {K : Type 0} (key_of : Record → K) (c : K) (xs ys rs ss : List Record) → AllByRecursion (λ r. key_of r ≡ c) xs → AllByRecursion (λ r. key_of r ≡ c) ys
    → Another key_of c rs → Another key_of c ss → xs ++ rs ≡ ys ++ ss → (xs ≡ ys) × (rs ≡ ss)
cut key_of c [] [] rs ss a b n m e = (refl, e)
cut key_of c [] (y ∷ ys) rs ss a b n m e = absurd (n y (ys ++ ss) e b.0)
cut key_of c (x ∷ xs) [] rs ss a b n m e = absurd (m x (xs ++ rs) (sym e) a.0)
cut key_of c (x ∷ xs) (y ∷ ys) rs ss a b n m e =
    let tails : xs ++ rs ≡ ys ++ ss = cc in
    let heads : x ≡ y = cc in
    let more = cut key_of c xs ys rs ss a.1 b.1 n m tails in
    (ap (λ z. z ∷ xs) heads ∙ ap (λ zs. y ∷ zs) more.0, more.1)

all_mapped : {A : Type 0} {K : Type 0} (f : A → Record) (key_of : Record → K) (c : K) → ((x : A) → key_of (f x) ≡ c) → (xs : List A) → AllByRecursion (λ r. key_of r ≡ c) (map f xs)
all_mapped f key_of c h [] = tt
all_mapped f key_of c h (x ∷ xs) = (h x, all_mapped f key_of c h xs)

all_append : {A : Type 0} (P : A → Type 0) (xs ys : List A) → AllByRecursion P xs → AllByRecursion P ys → AllByRecursion P (xs ++ ys)
all_append P [] ys a b = b
all_append P (x ∷ xs) ys a b = (a.0, all_append P xs ys a.1 b)

module _ {G : Type 0} {K : Type 0} (key : G → K) (records : G → List Record) (key_of : Record → K) (IsWhole : G → Type 0)
    (begins : (g : G) → IsWhole g → Begins key records key_of g)
    (of_key : (g : G) → AllByRecursion (λ r. key_of r ≡ key g) (records g))
    (same_group : (g h : G) → IsWhole g → IsWhole h → key g ≡ key h → records g ≡ records h → g ≡ h) where
  tail_of : (g : G) (gs : List G) → AreGroups key IsWhole (g ∷ gs) → AreGroups key IsWhole gs
  tail_of g [] are = record { whole = tt; differ = tt }
  tail_of g (h ∷ gs) are = record { whole = are.whole.1; differ = are.differ.1 }

  -- the records behind the first group begin with another key
  behind : (g : G) (gs : List G) → AreGroups key IsWhole (g ∷ gs) → Another key_of (key g) (flat_map records gs)
  behind g [] are r more e = λ p. cc
  behind g (h ∷ gs) are r more e = λ p.
      let b = begins h are.whole.1.0 in
      let follows : b.first ∷ (b.rest ++ flat_map records gs) ≡ r ∷ more = sym (ap (λ rs. rs ++ flat_map records gs) b.records_are) ∙ e in
      let first : b.first ≡ r = cc in
      are.differ.0 (sym p ∙ sym (ap key_of first) ∙ b.key_is)

  pub groups_determined : (gs hs : List G) → AreGroups key IsWhole gs → AreGroups key IsWhole hs → flat_map records gs ≡ flat_map records hs → gs ≡ hs
  groups_determined [] [] a b e = refl
  groups_determined [] (h ∷ hs) a b e =
      let begin = begins h b.whole.0 in
      let no : [] ≡ begin.first ∷ (begin.rest ++ flat_map records hs) = e ∙ ap (λ rs. rs ++ flat_map records hs) begin.records_are in cc
  groups_determined (g ∷ gs) [] a b e =
      let begin = begins g a.whole.0 in
      let no : [] ≡ begin.first ∷ (begin.rest ++ flat_map records gs) = sym e ∙ ap (λ rs. rs ++ flat_map records gs) begin.records_are in cc
  groups_determined (g ∷ gs) (h ∷ hs) a b e =
      let first = begins g a.whole.0 in
      let other = begins h b.whole.0 in
      let joined : first.first ∷ (first.rest ++ flat_map records gs) ≡ other.first ∷ (other.rest ++ flat_map records hs) =
      sym (ap (λ rs. rs ++ flat_map records gs) first.records_are) ∙ e ∙ ap (λ rs. rs ++ flat_map records hs) other.records_are in
      let same_first : first.first ≡ other.first = cc in
      let same_key : key g ≡ key h = sym first.key_is ∙ ap key_of same_first ∙ other.key_is in
      let another : Another key_of (key h) (flat_map records gs) = λ r more f p. behind g gs a r more f (p ∙ sym same_key) in
      let all_of : AllByRecursion (λ r. key_of r ≡ key h) (records g) = rekeyed same_key (records g) (of_key g) in
      let parts = cut key_of (key h) (records g) (records h) (flat_map records gs) (flat_map records hs) all_of (of_key h) another (behind h hs b) e in
      ap (λ x. x ∷ gs) (same_group g h a.whole.0 b.whole.0 same_key parts.0) ∙ ap (λ xs. h ∷ xs) (groups_determined gs hs (tail_of g gs a) (tail_of h hs b) parts.1)
    where
      rekeyed : key g ≡ key h → (rs : List Record) → AllByRecursion (λ r. key_of r ≡ key g) rs → AllByRecursion (λ r. key_of r ≡ key h) rs
      rekeyed p [] a = tt
      rekeyed p (r ∷ rs) a = (a.0 ∙ p, rekeyed p rs a.1)

spans_same : (r : Resource) (url : List ℕ) (s : Scope) (s_url : List ℕ) (t : Scope) (t_url : List ℕ) (xs ys : List Span)
    → map (record_with r url s s_url) xs ≡ map (record_with r url t t_url) ys → xs ≡ ys
spans_same r url s s_url t t_url [] [] e = refl
spans_same r url s s_url t t_url [] (y ∷ ys) e = cc
spans_same r url s s_url t t_url (x ∷ xs) [] e = cc
spans_same r url s s_url t t_url (x ∷ xs) (y ∷ ys) e =
    let tails : map (record_with r url s s_url) xs ≡ map (record_with r url t t_url) ys = cc in
    let heads : record_with r url s s_url x ≡ record_with r url t t_url y = cc in
    ap (λ z. z ∷ xs) (ap (λ z. z.span) heads) ∙ ap (λ zs. y ∷ zs) (spans_same r url s s_url t t_url xs ys tails)

same_scopes : (r : Resource) (url : List ℕ) (g h : ScopeSpans) → HasSpan g → HasSpan h → scope_key g ≡ scope_key h → scope_records r url g ≡ scope_records r url h → g ≡ h
same_scopes r url g h a b k e =
    ap (λ p. record { scope = p.0; spans = g.spans; schema_url = p.1 }) k
    ∙ ap (λ xs. record { scope = h.scope; spans = xs; schema_url = h.schema_url }) (spans_same r url g.scope g.schema_url h.scope h.schema_url g.spans h.spans e)

of_scope : (r : Resource) (url : List ℕ) (g : ScopeSpans) → AllByRecursion (λ x. scope_of x ≡ scope_key g) (scope_records r url g)
of_scope r url g = all_mapped (record_with r url g.scope g.schema_url) scope_of (scope_key g) (λ x. refl) g.spans

of_resource_in : (r : Resource) (url : List ℕ) (gs : List ScopeSpans) → AllByRecursion (λ x. resource_of x ≡ (r, url)) (flat_map (scope_records r url) gs)
of_resource_in r url [] = tt
of_resource_in r url (g ∷ gs) = all_append (λ x. resource_of x ≡ (r, url)) (scope_records r url g) (flat_map (scope_records r url) gs)
    (all_mapped (record_with r url g.scope g.schema_url) resource_of (r, url) (λ x. refl) g.spans) (of_resource_in r url gs)

of_resource : (g : ResourceSpans) → AllByRecursion (λ x. resource_of x ≡ resource_key g) (resource_records g)
of_resource g = of_resource_in g.resource g.schema_url g.scope_spans

same_resources : (g h : ResourceSpans) → IsResourceGroup g → IsResourceGroup h → resource_key g ≡ resource_key h → resource_records g ≡ resource_records h → g ≡ h
same_resources g h a b k e =
    let under : flat_map (scope_records h.resource h.schema_url) g.scope_spans ≡ flat_map (scope_records h.resource h.schema_url) h.scope_spans =
    sym (ap (λ p. flat_map (scope_records p.0 p.1) g.scope_spans) k) ∙ e in
    let scopes = groups_determined scope_key (scope_records h.resource h.schema_url) scope_of HasSpan (scope_begins h.resource h.schema_url)
    (of_scope h.resource h.schema_url) (same_scopes h.resource h.schema_url) g.scope_spans h.scope_spans
    (record { whole = a.some_span; differ = a.scopes_differ }) (record { whole = b.some_span; differ = b.scopes_differ }) under in
    ap (λ p. record { resource = p.0; scope_spans = g.scope_spans; schema_url = p.1 }) k
    ∙ ap (λ xs. record { resource = h.resource; scope_spans = xs; schema_url = h.schema_url }) scopes

pub grouping-determined : GroupingIsUnique
grouping-determined a b is_a is_b e = ap (λ gs. record { resource_spans = gs })
    (groups_determined resource_key resource_records resource_of IsResourceGroup resource_begins of_resource same_resources a.resource_spans b.resource_spans
    (record { whole = is_a.groups; differ = is_a.resources_differ }) (record { whole = is_b.groups; differ = is_b.resources_differ }) e)
