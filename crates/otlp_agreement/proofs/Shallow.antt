-- The JSON of a request whose values nest so many levels deep nests eleven levels more, and four for each of those.
-- For the clauses of `encode_both` and `nests_as_deep`.
use Rattle.std.proofs.Common.{◌≡◌, ℕ, zero, suc, ◌+◌, ◌*◌, ◌≤◌, ℤ, pos, negsuc, List, [], ◌∷◌, map, codes, Bool, true, false, Option, Some, None, Ordering, Less, Equal, Greater, option_map, refl, sym, ap, subst, ◌∙◌, arith, ◌⊎◌, inl, inr, rules}
use Rattle.std.specs.Prelude.{⊤, ◌==◌, decimal, if◌then◌else◌}
use Rattle.std.specs.Ordering.{match_ordering}
use Rattle.std.specs.List.{All}
use Rattle.std.proofs.lemmas.List.Elements.{All-head, All-tail}
use Rattle.serde_json.specs.Data.{Data, number, unsigned, string, array, object, Num, Items, no_items, item, Members, no_members, member, put, depth, items_depth, members_depth}
use Rattle.serde_json.specs.Find.{of_integer}
use Rattle.serde_json.specs.View.{items_of}
use Rattle.span_ids.specs.Id.{id_text}
use Rattle.otlp_types.specs.declared.value.AnyValue.{AnyValue, out-AnyValue, Empty, Str, Bool as Truth, Int, Double, Array, KvList, Bytes, the_lemmas}
use Rattle.otlp_types.specs.declared.value.AnyValue.TheOpen.{AnyValue-F}
use Rattle.otlp_types.specs.declared.value.AnyValue.TheViews.{roll-AnyValue, roll-out-AnyValue}
use Rattle.otlp_types.specs.declared.value.AnyValue.TheVariants.{rolls-Empty, rolls-Str, rolls-Bool, rolls-Int, rolls-Double, rolls-Array, rolls-KvList, rolls-Bytes}
use Rattle.otlp_types.specs.declared.value.KeyValue.{KeyValue}
use Rattle.otlp_types.specs.declared.span.Ids.{Ids}
use Rattle.otlp_types.specs.declared.span.Event.{Event}
use Rattle.otlp_types.specs.declared.span.Link.{Link}
use Rattle.otlp_types.specs.declared.span.Span.{Span}
use Rattle.otlp_types.specs.declared.request.Resource.{Resource}
use Rattle.otlp_types.specs.declared.request.Scope.{Scope}
use Rattle.otlp_types.specs.declared.request.ScopeSpans.{ScopeSpans}
use Rattle.otlp_types.specs.declared.request.ResourceSpans.{ResourceSpans}
use Rattle.otlp_types.specs.declared.request.Request.{Request}
use Rattle.std.specs.Float.{Float, nan, inf, fin}
use Rattle.otlp_json.specs.Writing.{Table, fields, text_field, u32_field, u64_field, enum_field, message_field, items_field, list_field, double_data, value_fields, pair_fields, attributes_field, trace_field, span_field, parent_field, status_table, status_fields, event_table, event_fields, link_table, link_fields, span_table, span_fields, resource_table, resource_fields, scope_table, scope_fields, scope_spans_table, scope_spans_fields, resource_spans_table, resource_spans_fields, request_table, request_fields, data_of}
use Rattle.otlp_json.proofs.ValuesBack.{one, listed, pair_table, fields-Empty, fields-Str, fields-Truth, fields-Int, fields-Double, fields-Bytes, fields-Array, fields-KvList, fields-pair}
use Rattle.otlp_protobuf.specs.Values.{items_in, pairs_in, most_levels}
use Rattle.otlp_protobuf.specs.Nesting.{NestsAtMost, AttributeNests, AttributesNest, EventNests, LinkNests, SpanNests, ScopeSpansNest, ResourceSpansNest, RequestNests}
use Rattle.otlp_agreement.specs.Shallow.{NestsAsDeep}

-- ---- tables

abbrev field_depth : Option Data → ℕ
field_depth None = 0
field_depth (Some d) = depth d

by_order : (o : Ordering) (a b c : Members) (n : ℕ) → members_depth a ≤ n → members_depth b ≤ n → members_depth c ≤ n → members_depth (match_ordering o a b c) ≤ n
by_order Less a b c n p q r = p
by_order Equal a b c n p q r = q
by_order Greater a b c n p q r = r

put_within : (k : List ℕ) (d : Data) (ms : Members) (n : ℕ) → depth d ≤ n → members_depth ms ≤ n → members_depth (put k d ms) ≤ n
put_within k d no_members n p q = omega arith
put_within k d (member l e ms) n p q = by_order _ (member k d (member l e ms)) (member l d ms) (member l e (put k d ms)) n (omega arith) (omega arith) (omega (arith, put_within k d ms n p (omega arith)))

-- each field of a table nests within n
abbrev Within : ℕ → Table → Type 0
Within n [] = ⊤
Within n (f ∷ fs) = (field_depth f.1 ≤ n) × Within n fs

table_within : (n : ℕ) (t : Table) → Within n t → members_depth (fields t) ≤ n
table_within n [] h = omega arith
table_within n ((name, None) ∷ t) h = table_within n t h.1
table_within n ((name, Some d) ∷ t) h = put_within name d (fields t) n h.0 (table_within n t h.1)

message_within : (ms : Members) (n : ℕ) → members_depth ms ≤ n → field_depth (message_field ms) ≤ suc n
message_within no_members n h = omega arith
message_within (member k d ms) n h = omega arith

module _ {A : Type 0} (f : A → Members) (Q : A → Type 0) (n : ℕ) (each : (x : A) → Q x → suc (members_depth (f x)) ≤ n) where
  objects_within : (xs : List A) → All Q xs → items_depth (items_of (map object (map f xs))) ≤ n
  objects_within [] h = omega arith
  objects_within (x ∷ xs) h =
      let first : suc (members_depth (f x)) ≤ n = each x (All-head Q x xs h) in
      let more : items_depth (items_of (map object (map f xs))) ≤ n = objects_within xs (All-tail Q x xs h) in
      omega arith

items_within : (ds : Items) (n : ℕ) → items_depth ds ≤ n → field_depth (items_field ds) ≤ suc n
items_within no_items n h = omega arith
items_within (item d ds) n h = omega arith

list_within : {A : Type 0} (f : A → Members) (Q : A → Type 0) (n : ℕ) → ((x : A) → Q x → suc (members_depth (f x)) ≤ n) → (xs : List A) → All Q xs → field_depth (list_field (map f xs)) ≤ suc n
list_within f Q n each xs h = items_within (items_of (map object (map f xs))) n (objects_within f Q n each xs h)

-- ---- fields without anything inside

text_flat : (s : List ℕ) (n : ℕ) → field_depth (text_field s) ≤ n
text_flat [] n = omega arith
text_flat (c ∷ s) n = omega arith

unless : (b : Bool) (d : Data) (n : ℕ) → depth d ≡ 0 → field_depth (if b then None else Some d) ≤ n
unless true d n h = omega arith
unless false d n h = omega (arith, h)

u32_flat : (m n : ℕ) → field_depth (u32_field m) ≤ n
u32_flat m n = unless (m == 0) (number (unsigned m)) n refl

u64_flat : (m n : ℕ) → field_depth (u64_field m) ≤ n
u64_flat m n = unless (m == 0) (string (decimal m)) n refl

enum_flat : (z : ℤ) (n : ℕ) → field_depth (enum_field z) ≤ n
enum_flat (pos m) n = unless (m == 0) (number (of_integer (pos m))) n refl
enum_flat (negsuc m) n = omega arith

trace_flat : (o : Option Ids) (n : ℕ) → field_depth (trace_field o) ≤ n
trace_flat None n = omega arith
trace_flat (Some ids) n = omega arith

span_flat : (o : Option Ids) (n : ℕ) → field_depth (span_field o) ≤ n
span_flat None n = omega arith
span_flat (Some ids) n = omega arith

parent_text_flat : (o : Option (List ℕ)) (n : ℕ) → field_depth (option_map (λ p. string (id_text p)) o) ≤ n
parent_text_flat None n = omega arith
parent_text_flat (Some p) n = omega arith

parent_flat : (o : Option Ids) (n : ℕ) → field_depth (parent_field o) ≤ n
parent_flat None n = omega arith
parent_flat (Some ids) n = parent_text_flat ids.parent n

double_flat : (x : Float) → depth (double_data x) ≡ 0
double_flat nan = refl
double_flat (inf false) = refl
double_flat (inf true) = refl
double_flat (fin sign m e) = refl

-- ---- values

-- a value that nests within n levels
abbrev Shallow : ℕ → AnyValue → Type 0
Shallow n v = suc (members_depth (value_fields v)) ≤ 4 * n

no_levels : (v : AnyValue) → NestsAtMost 0 v → ⊥
unfolding NestsAtMost
no_levels v h = h

items_nest : (n : ℕ) (v : AnyValue) → NestsAtMost (suc n) v → All (NestsAtMost n) (items_in (out-AnyValue v))
unfolding NestsAtMost
items_nest n v h = h.0

pairs_nest : (n : ℕ) (v : AnyValue) → NestsAtMost (suc n) v → AttributesNest n (pairs_in (out-AnyValue v))
unfolding NestsAtMost
pairs_nest n v h = h.1

items_of_array : (vs : List AnyValue) → items_in (out-AnyValue (Array vs)) ≡ vs
items_of_array vs = search (rules, the_lemmas)

pairs_of_list : (ps : List KeyValue) → pairs_in (out-AnyValue (KvList ps)) ≡ ps
pairs_of_list ps = search (rules, the_lemmas)

-- the members of a value that has none inside
flat : (n : ℕ) (v : AnyValue) (ms : Members) → value_fields v ≡ ms → members_depth ms ≡ 0 → Shallow (suc n) v
flat n v ms e h = subst (λ m. suc (members_depth m) ≤ 4 * suc n) (sym e) (omega (arith, h))

module _ (n : ℕ) (below : (v : AnyValue) → NestsAtMost n v → Shallow n v) where
  pair_within : (p : KeyValue) → AttributeNests n p → suc (members_depth (pair_fields p)) ≤ suc (4 * n)
  pair_within p (inl none) =
      let held : field_depth (message_field (value_fields p.value)) ≤ 4 * n = subst (λ ms. field_depth (message_field ms) ≤ 4 * n) (sym (ap value_fields none ∙ fields-Empty)) (omega arith) in
      subst (λ ms. suc (members_depth ms) ≤ suc (4 * n)) (sym (fields-pair p)) (omega (arith, table_within (4 * n) (pair_table p) (text_flat p.key (4 * n), (held, tt))))
  pair_within p (inr h) =
      let inside : suc (members_depth (value_fields p.value)) ≤ 4 * n = below p.value h in
      let held : field_depth (message_field (value_fields p.value)) ≤ 4 * n = omega (arith, inside, message_within (value_fields p.value) (members_depth (value_fields p.value)) (omega arith)) in
      subst (λ ms. suc (members_depth ms) ≤ suc (4 * n)) (sym (fields-pair p)) (omega (arith, table_within (4 * n) (pair_table p) (text_flat p.key (4 * n), (held, tt))))

  attributes_within : (ps : List KeyValue) → AttributesNest n ps → field_depth (attributes_field ps) ≤ suc (suc (4 * n))
  attributes_within ps h = list_within pair_fields (AttributeNests n) (suc (4 * n)) pair_within ps h

  array_within : (vs : List AnyValue) → NestsAtMost (suc n) (Array vs) → Shallow (suc n) (Array vs)
  array_within vs h =
      let all : All (NestsAtMost n) vs = subst (λ xs. All (NestsAtMost n) xs) (items_of_array vs) (items_nest n (Array vs) h) in
      let listed_depth : field_depth (list_field (map value_fields vs)) ≤ suc (4 * n) = list_within value_fields (NestsAtMost n) (4 * n) below vs all in
      let inner : members_depth (fields ((codes "values", list_field (map value_fields vs)) ∷ [])) ≤ suc (4 * n) = table_within (suc (4 * n)) ((codes "values", list_field (map value_fields vs)) ∷ []) (listed_depth, tt) in
      subst (λ ms. suc (members_depth ms) ≤ 4 * suc n) (sym (fields-Array vs)) (omega (arith, inner, table_within (suc (suc (4 * n))) ((codes "arrayValue", Some (listed value_fields vs)) ∷ []) (omega (arith, inner), tt)))

  list_value_within : (ps : List KeyValue) → NestsAtMost (suc n) (KvList ps) → Shallow (suc n) (KvList ps)
  list_value_within ps h =
      let all : AttributesNest n ps = subst (λ xs. AttributesNest n xs) (pairs_of_list ps) (pairs_nest n (KvList ps) h) in
      let listed_depth : field_depth (list_field (map pair_fields ps)) ≤ suc (suc (4 * n)) = attributes_within ps all in
      let inner : members_depth (fields ((codes "values", list_field (map pair_fields ps)) ∷ [])) ≤ suc (suc (4 * n)) = table_within (suc (suc (4 * n))) ((codes "values", list_field (map pair_fields ps)) ∷ []) (listed_depth, tt) in
      subst (λ ms. suc (members_depth ms) ≤ 4 * suc n) (sym (fields-KvList ps)) (omega (arith, inner, table_within (suc (suc (suc (4 * n)))) ((codes "kvlistValue", Some (listed pair_fields ps)) ∷ []) (omega (arith, inner), tt)))

  -- by the layers of values
  layer_within : (layer : AnyValue-F AnyValue KeyValue) → NestsAtMost (suc n) (roll-AnyValue layer) → Shallow (suc n) (roll-AnyValue layer)
  layer_within AnyValue-F.Empty h = subst (Shallow (suc n)) (sym rolls-Empty) (flat n Empty _ fields-Empty refl)
  layer_within (AnyValue-F.Str s) h = subst (Shallow (suc n)) (sym (rolls-Str s)) (flat n (Str s) _ (fields-Str s) refl)
  layer_within (AnyValue-F.Bool b) h = subst (Shallow (suc n)) (sym (rolls-Bool b)) (flat n (Truth b) _ (fields-Truth b) refl)
  layer_within (AnyValue-F.Int z) h = subst (Shallow (suc n)) (sym (rolls-Int z)) (flat n (Int z) _ (fields-Int z) refl)
  layer_within (AnyValue-F.Double x) h = subst (Shallow (suc n)) (sym (rolls-Double x)) (flat n (Double x) (one (codes "doubleValue") (double_data x)) (fields-Double x) (omega (arith, double_flat x)))
  layer_within (AnyValue-F.Array vs) h =
      let P : AnyValue → Type 0 = λ v. NestsAtMost (suc n) v → Shallow (suc n) v in
      subst P (sym (rolls-Array vs)) (array_within vs) h
  layer_within (AnyValue-F.KvList ps) h =
      let P : AnyValue → Type 0 = λ v. NestsAtMost (suc n) v → Shallow (suc n) v in
      subst P (sym (rolls-KvList ps)) (list_value_within ps) h
  layer_within (AnyValue-F.Bytes s) h = subst (Shallow (suc n)) (sym (rolls-Bytes s)) (flat n (Bytes s) _ (fields-Bytes s) refl)

  value_step_within : (v : AnyValue) → NestsAtMost (suc n) v → Shallow (suc n) v
  value_step_within v h =
      let P : AnyValue → Type 0 = λ v. NestsAtMost (suc n) v → Shallow (suc n) v in
      subst P (roll-out-AnyValue v) (layer_within (out-AnyValue v)) h

value_within : (n : ℕ) (v : AnyValue) → NestsAtMost n v → Shallow n v
value_within zero v h = absurd (no_levels v h)
value_within (suc n) v h = value_step_within n (value_within n) v h

-- ---- messages

module _ (n : ℕ) where
  -- attributes, and what they are counted by, in a table whose other fields nest no deeper
  attributed : (ps : List KeyValue) → AttributesNest n ps → field_depth (attributes_field ps) ≤ suc (suc (4 * n))
  attributed ps h = attributes_within n (value_within n) ps h

  event_within : (e : Event) → EventNests n e → suc (members_depth (event_fields e)) ≤ suc (suc (suc (4 * n)))
  event_within e h =
      let k = suc (suc (4 * n)) in
      omega (arith, table_within k (event_table e) (attributed e.attributes h, (u32_flat e.dropped_attributes_count k, (text_flat e.name k, (u64_flat e.time_unix_nano k, tt)))))

  link_within : (l : Link) → LinkNests n l → suc (members_depth (link_fields l)) ≤ suc (suc (suc (4 * n)))
  link_within l h =
      let k = suc (suc (4 * n)) in
      omega (arith, table_within k (link_table l) (attributed l.attributes h, (u32_flat l.dropped_attributes_count k, (u32_flat l.flags k, (text_flat l.span_id k, (text_flat l.trace_id k, (text_flat l.trace_state k, tt)))))))

  status_within : (s : Span) (k : ℕ) → field_depth (message_field (status_fields s.status)) ≤ suc k
  status_within s k = message_within (status_fields s.status) k (omega (arith, table_within 0 (status_table s.status) (enum_flat s.status.code 0, (text_flat s.status.message 0, tt))))

  span_within : (s : Span) → SpanNests n s → suc (members_depth (span_fields s)) ≤ 4 * n + 5
  span_within s h =
      let k = 4 * n + 4 in
      let e : field_depth (list_field (map event_fields s.events)) ≤ k = omega (arith, list_within event_fields (EventNests n) (suc (suc (suc (4 * n)))) event_within s.events h.events) in
      let l : field_depth (list_field (map link_fields s.links)) ≤ k = omega (arith, list_within link_fields (LinkNests n) (suc (suc (suc (4 * n)))) link_within s.links h.links) in
      let a : field_depth (attributes_field s.attributes) ≤ k = omega (arith, attributed s.attributes h.attributes) in
      let t : field_depth (message_field (status_fields s.status)) ≤ k = omega (arith, status_within s 0) in
      omega (
        arith,
        table_within k (span_table s) (a, (u32_flat s.dropped_attributes_count k, (u32_flat s.dropped_events_count k, (u32_flat s.dropped_links_count k, (u64_flat s.end_time_unix_nano k, (e, (u32_flat s.flags k, (enum_flat s.kind k, (l, (text_flat s.name k, (parent_flat s.ids k, (span_flat s.ids k, (u64_flat s.start_time_unix_nano k, (t, (trace_flat s.ids k, (text_flat s.trace_state k, tt)))))))))))))))),
      )

  scope_within : (s : Scope) → AttributesNest n s.attributes → field_depth (message_field (scope_fields s)) ≤ 4 * n + 6
  scope_within s h =
      let k = suc (suc (4 * n)) in
      omega (arith, message_within (scope_fields s) k (table_within k (scope_table s) (attributed s.attributes h, (u32_flat s.dropped_attributes_count k, (text_flat s.name k, (text_flat s.version k, tt))))))

  scope_spans_within : (g : ScopeSpans) → ScopeSpansNest n g → suc (members_depth (scope_spans_fields g)) ≤ 4 * n + 7
  scope_spans_within g h =
      let k = 4 * n + 6 in
      let spans : field_depth (list_field (map span_fields g.spans)) ≤ k = omega (arith, list_within span_fields (SpanNests n) (4 * n + 5) span_within g.spans h.spans) in
      omega (arith, table_within k (scope_spans_table g) (text_flat g.schema_url k, (scope_within g.scope h.attributes, (spans, tt))))

  resource_within : (r : Resource) → AttributesNest n r.attributes → field_depth (message_field (resource_fields r)) ≤ 4 * n + 8
  resource_within r h =
      let k = suc (suc (4 * n)) in
      omega (arith, message_within (resource_fields r) k (table_within k (resource_table r) (attributed r.attributes h, (u32_flat r.dropped_attributes_count k, tt))))

  resource_spans_within : (g : ResourceSpans) → ResourceSpansNest n g → suc (members_depth (resource_spans_fields g)) ≤ 4 * n + 9
  resource_spans_within g h =
      let k = 4 * n + 8 in
      let scopes : field_depth (list_field (map scope_spans_fields g.scope_spans)) ≤ k = omega (arith, list_within scope_spans_fields (ScopeSpansNest n) (4 * n + 7) scope_spans_within g.scope_spans h.scope_spans) in
      omega (arith, table_within k (resource_spans_table g) (resource_within g.resource h.attributes, (text_flat g.schema_url k, (scopes, tt))))

  pub request_within : (r : Request) → RequestNests n r → depth (data_of r) ≤ 4 * n + 11
  request_within r h =
      let k = 4 * n + 10 in
      let groups : field_depth (list_field (map resource_spans_fields r.resource_spans)) ≤ k = omega (arith, list_within resource_spans_fields (ResourceSpansNest n) (4 * n + 9) resource_spans_within r.resource_spans h) in
      omega (arith, table_within k (request_table r) (groups, tt))

pub nests_as_deep_lem : NestsAsDeep
nests_as_deep_lem r h = omega (arith, request_within most_levels r h)
