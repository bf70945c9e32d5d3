-- A request that is read where doubles are kept is read where they are discarded, but for its doubles.
-- For the contract of `doubles_are_left_out`, and the clause `back_discarding` of `encode`.
use Rattle.std.proofs.Common.{◌≡◌, ℕ, zero, suc, ◌+◌, ◌-◌, ◌^◌, List, [], ◌∷◌, map, codes, Bool, true, false, not, Option, Some, None, option_map, ℤ, ◌||◌, refl, sym, ap, ◌∙◌, arith, rules}
use Rattle.std.specs.Prelude.{min, ◌==◌, cond, count_by}
use Rattle.std.specs.List.{filter, list_any, AllByRecursion}
use Rattle.std.specs.Option.{is_none}
use Rattle.std.proofs.lemmas.List.Sums.{sum_by-cons}
use Rattle.std.specs.Float.{Float}
use Rattle.serde_json.specs.Data.{Data, Items, no_items, item, Members, no_members}
use Rattle.otlp_types.specs.declared.value.AnyValue.{AnyValue, Empty, Str, Bool as Truth, Int, Double, Array, KvList, Bytes, the_lemmas}
use Rattle.otlp_types.specs.declared.value.KeyValue.{KeyValue}
use Rattle.otlp_types.specs.declared.span.Event.{Event}
use Rattle.otlp_types.specs.declared.span.Link.{Link}
use Rattle.otlp_types.specs.declared.span.Span.{Span}
use Rattle.otlp_types.specs.declared.request.Resource.{Resource}
use Rattle.otlp_types.specs.declared.request.Scope.{Scope}
use Rattle.otlp_types.specs.declared.request.ScopeSpans.{ScopeSpans}
use Rattle.otlp_types.specs.declared.request.ResourceSpans.{ResourceSpans}
use Rattle.otlp_types.specs.declared.request.Request.{Request}
use Rattle.otlp_reading.specs.declared.value.ValueKey.{ValueKey}
use Rattle.otlp_reading.specs.declared.value.ValueKey.TheVariants as key
use Rattle.otlp_reading.specs.Kinds.{◌>>=◌, field, text, u32, u64, enum, read_or, items, each, list_of, message, inner, i64_value}
use Rattle.serde_json.specs.Find.{as_str, as_bool, as_object}
use Rattle.otlp_reading.specs.Reading.{OrDiscarded, kept, discarded, all_kept, double_of, kept_double, key_value, values, pairs, value_members, at_most_one, value_by, value_of_member, value_in, value_to, any_value, attributes, ids, status, event, link, span, resource, scope, grouped, scope_spans, resource_spans, request}
use Rattle.otlp_types.specs.HoldsDouble.{holds_double, is_of_double}
use Rattle.otlp_types.proofs.HoldsDouble.{holds-Empty, holds-Str, holds-Truth, holds-Int, holds-Double, holds-Bytes, holds-pair, holds-Array, holds-KvList}
use Rattle.otlp_json.specs.Discarding.{left, dropped_of, event_left, link_left, span_left, resource_left, scope_left, scope_spans_left, resource_spans_left, without_doubles, DoublesAreLeftOut, NoneOf, NoneOfSpan, NoneOfScope, NoneOfResource, HasNoDoubles}

-- where the first reads x, the second reads f of it
pub record Follows {A B : Type 0} (f : A → B) (a : Option A) (b : Option B) : Type 0 where
  pub reads : (x : A) → a ≡ Some x → b ≡ Some (f x)

none_follows : {A B : Type 0} (f : A → B) (b : Option B) → Follows f None b
none_follows f b = record { reads = λ x e. absurd (cc e) }

some_follows : {A B : Type 0} (f : A → B) (x : A) (y : B) → y ≡ f x → Follows f (Some x) (Some y)
some_follows f x y is = record { reads = λ z e. let same : x ≡ z = cc e in ap Some (is ∙ ap f same) }

then : {A A' B B' : Type 0} (f : A → A') (g : B → B') (a : Option A) (a' : Option A') (k : A → Option B) (k' : A' → Option B') → Follows f a a' → ((x : A) → Follows g (k x) (k' (f x))) → Follows g (a >>= k) (a' >>= k')
then f g None a' k k' h more = none_follows g (a' >>= k')
then f g (Some x) a' k k' h more = rw (h.reads x refl) (more x)

also : {A B B' : Type 0} (g : B → B') (a : Option A) (k : A → Option B) (k' : A → Option B') → ((x : A) → Follows g (k x) (k' x)) → Follows g (a >>= k) (a >>= k')
also g None k k' more = none_follows g None
also g (Some x) k k' more = more x

mapped : {A A' B B' : Type 0} (f : A → A') (g : B → B') (h : A → B) (h' : A' → B') (a : Option A) (a' : Option A') → Follows f a a' → ((x : A) → h' (f x) ≡ g (h x)) → Follows g (option_map h a) (option_map h' a')
mapped f g h h' None a' follows same = none_follows g (option_map h' a')
mapped f g h h' (Some x) a' follows same = rw (follows.reads x refl) (some_follows g (h x) (h' (f x)) (same x))

-- ---- lists and messages

each_follows : {A B : Type 0} (f : A → B) (r : Data → Option A) (s : Data → Option B) → ((d : Data) → Follows f (r d) (s d)) → (ds : Items) → Follows (map f) (each r ds) (each s ds)
each_follows f r s all no_items = some_follows (map f) [] [] refl
each_follows f r s all (item d ds) =
    then f (map f) (r d) (s d) _ _ (all d) (λ x. then (map f) (map f) (each r ds) (each s ds) _ _ (each_follows f r s all ds) (λ xs. some_follows (map f) (x ∷ xs) (f x ∷ map f xs) refl))

list_follows : {A B : Type 0} (f : A → B) (r : Data → Option A) (s : Data → Option B) → ((d : Data) → Follows f (r d) (s d)) → (o : Option Data) → Follows (map f) (list_of r o) (list_of s o)
list_follows f r s all o = also (map f) (items o) (each r) (each s) (each_follows f r s all)

message_follows : {A B : Type 0} (f : A → B) (r : Members → Option A) (s : Members → Option B) → ((ms : Members) → Follows f (r ms) (s ms)) → (d : Data) → Follows f (message r d) (message s d)
message_follows f r s all d = also f (as_object d) r s all

messages_follow : {A B : Type 0} (f : A → B) (r : Members → Option A) (s : Members → Option B) → ((ms : Members) → Follows f (r ms) (s ms)) → (o : Option Data) → Follows (map f) (list_of (message r) o) (list_of (message s) o)
messages_follow f r s all o = list_follows f (message r) (message s) (message_follows f r s all) o

-- ---- values

-- what holds is discarded
abbrev less : {A : Type 0} → (A → Bool) → OrDiscarded A → OrDiscarded A
less holds None = None
less holds (Some x) = cond (holds x) None (Some x)

less_none : {A : Type 0} (holds : A → Bool) (x : A) → holds x ≡ false → less holds (Some x) ≡ Some x
less_none holds x e = rw e

kept_one : {A : Type 0} (holds : A → Bool) (x : A) (xs : List (OrDiscarded A)) → kept (map (less holds) xs) ≡ filter (λ y. not (holds y)) (kept xs)
    → kept (map (less holds) (Some x ∷ xs)) ≡ filter (λ y. not (holds y)) (kept (Some x ∷ xs))
kept_one holds x xs more = by (holds x) refl
  where
    by : (b : Bool) → holds x ≡ b → kept (map (less holds) (Some x ∷ xs)) ≡ filter (λ y. not (holds y)) (kept (Some x ∷ xs))
    by true is = rw is more
    by false is = rw is (ap (λ ys. x ∷ ys) more)

kept_less : {A : Type 0} (holds : A → Bool) (xs : List (OrDiscarded A)) → kept (map (less holds) xs) ≡ filter (λ x. not (holds x)) (kept xs)
kept_less holds [] = refl
kept_less holds (None ∷ xs) = kept_less holds xs
kept_less holds (Some x ∷ xs) = kept_one holds x xs (kept_less holds xs)

counted : {A : Type 0} (p : A → Bool) (x : A) (xs : List A) → count_by p (x ∷ xs) ≡ cond (p x) 1 0 + count_by p xs
counted p x xs = sum_by-cons (λ y. cond (p y) 1 0) x xs

discarded_one : {A : Type 0} (holds : A → Bool) (x : A) (xs : List (OrDiscarded A)) → discarded (map (less holds) xs) ≡ discarded xs + count_by holds (kept xs)
    → discarded (map (less holds) (Some x ∷ xs)) ≡ discarded (Some x ∷ xs) + count_by holds (kept (Some x ∷ xs))
discarded_one {A} holds x xs more =
    let a : discarded (map (less holds) (Some x ∷ xs)) ≡ cond (is_none (less holds (Some x))) 1 0 + discarded (map (less holds) xs) = counted is_none (less holds (Some x)) (map (less holds) xs) in
    let b : discarded (Some x ∷ xs) ≡ 0 + discarded xs = counted is_none (Some x) xs in
    let c : count_by holds (kept (Some x ∷ xs)) ≡ cond (holds x) 1 0 + count_by holds (kept xs) = counted holds x (kept xs) in
    let d : cond {A = ℕ} (is_none (less holds (Some x))) 1 0 ≡ cond {A = ℕ} (holds x) 1 0 = by (holds x) in
    omega arith
  where
    by : (b : Bool) → cond {A = ℕ} (is_none {T = A} (cond b None (Some x))) 1 0 ≡ cond {A = ℕ} b 1 0
    by true = refl
    by false = refl

discarded_less : {A : Type 0} (holds : A → Bool) (xs : List (OrDiscarded A)) → discarded (map (less holds) xs) ≡ discarded xs + count_by holds (kept xs)
discarded_less holds [] = refl
discarded_less holds (None ∷ xs) =
    let more = discarded_less holds xs in
    let a : discarded (map (less holds) (None ∷ xs)) ≡ 1 + discarded (map (less holds) xs) = counted is_none None (map (less holds) xs) in
    let b : discarded (None ∷ xs) ≡ 1 + discarded xs = counted is_none None xs in
    let c : count_by holds (kept (None ∷ xs)) ≡ count_by holds (kept xs) = refl in
    omega arith
discarded_less holds (Some x ∷ xs) = discarded_one holds x xs (discarded_less holds xs)

-- none holds where none is counted, and then all are left
none_counted : {A : Type 0} (holds : A → Bool) (xs : List A) → (count_by holds xs == 0) ≡ not (list_any holds xs)
none_counted holds [] = refl
none_counted holds (x ∷ xs) = ap (λ k. k == 0) (counted holds x xs) ∙ one (holds x) (none_counted holds xs)
  where
    one : (b : Bool) → (count_by holds xs == 0) ≡ not (list_any holds xs) → (cond b 1 0 + count_by holds xs == 0) ≡ not (b || list_any holds xs)
    one true more = grind arith
    one false more = let same : 0 + count_by holds xs ≡ count_by holds xs = omega arith in ap (λ k. k == 0) same ∙ more

left_one : {A : Type 0} (holds : A → Bool) (x : A) (xs : List A) → (count_by holds xs ≡ 0 → filter (λ y. not (holds y)) xs ≡ xs) → count_by holds (x ∷ xs) ≡ 0 → filter (λ y. not (holds y)) (x ∷ xs) ≡ x ∷ xs
left_one holds x xs more none = by (holds x) refl (sym (counted holds x xs) ∙ none)
  where
    by : (b : Bool) → holds x ≡ b → cond b 1 0 + count_by holds xs ≡ 0 → filter (λ y. not (holds y)) (x ∷ xs) ≡ x ∷ xs
    by true is sum = absurd (omega arith)
    by false is sum = rw is (ap (λ ys. x ∷ ys) (more (omega arith)))

all_left : {A : Type 0} (holds : A → Bool) (xs : List A) → count_by holds xs ≡ 0 → filter (λ x. not (holds x)) xs ≡ xs
all_left holds [] none = refl
all_left holds (x ∷ xs) none = left_one holds x xs (all_left holds xs) none

discards_same : {A : Type 0} (holds : A → Bool) (n : ℕ) (xs : List A) (b : Bool) → (count_by holds xs == 0) ≡ b → cond ((n + count_by holds xs) == 0) (Some (filter (λ x. not (holds x)) xs)) None ≡ cond (n == 0) (cond (list_any holds xs) None (Some xs)) None
discards_same holds n xs true none =
    let zero_counted : count_by holds xs ≡ 0 = grind (arith, none) in
    let any : list_any holds xs ≡ false = grind (arith, none_counted holds xs, none) in
    rw (zero_counted, any, all_left holds xs zero_counted) (ap (λ k. cond (k == 0) (Some xs) None) (omega arith))
discards_same holds n xs false some =
    let yes : list_any holds xs ≡ true = grind (arith, none_counted holds xs, some) in
    let more : ((n + count_by holds xs) == 0) ≡ false = grind (arith, some) in
    rw (yes, more) (grind arith)

all_kept_less : {A : Type 0} (holds : A → Bool) (xs : List (OrDiscarded A)) → all_kept (map (less holds) xs) ≡ less (list_any holds) (all_kept xs)
all_kept_less holds xs =
    rw (discarded_less holds xs, kept_less holds xs, discards_same holds (discarded xs) (kept xs) (count_by holds (kept xs) == 0) refl) (by (discarded xs == 0))
  where
    by : (b : Bool) → cond b (cond (list_any holds (kept xs)) None (Some (kept xs))) None ≡ less (list_any holds) (cond b (Some (kept xs)) None)
    by true = refl
    by false = refl

-- a reading of values that holds no double follows itself
plain : {B : Type 0} (make : B → AnyValue) → ((x : B) → holds_double (make x) ≡ false) → (o : Option B) → Follows (less holds_double) (option_map (λ x. Some (make x)) o) (option_map (λ x. Some (make x)) o)
plain make none None = none_follows (less holds_double) None
plain make none (Some x) = some_follows (less holds_double) (Some (make x)) (Some (make x)) (sym (less_none holds_double (make x) (none x)))

kept_double_less : (x : Float) → None ≡ less holds_double (kept_double x)
kept_double_less x = rw (holds-Double x) refl

double_follows : (o : Option Float) → Follows (less holds_double) (option_map kept_double o) (Some None)
double_follows None = none_follows (less holds_double) (Some None)
double_follows (Some x) = some_follows (less holds_double) (kept_double x) None (kept_double_less x)

-- a list of values, or of pairs, under a constructor
listed_less : {A : Type 0} (make : List A → AnyValue) (holds : A → Bool) → ((xs : List A) → holds_double (make xs) ≡ list_any holds xs) → (o : OrDiscarded (List A)) → option_map make (less (list_any holds) o) ≡ less holds_double (option_map make o)
listed_less make holds is None = refl
listed_less make holds is (Some xs) = rw (is xs) (by (list_any holds xs))
  where
    by : (b : Bool) → option_map make (cond b None (Some xs)) ≡ cond b None (Some (make xs))
    by true = refl
    by false = refl

abbrev paired : List ℕ → AnyValue → KeyValue
paired name x = record { key = name; value = x }

pair_less : (name : List ℕ) (o : OrDiscarded AnyValue) → option_map (paired name) (less holds_double o) ≡ less is_of_double (option_map (paired name) o)
pair_less name None = refl
pair_less name (Some v) = rw (holds-pair (paired name v)) (by (holds_double v))
  where
    by : (b : Bool) → option_map (paired name) (cond b None (Some v)) ≡ cond b None (Some (paired name v))
    by true = refl
    by false = refl

module _ (r s : Data → Option (OrDiscarded AnyValue)) (all : (d : Data) → Follows (less holds_double) (r d) (s d)) where
  held_follows : (o : Option Data) → Follows (less holds_double) (read_or (Some Empty) r o) (read_or (Some Empty) s o)
  held_follows None = some_follows (less holds_double) (Some Empty) (Some Empty) (sym (less_none holds_double Empty holds-Empty))
  held_follows (Some d) = all d

  pub pair_follows : (ms : Members) → Follows (less is_of_double) (key_value r ms) (key_value s ms)
  pair_follows ms = also (less is_of_double) (text (field (codes "key") ms)) _ _ (λ name.
      then (less holds_double) (less is_of_double) (read_or (Some Empty) r (field (codes "value") ms)) (read_or (Some Empty) s (field (codes "value") ms)) _ _ (held_follows (field (codes "value") ms))
      (λ v. some_follows (less is_of_double) (option_map (paired name) v) (option_map (paired name) (less holds_double v)) (pair_less name v)))

  values_follow : (ms : Members) → Follows (less (list_any holds_double)) (values r ms) (values s ms)
  values_follow ms = mapped (map (less holds_double)) (less (list_any holds_double)) all_kept all_kept (list_of r (field (codes "values") ms)) (list_of s (field (codes "values") ms))
      (list_follows (less holds_double) r s all (field (codes "values") ms)) (all_kept_less holds_double)

  pairs_follow : (ms : Members) → Follows (less (list_any is_of_double)) (pairs r ms) (pairs s ms)
  pairs_follow ms = mapped (map (less is_of_double)) (less (list_any is_of_double)) all_kept all_kept (list_of (message (key_value r)) (field (codes "values") ms)) (list_of (message (key_value s)) (field (codes "values") ms))
      (messages_follow (less is_of_double) (key_value r) (key_value s) pair_follows (field (codes "values") ms)) (all_kept_less is_of_double)

  by_key : (k : ValueKey) (d : Data) → Follows (less holds_double) (value_by r true k d) (value_by s false k d)
  by_key key.Str d = plain Str holds-Str (as_str d)
  by_key key.Bool d = plain Truth holds-Truth (as_bool d)
  by_key key.Int d = plain Int holds-Int (i64_value d)
  by_key key.Double d = double_follows (double_of d)
  by_key key.Array d = mapped (less (list_any holds_double)) (less holds_double) (option_map Array) (option_map Array) (message (values r) d) (message (values s) d)
      (message_follows (less (list_any holds_double)) (values r) (values s) values_follow d) (listed_less Array holds_double holds-Array)
  by_key key.KvList d = mapped (less (list_any is_of_double)) (less holds_double) (option_map KvList) (option_map KvList) (message (pairs r) d) (message (pairs s) d)
      (message_follows (less (list_any is_of_double)) (pairs r) (pairs s) pairs_follow d) (listed_less KvList is_of_double holds-KvList)
  by_key key.Bytes d = plain Bytes holds-Bytes (as_str d)

  member_follows : (o : Option (ValueKey × Data)) → Follows (less holds_double) (value_of_member r true o) (value_of_member s false o)
  member_follows None = some_follows (less holds_double) (Some Empty) (Some Empty) (sym (less_none holds_double Empty holds-Empty))
  member_follows (Some h) = by_key h.0 h.1

  value_follows : (ms : Members) → Follows (less holds_double) (value_in r true ms) (value_in s false ms)
  value_follows ms = also (less holds_double) (at_most_one (value_members ms)) (value_of_member r true) (value_of_member s false) member_follows

levels_follow : (n : ℕ) (d : Data) → Follows (less holds_double) (value_to true n d) (value_to false n d)
unfolding value_to
levels_follow zero d = none_follows (less holds_double) None
levels_follow (suc n) d = message_follows (less holds_double) (value_in (value_to true n) true) (value_in (value_to false n) false) (value_follows (value_to true n) (value_to false n) (levels_follow n)) d

-- ---- attributes

counted_once : (n k j : ℕ) (b : Bool) → (j == 0) ≡ b → min (n + (k + j)) (2 ^ 32 - 1) ≡ cond b (min (n + k) (2 ^ 32 - 1)) (min (min (n + k) (2 ^ 32 - 1) + j) (2 ^ 32 - 1))
counted_once n k j true none = let zero_more : j ≡ 0 = grind (arith, none) in omega arith
counted_once n k j false some = omega arith

abbrev attributes_left : List KeyValue × ℕ → List KeyValue × ℕ
attributes_left a = (left a.0, dropped_of a.0 a.1)

attributes_less : (all : List (OrDiscarded KeyValue)) (n : ℕ)
    → (kept (map (less is_of_double) all), min (n + discarded (map (less is_of_double) all)) (2 ^ 32 - 1)) ≡ attributes_left (kept all, min (n + discarded all) (2 ^ 32 - 1))
attributes_less all n =
    rw (kept_less is_of_double all, discarded_less is_of_double all, counted_once n (discarded all) (count_by is_of_double (kept all)) (count_by is_of_double (kept all) == 0) refl) refl

attributes_follow : (ms : Members) → Follows attributes_left (attributes true ms) (attributes false ms)
attributes_follow ms = then (map (less is_of_double)) attributes_left (list_of (message (key_value (any_value true))) (field (codes "attributes") ms)) (list_of (message (key_value (any_value false))) (field (codes "attributes") ms)) _ _
    (messages_follow (less is_of_double) (key_value (any_value true)) (key_value (any_value false)) (pair_follows (any_value true) (any_value false) (levels_follow 127)) (field (codes "attributes") ms))
    (λ all. also attributes_left (u32 (field (codes "droppedAttributesCount") ms)) _ _ (λ n. some_follows attributes_left _ _ (attributes_less all n)))

-- ---- messages

event_follows : (ms : Members) → Follows event_left (event true ms) (event false ms)
event_follows ms = also event_left (u64 (field (codes "timeUnixNano") ms)) _ _ (λ time. also event_left (text (field (codes "name") ms)) _ _ (λ name.
    then attributes_left event_left (attributes true ms) (attributes false ms) _ _ (attributes_follow ms) (λ a. some_follows event_left _ _ refl)))

link_follows : (ms : Members) → Follows link_left (link true ms) (link false ms)
link_follows ms = also link_left (text (field (codes "traceId") ms)) _ _ (λ trace_id. also link_left (text (field (codes "spanId") ms)) _ _ (λ span_id. also link_left (text (field (codes "traceState") ms)) _ _ (λ state.
    then attributes_left link_left (attributes true ms) (attributes false ms) _ _ (attributes_follow ms) (λ a. also link_left (u32 (field (codes "flags") ms)) _ _ (λ flags. some_follows link_left _ _ refl)))))

span_follows : (ms : Members) → Follows span_left (span true ms) (span false ms)
span_follows ms =
    also span_left (ids ms) _ _ (λ ids. also span_left (text (field (codes "traceState") ms)) _ _ (λ state. also span_left (u32 (field (codes "flags") ms)) _ _ (λ flags.
    also span_left (text (field (codes "name") ms)) _ _ (λ name. also span_left (enum (field (codes "kind") ms)) _ _ (λ kind.
    also span_left (u64 (field (codes "startTimeUnixNano") ms)) _ _ (λ start. also span_left (u64 (field (codes "endTimeUnixNano") ms)) _ _ (λ end.
    then attributes_left span_left (attributes true ms) (attributes false ms) _ _ (attributes_follow ms) (λ a.
    then (map event_left) span_left (list_of (message (event true)) (field (codes "events") ms)) (list_of (message (event false)) (field (codes "events") ms)) _ _ (messages_follow event_left (event true) (event false) event_follows (field (codes "events") ms)) (λ events.
    also span_left (u32 (field (codes "droppedEventsCount") ms)) _ _ (λ dropped_events.
    then (map link_left) span_left (list_of (message (link true)) (field (codes "links") ms)) (list_of (message (link false)) (field (codes "links") ms)) _ _ (messages_follow link_left (link true) (link false) link_follows (field (codes "links") ms)) (λ links.
    also span_left (u32 (field (codes "droppedLinksCount") ms)) _ _ (λ dropped_links. also span_left (inner status (field (codes "status") ms)) _ _ (λ status. some_follows span_left _ _ refl)))))))))))))

resource_follows : (ms : Members) → Follows resource_left (resource true ms) (resource false ms)
resource_follows ms = mapped attributes_left resource_left _ _ (attributes true ms) (attributes false ms) (attributes_follow ms) (λ a. refl)

scope_follows : (ms : Members) → Follows scope_left (scope true ms) (scope false ms)
scope_follows ms = also scope_left (text (field (codes "name") ms)) _ _ (λ name. also scope_left (text (field (codes "version") ms)) _ _ (λ version.
    then attributes_left scope_left (attributes true ms) (attributes false ms) _ _ (attributes_follow ms) (λ a. some_follows scope_left _ _ refl)))

-- what a group shares, and its messages
abbrev group_left : {A B : Type 0} → (A → A) → (B → B) → A × List B × List ℕ → A × List B × List ℕ
group_left f g x = (f x.0, map g x.1, x.2)

grouped_follows : {A B : Type 0} (f : A → A) (g : B → B) (a a' : Members → Option A) (b b' : Members → Option B) (shared list : List ℕ)
    → ((ms : Members) → Follows f (a ms) (a' ms)) → ((ms : Members) → Follows g (b ms) (b' ms)) → (ms : Members) → Follows (group_left f g) (grouped a b shared list ms) (grouped a' b' shared list ms)
grouped_follows f g a a' b b' shared list of_shared of_list ms =
    then f (group_left f g) (inner a (field shared ms)) (inner a' (field shared ms)) _ _ (also f (read_or no_members as_object (field shared ms)) a a' of_shared) (λ s.
    then (map g) (group_left f g) (list_of (message b) (field list ms)) (list_of (message b') (field list ms)) _ _ (messages_follow g b b' of_list (field list ms)) (λ all.
    also (group_left f g) (text (field (codes "schemaUrl") ms)) _ _ (λ url. some_follows (group_left f g) _ _ refl)))

scope_spans_follow : (ms : Members) → Follows scope_spans_left (scope_spans true ms) (scope_spans false ms)
scope_spans_follow ms = mapped (group_left scope_left span_left) scope_spans_left _ _ (grouped (scope true) (span true) (codes "scope") (codes "spans") ms) (grouped (scope false) (span false) (codes "scope") (codes "spans") ms)
    (grouped_follows scope_left span_left (scope true) (scope false) (span true) (span false) (codes "scope") (codes "spans") scope_follows span_follows ms) (λ x. refl)

resource_spans_follow : (ms : Members) → Follows resource_spans_left (resource_spans true ms) (resource_spans false ms)
resource_spans_follow ms = mapped (group_left resource_left scope_spans_left) resource_spans_left _ _ (grouped (resource true) (scope_spans true) (codes "resource") (codes "scopeSpans") ms) (grouped (resource false) (scope_spans false) (codes "resource") (codes "scopeSpans") ms)
    (grouped_follows resource_left scope_spans_left (resource true) (resource false) (scope_spans true) (scope_spans false) (codes "resource") (codes "scopeSpans") resource_follows scope_spans_follow ms) (λ x. refl)

request_follows : (ms : Members) → Follows without_doubles (request true ms) (request false ms)
request_follows ms = mapped (map resource_spans_left) without_doubles _ _ (list_of (message (resource_spans true)) (field (codes "resourceSpans") ms)) (list_of (message (resource_spans false)) (field (codes "resourceSpans") ms))
    (messages_follow resource_spans_left (resource_spans true) (resource_spans false) resource_spans_follow (field (codes "resourceSpans") ms)) (λ x. refl)

pub left_out : DoublesAreLeftOut
left_out d r read = (message_follows without_doubles (request true) (request false) request_follows d).reads r read

-- ---- requests without doubles

map_same : {A : Type 0} (P : A → Type 0) (f : A → A) → ((x : A) → P x → f x ≡ x) → (xs : List A) → AllByRecursion P xs → map f xs ≡ xs
map_same P f same [] h = refl
map_same P f same (x ∷ xs) h = rw (same x h.0, map_same P f same xs h.1)

left_same : (ps : List KeyValue) → NoneOf ps → left ps ≡ ps
left_same ps none = all_left is_of_double ps none

dropped_same : (ps : List KeyValue) (n : ℕ) → NoneOf ps → dropped_of ps n ≡ n
dropped_same ps n none = rw none

event_same : (e : Event) → NoneOf e.attributes → event_left e ≡ e
event_same e none = rw (left_same e.attributes none, dropped_same e.attributes e.dropped_attributes_count none)

link_same : (l : Link) → NoneOf l.attributes → link_left l ≡ l
link_same l none = rw (left_same l.attributes none, dropped_same l.attributes l.dropped_attributes_count none)

span_same : (s : Span) → NoneOfSpan s → span_left s ≡ s
span_same s none = rw (left_same s.attributes none.0, dropped_same s.attributes s.dropped_attributes_count none.0, map_same (λ (e : Event). NoneOf e.attributes) event_left event_same s.events none.1, map_same (λ (l : Link). NoneOf l.attributes) link_left link_same s.links none.2)

scope_same : (s : Scope) → NoneOf s.attributes → scope_left s ≡ s
scope_same s none = rw (left_same s.attributes none, dropped_same s.attributes s.dropped_attributes_count none)

resource_same : (r : Resource) → NoneOf r.attributes → resource_left r ≡ r
resource_same r none = rw (left_same r.attributes none, dropped_same r.attributes r.dropped_attributes_count none)

scope_spans_same : (g : ScopeSpans) → NoneOfScope g → scope_spans_left g ≡ g
scope_spans_same g none = rw (scope_same g.scope none.0, map_same NoneOfSpan span_left span_same g.spans none.1)

resource_spans_same : (g : ResourceSpans) → NoneOfResource g → resource_spans_left g ≡ g
resource_spans_same g none = rw (resource_same g.resource none.0, map_same NoneOfScope scope_spans_left scope_spans_same g.scope_spans none.1)

pub nothing_left_out : (r : Request) → HasNoDoubles r → without_doubles r ≡ r
nothing_left_out r none = rw (map_same NoneOfResource resource_spans_left resource_spans_same r.resource_spans none)
