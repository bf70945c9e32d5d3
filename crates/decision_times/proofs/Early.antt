-- Each decision has its cause, in every journal.
-- For the law `never_too_early`.
use Rattle.std.proofs.Common.{◌≡◌, ℕ, ◌+◌, ◌<◌, ◌≤◌, nat_lt, nat_le, Bool, true, false, ◌&&◌, ◌||◌, not, cond, [], ◌∷◌, length, Option, Some, None, refl, ap, arith}
use Rattle.std.specs.List.{list_any}
use Rattle.std.proofs.lemmas.Bool.{and_parts, not-true}
use Rattle.std.proofs.lemmas.Bool.Decides.{nat_tests}
use Rattle.otlp_types.specs.declared.span.Ids.{Ids}
use Rattle.otlp_types.specs.declared.arrival.Arrival.{Arrival}
use Rattle.otlp_types.specs.declared.arrival.Item.{Item}
use Rattle.otlp_types.specs.declared.arrival.Item.TheVariants.{Span, Tick, End}
use Rattle.span_size.specs.Size.{size_of}
use Rattle.journal_theory.specs.Journal.{Settings, Journal, Entry, Opening, Notes, Finding, joins, meets, opens, finding, clock, is_of_trace, is_root, item_spans, is_root_past, is_oversized, is_due, spans_since, have_ended, has_finished, due_at, undecided, oversized, after_finding, after_span, after_item, notes}
use Rattle.journal_theory.proofs.ListFacts.{Each, Each-all, Each-weaker, Each-passes}
use Rattle.journal_theory.proofs.Sound.{Each-due, Each-buffer}
use Rattle.decision_times.specs.Times.{WasOpened, HasRoot, Cause, has_waited, root_has_waited, is_big, is_last}

-- ---- openings

opened_more : (e : Entry) (J : Journal) (o : Opening) → WasOpened J o → WasOpened (e ∷ J) o
opened_more e J o h = record { later = e ∷ h.later; item = h.item; before = h.before; split = ap (λ (z : Journal). e ∷ z) h.split; first = h.first; is = h.is; kept = h.kept; ids = h.ids; valid = h.valid; trace = h.trace; at = h.at; moment = h.moment }

module _ (s : Settings) (e : Entry) (J : Journal) where
  by_finding : (a : Arrival) (ids : Ids) → e.item ≡ Span a → a.rec.span.ids ≡ Some ids → e.refused ≡ false → (noted : Notes) → Each (WasOpened (e ∷ J)) noted.openings
      → (f : Finding) → Each (WasOpened (e ∷ J)) (after_finding s ids.trace e.lost (length J) (clock (e ∷ J)) noted f).openings
  by_finding a ids is valid kept noted h (joins o) = h
  by_finding a ids is valid kept noted h (meets o v) = h
  by_finding a ids is valid kept noted h opens = (record { later = []; item = e; before = J; split = refl; first = a; is = is; kept = kept; ids = ids; valid = valid; trace = refl; at = refl; moment = refl }, h)

  by_refusal : (a : Arrival) (ids : Ids) → e.item ≡ Span a → a.rec.span.ids ≡ Some ids → (noted : Notes) → Each (WasOpened (e ∷ J)) noted.openings
      → (r : Bool) → e.refused ≡ r → Each (WasOpened (e ∷ J)) (cond r noted (after_finding s ids.trace e.lost (length J) (clock (e ∷ J)) noted (finding s noted ids.trace))).openings
  by_refusal a ids is valid noted h true kept = h
  by_refusal a ids is valid noted h false kept = by_finding a ids is valid kept noted h (finding s noted ids.trace)

  by_ids : (a : Arrival) → e.item ≡ Span a → (noted : Notes) → Each (WasOpened (e ∷ J)) noted.openings
      → (ids : Option Ids) → a.rec.span.ids ≡ ids → Each (WasOpened (e ∷ J)) (after_span s ids e J noted).openings
  by_ids a is noted h None valid = h
  by_ids a is noted h (Some ids) valid = by_refusal a ids is valid noted h e.refused refl

  by_item : (item : Item) → e.item ≡ item → (noted : Notes) → Each (WasOpened (e ∷ J)) noted.openings → Each (WasOpened (e ∷ J)) (after_item s e J item noted).openings
  by_item (Span a) is noted h = by_ids a is noted h a.rec.span.ids refl
  by_item (Tick m) is noted h = h
  by_item (End sender) is noted h = h

-- each opening is that of a span
pub all_opened : (s : Settings) (J : Journal) → Each (WasOpened J) (notes s J).openings
unfolding notes
all_opened s [] = tt
all_opened s (e ∷ J) = by_item s e J e.item refl (notes s J) (Each-weaker (WasOpened J) (WasOpened (e ∷ J)) (notes s J).openings (opened_more e J) (all_opened s J))

-- the same right after an item
opened_at : (s : Settings) (e : Entry) (J : Journal) → Each (WasOpened (e ∷ J)) (after_item s e J e.item (notes s J)).openings
opened_at s e J = by_item s e J e.item refl (notes s J) (Each-weaker (WasOpened J) (WasOpened (e ∷ J)) (notes s J).openings (opened_more e J) (all_opened s J))

-- ---- a root that waited

pub root_more : (root_wait now : ℕ) (e : Entry) (J : Journal) (o : Opening) → HasRoot root_wait now J o → HasRoot root_wait now (e ∷ J) o
root_more root_wait now e J o h = record { later = e ∷ h.later; item = h.item; before = h.before; split = ap (λ (z : Journal). e ∷ z) h.split; root = h.root; is = h.is; kept = h.kept; of_trace = h.of_trace; without_parent = h.without_parent; since = h.since; waited = h.waited }

-- an item whose spans have a root is one
record IsRootItem (o : Opening) (at : ℕ) (e : Entry) : Type 0 where
  root : Arrival
  is : e.item ≡ Span root
  kept : e.refused ≡ false
  of_trace : is_of_trace o.trace root ≡ true
  without_parent : is_root root ≡ true
  since : nat_le o.at at ≡ true

root_item : (o : Opening) (at : ℕ) (e : Entry) (item : Item) → e.item ≡ item → list_any is_root (item_spans o at e.refused item) ≡ true → IsRootItem o at e
root_item o at e (Tick m) is h = absurd (cc h)
root_item o at e (End sender) is h = absurd (cc h)
root_item o at e (Span a) is h = go (nat_le o.at at) (is_of_trace o.trace a) e.refused refl refl refl h
  where
    go : (b t r : Bool) → nat_le o.at at ≡ b → is_of_trace o.trace a ≡ t → e.refused ≡ r → list_any is_root (cond (b && t && not r) (a ∷ []) []) ≡ true → IsRootItem o at e
    go true true false since of kept h = record { root = a; is = is; kept = kept; of_trace = of; without_parent = one (is_root a) h; since = since }
      where
        one : (b : Bool) → (b || false) ≡ true → b ≡ true
        one true h = refl
        one false h = cc h
    go true true true since of kept h = absurd (cc h)
    go true false r since of kept h = absurd (cc h)
    go false t r since of kept h = absurd (cc h)

either : (a b : Bool) {P : Type 0} → (a || b) ≡ true → (a ≡ true → P) → (b ≡ true → P) → P
either true b h f g = f refl
either false b h f g = g h

pub has_root : (root_wait now : ℕ) (J : Journal) (o : Opening) → is_root_past root_wait now J o ≡ true → HasRoot root_wait now J o
has_root root_wait now [] o h = absurd (cc h)
has_root root_wait now (e ∷ J) o h =
    either (is_root_past root_wait now J o) (list_any is_root (item_spans o (length J) e.refused e.item) && nat_le (clock (e ∷ J) + root_wait) now) h
    (λ k. root_more root_wait now e J o (has_root root_wait now J o k))
    (λ k.
    let p = and_parts (list_any is_root (item_spans o (length J) e.refused e.item)) (nat_le (clock (e ∷ J) + root_wait) now) k in
    let r = root_item o (length J) e e.item refl p.0 in
    let late : nat_le (clock (e ∷ J) + root_wait) now ≡ true = p.1 in
    let since : nat_le o.at (length J) ≡ true = r.since in
    record { later = []; item = e; before = J; split = refl; root = r.root; is = r.is; kept = r.kept; of_trace = r.of_trace; without_parent = r.without_parent; since = le-of o.at (length J) since; waited = le-of (clock (e ∷ J) + root_wait) now late })
  where
    le-of : (m n : ℕ) → nat_le m n ≡ true → m ≤ n
    le-of m n h = grind (arith, nat_tests)

-- ---- causes

big_cause : (s : Settings) (e : Entry) (J : Journal) (o : Opening) → is_oversized s (e ∷ J) o ≡ true → Cause s e J o
big_cause s e J o h =
    let p = and_parts (nat_lt 0 s.maximum_trace_size) (nat_lt s.maximum_trace_size (size_of (spans_since (e ∷ J) o))) h in
    is_big (lt-of 0 s.maximum_trace_size p.0) (lt-of s.maximum_trace_size (size_of (spans_since (e ∷ J) o)) p.1)
  where
    lt-of : (m n : ℕ) → nat_lt m n ≡ true → m < n
    lt-of m n h = grind (arith, nat_tests)

tick_cause : (s : Settings) (e : Entry) (J : Journal) (m : ℕ) → e.item ≡ Tick m → (o : Opening) → is_due s (e ∷ J) o ≡ true → Cause s e J o
tick_cause s e J m is o h =
    either (nat_le (o.moment + s.decision_wait) (clock (e ∷ J)) || (nat_lt 0 s.root_wait && is_root_past s.root_wait (clock (e ∷ J)) (e ∷ J) o)) (is_oversized s (e ∷ J) o) h
    (λ k. either (nat_le (o.moment + s.decision_wait) (clock (e ∷ J))) (nat_lt 0 s.root_wait && is_root_past s.root_wait (clock (e ∷ J)) (e ∷ J) o) k
    (λ w. has_waited m is (le-of (o.moment + s.decision_wait) (clock (e ∷ J)) w))
    (λ r. let p = and_parts (nat_lt 0 s.root_wait) (is_root_past s.root_wait (clock (e ∷ J)) (e ∷ J) o) r in
    root_has_waited m is (lt-of 0 s.root_wait p.0) (has_root s.root_wait (clock (e ∷ J)) (e ∷ J) o p.1)))
    (big_cause s e J o)
  where
    le-of : (m n : ℕ) → nat_le m n ≡ true → m ≤ n
    le-of m n h = grind (arith, nat_tests)

    lt-of : (m n : ℕ) → nat_lt m n ≡ true → m < n
    lt-of m n h = grind (arith, nat_tests)

-- what is due at an item has a cause there
due_causes : (s : Settings) (e : Entry) (J : Journal) (item : Item) → e.item ≡ item → (noted : Notes) → Each (Cause s e J) (due_at s e J item noted)
due_causes s e J (Span a) is noted = Each-weaker (λ (o : Opening). is_oversized s (e ∷ J) o ≡ true) (Cause s e J) (oversized s (e ∷ J) noted) (big_cause s e J) (Each-passes (is_oversized s (e ∷ J)) (undecided s noted))
due_causes s e J (Tick m) is noted = Each-weaker (λ (o : Opening). is_due s (e ∷ J) o ≡ true) (Cause s e J) (due_at s e J (Tick m) noted) (tick_cause s e J m is) (Each-passes (is_due s (e ∷ J)) (undecided s noted))
due_causes s e J (End sender) is noted = go (has_finished s e J) refl
  where
    go : (b : Bool) → has_finished s e J ≡ b → Each (Cause s e J) (cond b (undecided s noted) (oversized s (e ∷ J) noted))
    go true h =
        let p = and_parts (have_ended (e ∷ J) s.senders) (not (have_ended J s.senders)) h in
        Each-all (Cause s e J) (undecided s noted) (λ o. is_last (not-true (have_ended J s.senders) p.1) p.0)
    go false h = Each-weaker (λ (o : Opening). is_oversized s (e ∷ J) o ≡ true) (Cause s e J) (oversized s (e ∷ J) noted) (big_cause s e J) (Each-passes (is_oversized s (e ∷ J)) (undecided s noted))

-- ---- what holds right after an item

-- each opening so far is that of a span, and what is due has a cause
pub due_opened : (s : Settings) (e : Entry) (J : Journal) → Each (WasOpened (e ∷ J)) (due_at s e J e.item (after_item s e J e.item (notes s J)))
due_opened s e J =
    let noted = after_item s e J e.item (notes s J) in
    Each-due (WasOpened (e ∷ J)) s e J e.item noted (Each-buffer (WasOpened (e ∷ J)) s noted (opened_at s e J))

pub due_caused : (s : Settings) (e : Entry) (J : Journal) → Each (Cause s e J) (due_at s e J e.item (after_item s e J e.item (notes s J)))
due_caused s e J = due_causes s e J e.item refl (after_item s e J e.item (notes s J))
