-- The pushes of a lane's arrivals are tries of the weave, by induction over the arrivals.
-- To be cited where a lane's thread is proved, for the premise `tried` of `weave`.
use Rattle.std.proofs.Common.{◌≡◌, inl, inr, ℕ, zero, suc, ◌+◌, ◌<◌, ◌==◌, cond, List, [], ◌∷◌, ◌++◌, length, map, filter, slice_get, slice_set, Option, Some, None, refl, ap, sym, subst, ◌∙◌, arith, append_assoc, append-nil, length-append, eq-eqb, ne_eqb, ◌≤◌}
use Rattle.std.proofs.lemmas.List.{length-map, map-append}
use Rattle.std.proofs.lemmas.List.Elements.{filter-append}
use native.Mathlib.Decide.{ℕ_discrete}
use Rattle.otlp_types.specs.declared.arrival.Arrival.{Arrival}
use Rattle.otlp_types.specs.declared.arrival.Item.{Item}
use Rattle.otlp_types.specs.declared.arrival.Item.TheVariants.{Span}
use Rattle.otlp_types.specs.declared.span.Ids.{Ids}
use Rattle.span_ids.specs.Route.{shard_of}
use Rattle.lane_seq.specs.Pushes.{PushesOne, PushesAll}
use Rattle.journal_theory.proofs.ListFacts.{length-slice_set}
use Rattle.world_theory.specs.World.{goes_to, ids_go_to}
use Rattle.world_theory.proofs.Released.{get_set, get_set_other}
use Rattle.world_theory.proofs.Routing.{some_read}
use Rattle.span_weave.specs.Threads.{Try, pushed, full, span_of, pushed_in, refused_in}
use Rattle.span_weave.specs.Woven.{sum_below}
use Rattle.span_weave.proofs.Lists.{set_at, set_same, set_other}
use Rattle.span_weave.proofs.Sums.{sum_none, sum_plus, sum_same, sum_set}
use Rattle.span_weave.specs.Pushes.{FullLate, TriesOf}

-- a place that is there is below the length
pub place_below : {X : Type 0} (xs : List X) (i : ℕ) (x : X) → slice_get xs i ≡ Some x → i < length xs
place_below [] i x e = absurd (cc e)
place_below (y ∷ xs) zero x e = omega arith
place_below (y ∷ xs) (suc i) x e = let h = place_below xs i x e in omega (arith, h)

-- what stands at one place is one thing
pub reads_one : {X : Type 0} (o : Option X) (x y : X) → o ≡ Some x → o ≡ Some y → x ≡ y
reads_one o x y e f = cc (sym e ∙ f)

module _ {P : Type 0} (takes : P → Item → P → Type 0) (refuses : P → P → Type 0) (capacity : ℕ) (sent : P → List Item)
    (grows : (p q : P) (item : Item) → takes p item q → sent q ≡ sent p ++ item ∷ []) (stays : (p q : P) → refuses p q → sent q ≡ sent p) (fills : (p q : P) → refuses p q → capacity ≤ length (sent p)) where
  -- one try more, at the shard of its span, before others
  one_more : (a : Arrival) (ids : Ids) (rest : List Arrival) (old between new : List P) (first others : ℕ) (try : Try) (before after : P) → a.rec.span.ids ≡ Some ids → span_of try ≡ a
      → slice_get old (shard_of ids.trace (length old)) ≡ Some before → between ≡ slice_set old (shard_of ids.trace (length old)) after
      → sent after ≡ sent before ++ map (λ a. Span a) (pushed_in (try ∷ [])) → FullLate capacity (length (sent before)) (try ∷ []) → first ≡ length (refused_in (try ∷ []))
      → TriesOf capacity sent rest between others new → TriesOf capacity sent (a ∷ rest) old (first + others) new
  one_more a ids rest old between new first others try before after valid is there put more filled counted r = record {
    tries = tries;
    tried = λ k. tried k (ℕ_discrete k s);
    sent_is = λ k p q g f. sent_is k p q g f (ℕ_discrete k s);
    refused_is = omega (
      arith,
      r.refused_is,
      counted,
      ap (λ n. sum_below n (λ k. length (refused_in (r.tries k)))) same,
      sum_set (length old) s (place_below old s before there) (λ k. length (refused_in (r.tries k))) (λ k. length (refused_in (tries k))) (λ k apart. ap (λ (z : List Try). length (refused_in z)) (sym (set_other r.tries s k (try ∷ r.tries s) apart))),
      ap (λ (z : List Try). length (refused_in z)) (set_same r.tries s (try ∷ r.tries s)),
      refused_more try (r.tries s),
    );
    same_length = r.same_length ∙ same;
    late = λ k p g. late k p g (ℕ_discrete k s);
  }
    where
      s : ℕ
      s = shard_of ids.trace (length old)

      same : length between ≡ length old
      same = ap (λ (z : List P). length z) put ∙ length-slice_set old s after

      tries : ℕ → List Try
      tries = set_at r.tries s (try ∷ r.tries s)

      refused_more : (try : Try) (ts : List Try) → length (refused_in (try ∷ ts)) ≡ length (refused_in (try ∷ [])) + length (refused_in ts)
      refused_more (pushed x) ts = omega arith
      refused_more (full x) ts = omega arith

      pushed_more : (try : Try) (ts : List Try) → pushed_in (try ∷ ts) ≡ pushed_in (try ∷ []) ++ pushed_in ts
      pushed_more (pushed x) ts = refl
      pushed_more (full x) ts = refl

      goes_here : (k : ℕ) → goes_to (length old) k a ≡ (s == k)
      goes_here k = ap (λ (i : Option Ids). ids_go_to (length old) k i) valid

      rest_is : (k : ℕ) → map span_of (r.tries k) ≡ filter (goes_to (length old) k) rest
      rest_is k = r.tried k ∙ ap (λ n. filter (goes_to n k) rest) same

      tried : (k : ℕ) → Dec (k ≡ s) → map span_of (tries k) ≡ filter (goes_to (length old) k) (a ∷ rest)
      tried k (yes e) = subst (λ i. map span_of (tries i) ≡ filter (goes_to (length old) i) (a ∷ rest)) (sym e)
          (ap (map span_of) (set_same r.tries s (try ∷ r.tries s)) ∙ (ap (λ (x : Arrival). x ∷ map span_of (r.tries s)) is ∙ (ap (λ (z : List Arrival). a ∷ z) (rest_is s)
          ∙ sym (ap (λ b. cond b (a ∷ filter (goes_to (length old) s) rest) (filter (goes_to (length old) s) rest)) (goes_here s ∙ eq-eqb s s refl)))))
      tried k (no n) = ap (map span_of) (set_other r.tries s k (try ∷ r.tries s) n) ∙ (rest_is k
          ∙ sym (ap (λ b. cond b (a ∷ filter (goes_to (length old) k) rest) (filter (goes_to (length old) k) rest)) (goes_here k ∙ ne_eqb s k (λ e. n (sym e)))))

      sent_is : (k : ℕ) (p q : P) → slice_get old k ≡ Some p → slice_get new k ≡ Some q → Dec (k ≡ s) → sent q ≡ sent p ++ map (λ a. Span a) (pushed_in (tries k))
      sent_is k p q g f (yes e) =
          let here : slice_get between s ≡ Some after = ap (λ (z : List P). slice_get z s) put ∙ get_set old s before after there in
          let last : slice_get new s ≡ Some q = subst (λ i. slice_get new i ≡ Some q) e f in
          let was : before ≡ p = reads_one (slice_get old s) before p there (subst (λ i. slice_get old i ≡ Some p) e g) in
          r.sent_is s after q here last ∙ (ap (λ (z : List Item). z ++ map (λ a. Span a) (pushed_in (r.tries s))) more
          ∙ (append_assoc (sent before) (map (λ a. Span a) (pushed_in (try ∷ []))) (map (λ a. Span a) (pushed_in (r.tries s)))
          ∙ (ap (λ (z : List Item). sent before ++ z) (sym (items_more try (r.tries s)))
          ∙ (ap (λ (x : P). sent x ++ map (λ a. Span a) (pushed_in (try ∷ r.tries s))) was
          ∙ ap (λ (z : List Try). sent p ++ map (λ a. Span a) (pushed_in z)) (sym (ap tries e ∙ set_same r.tries s (try ∷ r.tries s)))))))
        where
          items_more : (try : Try) (ts : List Try) → map (λ a. Span a) (pushed_in (try ∷ ts)) ≡ map (λ a. Span a) (pushed_in (try ∷ [])) ++ map (λ a. Span a) (pushed_in ts)
          items_more (pushed x) ts = refl
          items_more (full x) ts = refl
      sent_is k p q g f (no n) = r.sent_is k p q (ap (λ (z : List P). slice_get z k) put ∙ (get_set_other old s k after n ∙ g)) f
          ∙ ap (λ (z : List Try). sent p ++ map (λ a. Span a) (pushed_in z)) (sym (set_other r.tries s k (try ∷ r.tries s) n))

      late_here : (try : Try) (ts : List Try) (n m : ℕ) → FullLate capacity n (try ∷ []) → m ≡ n + length (pushed_in (try ∷ [])) → FullLate capacity m ts → FullLate capacity n (try ∷ ts)
      late_here (pushed x) ts n m h e k = subst (λ i. FullLate capacity i ts) e k
      late_here (full x) ts n m h e k = (h.0, subst (λ i. FullLate capacity i ts) (omega (arith, e)) k)

      late : (k : ℕ) (p : P) → slice_get old k ≡ Some p → Dec (k ≡ s) → FullLate capacity (length (sent p)) (tries k)
      late k p g (yes e) =
          let was : before ≡ p = reads_one (slice_get old s) before p there (subst (λ i. slice_get old i ≡ Some p) e g) in
          let here : slice_get between s ≡ Some after = ap (λ (z : List P). slice_get z s) put ∙ get_set old s before after there in
          subst (λ (x : P). FullLate capacity (length (sent x)) (tries k)) was
          (subst (λ (z : List Try). FullLate capacity (length (sent before)) z) (sym (ap tries e ∙ set_same r.tries s (try ∷ r.tries s)))
          (late_here try (r.tries s) (length (sent before)) (length (sent after)) filled (longer try more) (r.late s after here)))
        where
          longer : (try : Try) → sent after ≡ sent before ++ map (λ a. Span a) (pushed_in (try ∷ [])) → length (sent after) ≡ length (sent before) + length (pushed_in (try ∷ []))
          longer (pushed x) put = ap (λ (z : List Item). length z) put ∙ length-append (sent before) (Span x ∷ [])
          longer (full x) put = ap (λ (z : List Item). length z) put ∙ length-append (sent before) []
      late k p g (no n) = subst (λ (z : List Try). FullLate capacity (length (sent p)) z) (sym (set_other r.tries s k (try ∷ r.tries s) n)) (r.late k p (ap (λ (z : List P). slice_get z k) put ∙ (get_set_other old s k after n ∙ g)))

  -- a span without valid ids is not tried
  none_more : (a : Arrival) (rest : List Arrival) (old between new : List P) (first others : ℕ) → a.rec.span.ids ≡ None → first ≡ 0 → between ≡ old → TriesOf capacity sent rest between others new → TriesOf capacity sent (a ∷ rest) old (first + others) new
  none_more a rest old between new first others invalid none unchanged more =
      let r : TriesOf capacity sent rest old others new = subst (λ (z : List P). TriesOf capacity sent rest z others new) unchanged more in
      record {
        tries = r.tries;
        tried = λ k. r.tried k ∙ sym (ap (λ (i : Option Ids). cond (ids_go_to (length old) k i) (a ∷ filter (goes_to (length old) k) rest) (filter (goes_to (length old) k) rest)) invalid);
        sent_is = r.sent_is;
        refused_is = omega (arith, none, r.refused_is);
        same_length = r.same_length;
        late = r.late;
      }

  pub pushes_are_tries : (arrivals : List Arrival) (old : List P) (refused : ℕ) (new : List P) → PushesAll takes refuses arrivals old refused new → TriesOf capacity sent arrivals old refused new
  pushes_are_tries [] old refused new h = record {
    tries = λ k. [];
    tried = λ k. refl;
    sent_is = λ k p q g f. sym (ap sent (reads_one (slice_get old k) p q g (ap (λ (z : List P). slice_get z k) (sym h.1) ∙ f))) ∙ sym (append-nil (sent p));
    refused_is = h.0 ∙ sym (sum_none (length old) (λ k. 0) (λ k l. refl));
    same_length = ap (λ (z : List P). length z) h.1;
    late = λ k p g. tt;
  }
  pushes_are_tries (a ∷ rest) old refused new h =
      let more = pushes_are_tries rest h.2 h.1 new h.5 in
      subst (λ n. TriesOf capacity sent (a ∷ rest) old n new) (sym h.3) (by_ids a.rec.span.ids refl h.4 more)
    where
      by_ids : (ids : Option Ids) → a.rec.span.ids ≡ ids → PushesOne takes refuses ids (Span a) old h.0 h.2 → TriesOf capacity sent rest h.2 h.1 new → TriesOf capacity sent (a ∷ rest) old (h.0 + h.1) new
      by_ids None e g more = none_more a rest old h.2 new h.0 h.1 e g.0 g.1 more
      by_ids (Some ids) e (inl g) more = one_more a ids rest old h.2 new h.0 h.1 (pushed a) g.1.0 g.1.1 e refl g.1.2 g.1.4 (grows g.1.0 g.1.1 (Span a) g.1.3) tt g.0 more
      by_ids (Some ids) e (inr g) more = one_more a ids rest old h.2 new h.0 h.1 (full a) g.1.0 g.1.1 e refl g.1.2 g.1.4 (stays g.1.0 g.1.1 g.1.3 ∙ sym (append-nil (sent g.1.0))) (fills g.1.0 g.1.1 g.1.3, tt) g.0 more

-- ---- one after the other

pushed_append : (xs ys : List Try) → pushed_in (xs ++ ys) ≡ pushed_in xs ++ pushed_in ys
pushed_append [] ys = refl
pushed_append (pushed a ∷ xs) ys = ap (λ (z : List Arrival). a ∷ z) (pushed_append xs ys)
pushed_append (full a ∷ xs) ys = pushed_append xs ys

refused_append : (xs ys : List Try) → length (refused_in (xs ++ ys)) ≡ length (refused_in xs) + length (refused_in ys)
refused_append [] ys = omega arith
refused_append (pushed a ∷ xs) ys = refused_append xs ys
refused_append (full a ∷ xs) ys = omega (arith, refused_append xs ys)

late_append : (capacity n : ℕ) (xs ys : List Try) → FullLate capacity n xs → FullLate capacity (n + length (pushed_in xs)) ys → FullLate capacity n (xs ++ ys)
late_append capacity n [] ys h k = subst (λ i. FullLate capacity i ys) (omega arith) k
late_append capacity n (pushed a ∷ xs) ys h k = late_append capacity (n + 1) xs ys h (subst (λ i. FullLate capacity i ys) (omega arith) k)
late_append capacity n (full a ∷ xs) ys h k = (h.0, late_append capacity n xs ys h.1 k)

module _ {P : Type 0} (capacity : ℕ) (sent : P → List Item) where
  -- no arrivals, no tries
  pub no_tries : (old : List P) → TriesOf capacity sent [] old 0 old
  no_tries old = record {
    tries = λ k. [];
    tried = λ k. refl;
    sent_is = λ k p q g f. sym (ap sent (reads_one (slice_get old k) p q g f)) ∙ sym (append-nil (sent p));
    refused_is = sym (sum_none (length old) (λ k. 0) (λ k l. refl));
    same_length = refl;
    late = λ k p g. tt;
  }

  -- tries of some arrivals, and then of others
  pub tries_then : (xs ys : List Arrival) (old mid new : List P) (first others : ℕ) → TriesOf capacity sent xs old first mid → TriesOf capacity sent ys mid others new → TriesOf capacity sent (xs ++ ys) old (first + others) new
  tries_then xs ys old mid new first others a b = record {
    tries = λ k. a.tries k ++ b.tries k;
    tried = λ k. map-append span_of (a.tries k) (b.tries k) ∙ (ap (λ (z : List Arrival). z ++ map span_of (b.tries k)) (a.tried k)
        ∙ (ap (λ (z : List Arrival). filter (goes_to (length old) k) xs ++ z) (b.tried k ∙ ap (λ n. filter (goes_to n k) ys) a.same_length) ∙ sym (filter-append (goes_to (length old) k) xs ys)));
    sent_is = λ k p q g f.
        let m = between k p g in
        b.sent_is k m.0 q m.1 f ∙ (ap (λ (z : List Item). z ++ map (λ a. Span a) (pushed_in (b.tries k))) (a.sent_is k p m.0 g m.1)
        ∙ (append_assoc (sent p) (map (λ a. Span a) (pushed_in (a.tries k))) (map (λ a. Span a) (pushed_in (b.tries k)))
        ∙ ap (λ (z : List Item). sent p ++ z) (sym (map-append (λ a. Span a) (pushed_in (a.tries k)) (pushed_in (b.tries k))) ∙ ap (λ (z : List Arrival). map (λ a. Span a) z) (sym (pushed_append (a.tries k) (b.tries k))))));
    refused_is = omega (
      arith,
      a.refused_is,
      b.refused_is,
      ap (λ n. sum_below n (λ k. length (refused_in (b.tries k)))) a.same_length,
      sum_plus (length old) (λ k. length (refused_in (a.tries k))) (λ k. length (refused_in (b.tries k))),
      sum_same (length old) (λ k. length (refused_in (a.tries k ++ b.tries k))) (λ k. length (refused_in (a.tries k)) + length (refused_in (b.tries k))) (λ k l. refused_append (a.tries k) (b.tries k)),
    );
    same_length = b.same_length ∙ a.same_length;
    late = λ k p g.
        let m = between k p g in
        late_append capacity (length (sent p)) (a.tries k) (b.tries k) (a.late k p g) (subst (λ n. FullLate capacity n (b.tries k)) (ap (λ (z : List Item). length z) (a.sent_is k p m.0 g m.1)
        ∙ (length-append (sent p) (map (λ a. Span a) (pushed_in (a.tries k))) ∙ ap (λ n. length (sent p) + n) (length-map (pushed_in (a.tries k)) (λ a. Span a)))) (b.late k m.0 m.1));
  }
    where
      between : (k : ℕ) (p : P) → slice_get old k ≡ Some p → (m : P) × (slice_get mid k ≡ Some m)
      between k p g = some_read mid k (omega (arith, place_below old k p g, a.same_length))
