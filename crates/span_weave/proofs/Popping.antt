-- Where each sender's End was popped, all that the senders sent was popped.
-- For the contracts of `all_was_popped` and `all_was_pulled`.
use Rattle.std.proofs.Common.{◌≡◌, ◌≢◌, ℕ, zero, suc, ◌+◌, ◌<◌, ◌≤◌, ◌==◌, ◌||◌, Bool, true, false, cond, List, [], ◌∷◌, ◌++◌, map, reverse, refl, ap, sym, subst, ◌∙◌, arith, append-nil, ne_eqb}
use Rattle.std.specs.List.{AllByRecursion, list_any}
use Rattle.std.proofs.lemmas.Bool.{and_parts}
use native.Mathlib.Decide.{ℕ_discrete}
use Rattle.otlp_types.specs.declared.arrival.Arrival.{Arrival}
use Rattle.otlp_types.specs.declared.arrival.Item.{Item}
use Rattle.otlp_types.specs.declared.arrival.Item.TheVariants.{End}
use Rattle.released_spans.specs.declared.shipment.Shipment.{Shipment}
use Rattle.released_spans.specs.declared.shipment.Shipment.TheVariants.{Span as ShippedSpan, End as ShippedEnd}
use Rattle.journal_theory.specs.Journal.{Entry, Journal, is_end_of, has_ended, have_ended}
use Rattle.journal_theory.proofs.ListFacts.{Each, Each-map, Each-reverse}
use Rattle.journal_theory.proofs.Find.{any_none}
use Rattle.world_theory.proofs.Steps.{or_both}
use Rattle.lane_queue.specs.Merges.{of}
use Rattle.span_weave.specs.Threads.{items_of}
use Rattle.released_spans.specs.Shipping.{is_shipped_end, spans_among}
use Rattle.released_spans.proofs.Shipping.{among_before_end}
use Rattle.span_weave.specs.Popped.{AllWasPopped, spans_popped, AllWasPulled}
use Rattle.span_weave.proofs.Lists.{of_here, of_there}

never_both : (b : Bool) → b ≡ true → b ≡ false → ⊥
never_both b e f = cc (e, f)

-- ---- lists that end with one last element

module _ {X : Type 0} where
  -- two lists that make none are none
  both_empty : (xs ys : List X) → xs ++ ys ≡ [] → (xs ≡ []) × (ys ≡ [])
  both_empty [] ys e = (refl, e)
  both_empty (x ∷ xs) ys e = absurd (cc e)

  -- where no element passes
  any_each : (q : X → Bool) (xs : List X) → list_any q xs ≡ false → Each (λ x. q x ≡ false) xs
  any_each q [] e = tt
  any_each q (x ∷ xs) e = let p = or_both (q x) (list_any q xs) e in (p.0, any_each q xs p.1)

  -- where the last element was popped, nothing is held
  ends_last : (q : X → Bool) (last : X) (pops held front : List X) → list_any q front ≡ false → pops ++ held ≡ front ++ last ∷ [] → list_any q pops ≡ true → held ≡ []
  ends_last q last [] held front none e some = absurd (cc some)
  ends_last q last (p ∷ pops) held [] none e some = let rest : pops ++ held ≡ [] = cc e in (both_empty pops held rest).1
  ends_last q last (p ∷ pops) held (f ∷ front) none e some =
      let same : p ≡ f = cc e in
      let rest : pops ++ held ≡ front ++ last ∷ [] = cc e in
      let no = or_both (q f) (list_any q front) none in
      ends_last q last pops held front no.1 rest (ap (λ b. b || list_any q pops) (sym (ap q same ∙ no.0)) ∙ some)

  -- what was popped has nothing that passes, where neither the front nor the last has
  none_popped : (q : X → Bool) (last : X) → q last ≡ false → (pops held front : List X) → list_any q front ≡ false → pops ++ held ≡ front ++ last ∷ [] → Each (λ x. q x ≡ false) pops
  none_popped q last other [] held front none e = tt
  none_popped q last other (p ∷ pops) held [] none e =
      let same : p ≡ last = cc e in
      let rest : pops ++ held ≡ [] = cc e in
      (ap q same ∙ other, subst (Each (λ x. q x ≡ false)) (sym ((both_empty pops held rest).0)) tt)
  none_popped q last other (p ∷ pops) held (f ∷ front) none e =
      let same : p ≡ f = cc e in
      let rest : pops ++ held ≡ front ++ last ∷ [] = cc e in
      let no = or_both (q f) (list_any q front) none in
      (ap q same ∙ no.0, none_popped q last other pops held front no.1 rest)

  -- what holds of each list of a merge holds of the merge
  pub each_of_merge : (P : X → Type 0) (n : ℕ) (popped : List (ℕ × X)) → AllByRecursion (λ (x : ℕ × X). x.0 ≤ n) popped → ((j : ℕ) → j ≤ n → Each P (of j popped)) → Each (λ (x : ℕ × X). P x.1) popped
  each_of_merge P n [] s h = tt
  each_of_merge P n (x ∷ rest) s h =
      let first : Each P (x.1 ∷ of x.0 rest) = subst (Each P) (of_here x.0 x.1 rest) (h x.0 s.0) in
      (first.0, each_of_merge P n rest s.1 (λ j l. go first.1 j l (ℕ_discrete j x.0)))
    where
      go : Each P (of x.0 rest) → (j : ℕ) → j ≤ n → Dec (j ≡ x.0) → Each P (of j rest)
      go own j l (yes e) = subst (λ i. Each P (of i rest)) (sym e) own
      go own j l (no a) = subst (Each P) (of_there j x.0 x.1 rest a) (h j l)

  -- where a sender's last element was popped, all that it sent was popped
  all_popped : (last : ℕ → X) (is_last : ℕ → X → Bool) → ((j k : ℕ) → j ≢ k → is_last k (last j) ≡ false) → (n : ℕ) (popped : List (ℕ × X)) (sent held : ℕ → List X)
      → AllByRecursion (λ (x : ℕ × X). x.0 ≤ n) popped → ((j : ℕ) → j ≤ n → ((k : ℕ) → list_any (is_last k) (sent j) ≡ false) × (of j popped ++ held j ≡ sent j ++ last j ∷ []))
      → (k : ℕ) → k ≤ n → (Each (λ (x : ℕ × X). is_last k x.1 ≡ false) popped → ⊥) → of k popped ≡ sent k ++ last k ∷ []
  all_popped last is_last apart n popped sent held s h k l some = go (list_any (is_last k) (of k popped)) refl
    where
      go : (b : Bool) → list_any (is_last k) (of k popped) ≡ b → of k popped ≡ sent k ++ last k ∷ []
      go true e =
          let own = h k l in
          let nothing : held k ≡ [] = ends_last (is_last k) (last k) (of k popped) (held k) (sent k) (own.0 k) own.1 e in
          sym (append-nil (of k popped)) ∙ (ap (λ (z : List X). of k popped ++ z) (sym nothing) ∙ own.1)
      go false e = absurd (some (each_of_merge (λ x. is_last k x ≡ false) n popped s (λ j i. none j i (ℕ_discrete j k))))
        where
          none : (j : ℕ) → j ≤ n → Dec (j ≡ k) → Each (λ x. is_last k x ≡ false) (of j popped)
          none j i (yes q) = subst (λ a. Each (λ x. is_last k x ≡ false) (of a popped)) (sym q) (any_each (is_last k) (of k popped) e)
          none j i (no a) = let own = h j i in none_popped (is_last k) (last j) (apart j k a) (of j popped) (held j) (sent j) (own.0 k) own.1

-- ---- shards

-- the items that were popped, each with its sender
abbrev pub with_items : List (ℕ × Entry) → List (ℕ × Item)
with_items popped = map (λ (x : ℕ × Entry). (x.0, x.1.item)) popped

pub of_items : (k : ℕ) (popped : List (ℕ × Entry)) → of k (with_items popped) ≡ items_of k popped
of_items k [] = refl
of_items k (x ∷ rest) = go (x.0 == k) (of_items k rest)
  where
    go : (b : Bool) → of k (with_items rest) ≡ items_of k rest → cond b (x.1.item ∷ of k (with_items rest)) (of k (with_items rest)) ≡ map (λ (e : Entry). e.item) (cond b (x.1 ∷ of k rest) (of k rest))
    go true h = ap (λ (z : List Item). x.1.item ∷ z) h
    go false h = h

senders_of_items : (n : ℕ) (popped : List (ℕ × Entry)) → AllByRecursion (λ (x : ℕ × Entry). x.0 ≤ n) popped → AllByRecursion (λ (x : ℕ × Item). x.0 ≤ n) (with_items popped)
senders_of_items n [] h = tt
senders_of_items n (x ∷ rest) h = (h.0, senders_of_items n rest h.1)

pub each_entry : (P : Item → Type 0) (popped : List (ℕ × Entry)) → Each (λ (x : ℕ × Item). P x.1) (with_items popped) → Each (λ (x : ℕ × Entry). P x.1.item) popped
each_entry P [] h = tt
each_entry P (x ∷ rest) h = (h.0, each_entry P rest h.1)

-- where all have ended, each has
each_ended : (J : Journal) (n k : ℕ) → have_ended J n ≡ true → k < n → has_ended J k ≡ true
each_ended J zero k e l = absurd (omega (arith, l))
each_ended J (suc n) k e l = go (ℕ_discrete k n) (λ a. each_ended J n k (and_parts (has_ended J n) (have_ended J n) e).1 (omega (arith, l, a)))
  where
    go : Dec (k ≡ n) → ((k ≡ n → ⊥) → has_ended J k ≡ true) → has_ended J k ≡ true
    go (yes q) below = ap (has_ended J) q ∙ (and_parts (has_ended J n) (have_ended J n) e).0
    go (no a) below = below a

pub all_was_popped : AllWasPopped
all_was_popped lanes popped sent held s h finished k l = sym (of_items k popped) ∙ all_popped (λ j. End j) is_end_of (λ j i apart. ne_eqb j i apart) lanes (with_items popped) sent held
    (senders_of_items lanes popped s) (λ j i. let own = h j i in (own.0, ap (λ (z : List Item). z ++ held j) (of_items j popped) ∙ own.1)) k l some
  where
    J : Journal
    J = reverse (map (λ (x : ℕ × Entry). x.1) popped)

    some : Each (λ (x : ℕ × Item). is_end_of k x.1 ≡ false) (with_items popped) → ⊥
    some none = never_both (has_ended J k) (each_ended J (lanes + 1) k finished (omega (arith, l)))
        (any_none (λ (e : Entry). is_end_of k e.item) J (Each-reverse (λ (e : Entry). is_end_of k e.item ≡ false) (map (λ (x : ℕ × Entry). x.1) popped)
        (Each-map (λ (e : Entry). is_end_of k e.item ≡ false) (λ (x : ℕ × Entry). x.1) popped (each_entry (λ i. is_end_of k i ≡ false) popped none))))

-- ---- the exporter

shards_of_spans : (n : ℕ) (popped : List (ℕ × Shipment)) → AllByRecursion (λ (x : ℕ × Shipment). x.0 < n) popped → AllByRecursion (λ (x : ℕ × Arrival). x.0 < n) (spans_popped popped)
shards_of_spans n [] h = tt
shards_of_spans n ((k, ShippedSpan a policy) ∷ rest) h = (h.0, shards_of_spans n rest h.1)
shards_of_spans n ((k, ShippedEnd s) ∷ rest) h = shards_of_spans n rest h.1

of_spans : (k : ℕ) (popped : List (ℕ × Shipment)) → of k (spans_popped popped) ≡ spans_among (of k popped)
of_spans k [] = refl
of_spans k ((j, ShippedSpan a policy) ∷ rest) = go (j == k) (of_spans k rest)
  where
    go : (b : Bool) → of k (spans_popped rest) ≡ spans_among (of k rest) → cond b (a ∷ of k (spans_popped rest)) (of k (spans_popped rest)) ≡ spans_among (cond b (ShippedSpan a policy ∷ of k rest) (of k rest))
    go true h = ap (λ (z : List Arrival). a ∷ z) h
    go false h = h
of_spans k ((j, ShippedEnd s) ∷ rest) = go (j == k) (of_spans k rest)
  where
    go : (b : Bool) → of k (spans_popped rest) ≡ spans_among (of k rest) → of k (spans_popped rest) ≡ spans_among (cond b (ShippedEnd s ∷ of k rest) (of k rest))
    go true h = h
    go false h = h

below_next : (n : ℕ) (popped : List (ℕ × Shipment)) → AllByRecursion (λ (x : ℕ × Shipment). x.0 < suc n) popped → AllByRecursion (λ (x : ℕ × Shipment). x.0 ≤ n) popped
below_next n [] h = tt
below_next n (x ∷ rest) h = (omega (arith, h.0), below_next n rest h.1)

pub all_was_pulled : AllWasPulled
all_was_pulled zero popped sent held s h ended = (shards_of_spans zero popped s, λ k l. absurd (omega (arith, l)))
all_was_pulled (suc n) popped sent held s h ended = (shards_of_spans (suc n) popped s, λ k l. of_spans k popped ∙ (ap spans_among (all k l) ∙ among_before_end k (sent k)))
  where
    all : (k : ℕ) → k < suc n → of k popped ≡ sent k ++ ShippedEnd k ∷ []
    all k l = all_popped (λ j. ShippedEnd j) is_shipped_end (λ j i apart. ne_eqb j i apart) n popped sent held (below_next n popped s)
        (λ j i. let own = h j (omega (arith, i)) in (own.0, own.1)) k (omega (arith, l))
        (λ none. never_both (list_any (λ (x : ℕ × Shipment). is_shipped_end k x.1) popped) (ended k l) (any_none (λ (x : ℕ × Shipment). is_shipped_end k x.1) popped none))
