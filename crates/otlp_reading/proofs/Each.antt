-- Reading each item, one after another.
-- For the contracts of `each` and `value`.
use Rattle.std.proofs.Common.{◌≡◌, ℕ, zero, suc, ◌+◌, ◌<◌, ◌≤◌, List, [], ◌∷◌, ◌++◌, length, drop, get_or, Option, Some, None, option_map, option_and_then, refl, sym, ap, ◌∙◌, append_assoc, append-nil, arith, add-one}
use Rattle.std.specs.Prelude.{cond, is_none}
use Rattle.std.proofs.lemmas.List.Elements.{filter_map-append}
use Rattle.std.proofs.lemmas.List.Sums.{sum_by-append}
use Rattle.serde_json.specs.Data.{Data, Items, no_items, item}
use Rattle.serde_json.specs.View.{view, items_view}
use Rattle.serde_json.specs.declared.value.Value.{Value}
use Rattle.otlp_reading.specs.Kinds.{each}
use Rattle.otlp_reading.specs.Reading.{OrDiscarded, kept, discarded}

-- Of all items those at the front are read as `done`, and the rest are left.
pub record Reads {A : Type 0} (read : Data → Option A) (all : Items) (done : List A) (rest : Items) : Type 0 where
  pub so_far : each read all ≡ option_map (λ xs. done ++ xs) (each read rest)

same : {A : Type 0} (o : Option (List A)) → o ≡ option_map (λ xs. [] ++ xs) o
same None = refl
same (Some xs) = refl

pub Reads-start : {A : Type 0} (read : Data → Option A) (all : Items) → Reads read all [] all
Reads-start read all = record { so_far = same (each read all) }

pushed : {A : Type 0} (done : List A) (x : A) (o : Option (List A))
    → option_map (λ xs. done ++ xs) (option_and_then (λ xs. Some (x ∷ xs)) o) ≡ option_map (λ xs. (done ++ x ∷ []) ++ xs) o
pushed done x None = refl
pushed done x (Some xs) = ap Some (sym (append_assoc done (x ∷ []) xs))

pub Reads-step : {A : Type 0} (read : Data → Option A) (all : Items) (done : List A) (d : Data) (rest : Items) (x : A)
    → Reads read all done (item d rest) → read d ≡ Some x → Reads read all (done ++ x ∷ []) rest
Reads-step read all done d rest x h e = record { so_far = h.so_far ∙ rw e (pushed done x (each read rest)) }

pub Reads-end : {A : Type 0} (read : Data → Option A) (all : Items) (done : List A)
    → Reads read all done no_items → each read all ≡ Some done
Reads-end read all done h = h.so_far ∙ ap Some (append-nil done)

-- the next item of a slice
pub items_view-drop : (vs : List Value) (i : ℕ) (v : Value) → i < length vs → v ≡ get_or vs i v
    → items_view (drop i vs) ≡ item (view v) (items_view (drop (i + 1) vs))
items_view-drop [] i v h e = absurd (omega arith)
items_view-drop (w ∷ vs) zero v h e = ap (λ x. item (view x) (items_view vs)) (sym e)
items_view-drop (w ∷ vs) (suc i) v h e = rw add-one (rw add-one at (items_view-drop vs i v (omega arith) e))

pub kept-append : {A : Type 0} (xs ys : List (OrDiscarded A)) → kept (xs ++ ys) ≡ kept xs ++ kept ys
kept-append xs ys = filter_map-append (λ x. x) xs ys

pub discarded-append : {A : Type 0} (xs ys : List (OrDiscarded A)) → discarded (xs ++ ys) ≡ discarded xs + discarded ys
discarded-append {A} xs ys = sum_by-append (λ (x : OrDiscarded A). cond (is_none x) 1 0) xs ys

one_at_most : {A : Type 0} (o : OrDiscarded A) → discarded (o ∷ []) ≤ 1
one_at_most None = omega arith
one_at_most (Some x) = omega arith

-- Of a list of items those at the front are sieved, and the rest are left.
pub record Sieves {A : Type 0} (read : Data → Option (OrDiscarded A)) (vs : List Value) (i : ℕ) (some : List A) (none : ℕ) : Type 0 where
  pub done : List (OrDiscarded A)
  pub reads : Reads read (items_view vs) done (items_view (drop i vs))
  pub some_is : some ≡ kept done
  pub none_is : none ≡ discarded done
  pub at_most : none ≤ i

-- one more item, which is kept or discarded
pub Sieves-next : {A : Type 0} (read : Data → Option (OrDiscarded A)) (vs : List Value) (i : ℕ) (some : List A) (none : ℕ) (v : Value) (o : OrDiscarded A) (more : List A) (gone : ℕ)
    → Sieves read vs i some none → i < length vs → v ≡ get_or vs i v → read (view v) ≡ Some o → more ≡ some ++ kept (o ∷ []) → gone ≡ none + discarded (o ∷ []) → Sieves read vs (i + 1) more gone
Sieves-next read vs i some none v o more gone s h e r some_more none_more = record {
  done = s.done ++ o ∷ [];
  reads = Reads-step read (items_view vs) s.done (view v) (items_view (drop (i + 1) vs)) o (rw (items_view-drop vs i v h e) at s.reads) r;
  some_is = some_more ∙ ap (λ xs. xs ++ kept (o ∷ [])) s.some_is ∙ sym (kept-append s.done (o ∷ []));
  none_is = let d = discarded-append s.done (o ∷ []) in let n = s.none_is in omega arith;
  at_most = let n = s.at_most in let m = one_at_most o in omega arith;
}

-- Of a list of items those at the front are read, and the rest are left.
pub record ReadsTo {A : Type 0} (read : Data → Option A) (vs : List Value) (i : ℕ) (done : List A) : Type 0 where
  pub reads : Reads read (items_view vs) done (items_view (drop i vs))
