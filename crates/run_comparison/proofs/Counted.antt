-- Traces that are counted one after the other are all counted.
-- For the contracts of `overlap_of`, `of_old` and `with_new`.
use Rattle.std.proofs.Common.{◌≡◌, ◌∙◌, ◌+◌, ◌-◌, ◌^◌, min, ℕ, Bool, true, false, cond, List, [], ◌∷◌, ◌++◌, map, fold, drop, refl, sym, ap, append_assoc, append-nil, arith}
use Rattle.std.proofs.lemmas.List.{drop_more, map-append}
use Rattle.std.proofs.lemmas.List.Sums.{sum_by-append}
use Rattle.std.proofs.lemmas.Option.{slice_get_within, get_or_from_slice_get}
use Rattle.std.specs.Prelude.{Some, count_by, is_none, slice_get, sum_by}
use Rattle.std.specs.Map.{keys_of}
use Rattle.span_ids.specs.declared.ids.TraceId.{TraceId}
use Rattle.run_comparison.specs.Amount.{capped}
use Rattle.run_comparison.specs.Ends.{Traces, end_of}
use Rattle.run_comparison.specs.declared.overlap.KeptBy.{KeptBy}
use Rattle.run_comparison.specs.declared.overlap.KeptBy.TheVariants.{Both, OnlyOld, OnlyNew, Neither, Unknown}
use Rattle.run_comparison.specs.declared.overlap.Overlap.{Overlap}
use Rattle.run_comparison.specs.Overlaps.{counted, counted_more, ended_in_new, fold_kept, fold_new_kept, is_both, is_neither, is_only_new, is_only_old, is_unknown, nobody, overlap_of, trace_kept_by}

-- ---- one more

count-snoc : (p : KeptBy → Bool) (xs : List KeptBy) (y : KeptBy) → count_by p (xs ++ y ∷ []) ≡ count_by p xs + (0 + cond (p y) 1 0)
count-snoc p xs y = sum_by-append (λ x. cond (p x) 1 0) xs (y ∷ [])

one-more : (p : KeptBy → Bool) (xs : List KeptBy) (y : KeptBy) → p y ≡ true → capped (capped (count_by p xs) + 1) ≡ capped (count_by p (xs ++ y ∷ []))
one-more p xs y h =
    let e : count_by p (xs ++ y ∷ []) ≡ count_by p xs + (0 + 1) = count-snoc p xs y ∙ ap (λ b. count_by p xs + (0 + cond b 1 0)) h in
    capped-more (count_by p xs) ∙ ap capped (sym e)
  where
    capped-more : (n : ℕ) → capped (capped n + 1) ≡ capped (n + (0 + 1))
    capped-more n = omega arith

same : (p : KeptBy → Bool) (xs : List KeptBy) (y : KeptBy) → p y ≡ false → capped (count_by p xs) ≡ capped (count_by p (xs ++ y ∷ []))
same p xs y h =
    let e : count_by p (xs ++ y ∷ []) ≡ count_by p xs + (0 + 0) = count-snoc p xs y ∙ ap (λ b. count_by p xs + (0 + cond b 1 0)) h in
    capped-same (count_by p xs) ∙ ap capped (sym e)
  where
    capped-same : (n : ℕ) → capped n ≡ capped (n + (0 + 0))
    capped-same n = omega arith

snoc : (xs : List KeptBy) (y : KeptBy) → counted_more (counted xs) y ≡ counted (xs ++ y ∷ [])
snoc xs Both = λ i. record { both = one-more is_both xs Both refl i; only_old = same is_only_old xs Both refl i; only_new = same is_only_new xs Both refl i; none = same is_neither xs Both refl i; unknown = same is_unknown xs Both refl i }
snoc xs OnlyOld = λ i. record { both = same is_both xs OnlyOld refl i; only_old = one-more is_only_old xs OnlyOld refl i; only_new = same is_only_new xs OnlyOld refl i; none = same is_neither xs OnlyOld refl i; unknown = same is_unknown xs OnlyOld refl i }
snoc xs OnlyNew = λ i. record { both = same is_both xs OnlyNew refl i; only_old = same is_only_old xs OnlyNew refl i; only_new = one-more is_only_new xs OnlyNew refl i; none = same is_neither xs OnlyNew refl i; unknown = same is_unknown xs OnlyNew refl i }
snoc xs Neither = λ i. record { both = same is_both xs Neither refl i; only_old = same is_only_old xs Neither refl i; only_new = same is_only_new xs Neither refl i; none = one-more is_neither xs Neither refl i; unknown = same is_unknown xs Neither refl i }
snoc xs Unknown = λ i. record { both = same is_both xs Unknown refl i; only_old = same is_only_old xs Unknown refl i; only_new = same is_only_new xs Unknown refl i; none = same is_neither xs Unknown refl i; unknown = one-more is_unknown xs Unknown refl i }

-- ---- all

all : (xs ys : List KeptBy) → fold counted_more (counted xs) ys ≡ counted (xs ++ ys)
all xs [] = ap counted (sym (append-nil xs))
all xs (y ∷ ys) = ap (λ o. fold counted_more o ys) (snoc xs y) ∙ all (xs ++ y ∷ []) ys ∙ ap counted (append_assoc xs (y ∷ []) ys)

module _ (old new : Traces) where
  of-traces : (o : Overlap) (traces : List TraceId) → fold_kept old new o traces ≡ fold counted_more o (map (trace_kept_by old new) traces)
  of-traces o [] = refl
  of-traces o (t ∷ ts) = of-traces (counted_more o (trace_kept_by old new t)) ts

  in-a-row : (o : Overlap) (xs ys : List TraceId) → fold_kept old new (fold_kept old new o xs) ys ≡ fold_kept old new o (xs ++ ys)
  in-a-row o [] ys = refl
  in-a-row o (x ∷ xs) ys = in-a-row (counted_more o (trace_kept_by old new x)) xs ys

  -- those that haven't ended in the old run are counted, one after the other
  of-new : (o : Overlap) (traces : List TraceId) → fold_new_kept old new o traces ≡ fold_kept old new o (ended_in_new old traces)
  of-new o [] = refl
  of-new o (t ∷ ts) = (elim (is_none (end_of old.ends t)) as (λ b. fold_new_kept old new (cond b (counted_more o (trace_kept_by old new t)) o) ts ≡ fold_kept old new o (cond b (t ∷ ended_in_new old ts) (ended_in_new old ts))) [
    | true ↦ of-new (counted_more o (trace_kept_by old new t)) ts
    | false ↦ of-new o ts
  ])

  pub all_counted : fold_new_kept old new (fold_kept old new nobody (keys_of old.ends)) (keys_of new.ends) ≡ overlap_of old new
  all_counted =
      let traces : List TraceId = keys_of old.ends ++ ended_in_new old (keys_of new.ends) in
      of-new (fold_kept old new nobody (keys_of old.ends)) (keys_of new.ends)
      ∙ in-a-row nobody (keys_of old.ends) (ended_in_new old (keys_of new.ends)) ∙ of-traces nobody traces ∙ all [] (map (trace_kept_by old new) traces)

-- ---- a list from a place on

pub drop_at : (xs : List TraceId) (i : ℕ) (x : TraceId) → slice_get xs i ≡ Some x → drop i xs ≡ x ∷ drop (i + 1) xs
drop_at xs i x h = drop_more xs i x (slice_get_within xs i x h) ∙ ap (λ (y : TraceId). y ∷ drop (i + 1) xs) (get_or_from_slice_get xs i x x h)
