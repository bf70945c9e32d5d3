-- What more calls tell of those before them.
-- For the contract of a shard's thread.
use Rattle.std.proofs.Common.{◌≡◌, ℕ, Bool, true, false, List, [], ◌∷◌, ◌++◌, cond, refl, ap, ◌∙◌}
use Rattle.std.specs.Prelude.{◌==◌}
use Rattle.lane_queue.specs.declared.calls.Call.{Call}
use Rattle.lane_queue.specs.declared.calls.Call.TheVariants.{Popped, FoundEmpty}
use Rattle.lane_queue.specs.Calls.{pops_of, is_empty_after}

pub pops-append : (xs ys : List Call) → pops_of (xs ++ ys) ≡ pops_of xs ++ pops_of ys
pops-append [] ys = refl
pops-append (Popped place ∷ xs) ys = ap (λ l. place ∷ l) (pops-append xs ys)
pops-append (FoundEmpty place ∷ xs) ys = pops-append xs ys

pub empty-append : (place : ℕ) (before : Bool) (xs ys : List Call) → is_empty_after place before (xs ++ ys) ≡ is_empty_after place (is_empty_after place before xs) ys
empty-append place before [] ys = refl
empty-append place before (Popped k ∷ xs) ys = empty-append place (cond (k == place) false before) xs ys
empty-append place before (FoundEmpty k ∷ xs) ys = empty-append place (cond (k == place) true before) xs ys

-- what is known to be empty after some calls is so, too, where it was known before
pub still_empty : (place : ℕ) (xs : List Call) → is_empty_after place false xs ≡ true → (before : Bool) → is_empty_after place before xs ≡ true
still_empty place [] is before = absurd (let no : false ≡ true = is in cc)
still_empty place (Popped k ∷ xs) is before = either (k == place) (λ h. still_empty place xs h before) is where
  either : (b : Bool) → (is_empty_after place false xs ≡ true → is_empty_after place before xs ≡ true) → is_empty_after place (cond b false false) xs ≡ true → is_empty_after place (cond b false before) xs ≡ true
  either true later h = h
  either false later h = later h
still_empty place (FoundEmpty k ∷ xs) is before = either (k == place) (λ h. still_empty place xs h before) is where
  either : (b : Bool) → (is_empty_after place false xs ≡ true → is_empty_after place before xs ≡ true) → is_empty_after place (cond b true false) xs ≡ true → is_empty_after place (cond b true before) xs ≡ true
  either true later h = h
  either false later h = later h
