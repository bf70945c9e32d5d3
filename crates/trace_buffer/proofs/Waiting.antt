-- How many episodes wait, and how many spans they have.
-- For the contract of `waiting_in`.
use Rattle.std.proofs.Common.{◌≡◌, ℕ, zero, suc, ◌+◌, ◌-◌, ◌^◌, ◌≤◌, ◌<◌, min, Bool, true, false, if◌then◌else◌, List, [], ◌∷◌, length, drop, Some, is_none, refl, ap, ◌∙◌, arith}
use Rattle.std.specs.List.{slice_get}
use Rattle.trace_buffer.specs.Buffer.{Episode, traces_waiting, spans_waiting}

is-same : {X : Type 0} (x y : X) → Some x ≡ Some y → x ≡ y
is-same x y h = cc

-- what was counted up to a place, with those that are left, is the whole
abbrev pub Counted : List Episode → (place traces spans : ℕ) → Type 0
Counted es place traces spans =
    (traces ≤ place)
    × (spans < 2 ^ 64)
    × (traces + traces_waiting (drop place es) ≡ traces_waiting es)
    × (min (spans + spans_waiting (drop place es)) (2 ^ 64 - 1) ≡ min (spans_waiting es) (2 ^ 64 - 1))

traces-left : (es : List Episode) (k : ℕ) (e : Episode) → slice_get es k ≡ Some e → traces_waiting (drop k es) ≡ (if is_none e.verdict then 1 else 0) + traces_waiting (drop (suc k) es)
traces-left [] k e h = cc
traces-left (x ∷ xs) zero e h = ap (λ (y : Episode). (if is_none y.verdict then 1 else 0) + traces_waiting xs) (is-same x e h)
traces-left (x ∷ xs) (suc k) e h = traces-left xs k e h

spans-left : (es : List Episode) (k : ℕ) (e : Episode) → slice_get es k ≡ Some e → spans_waiting (drop k es) ≡ (if is_none e.verdict then length e.spans else 0) + spans_waiting (drop (suc k) es)
spans-left [] k e h = cc
spans-left (x ∷ xs) zero e h = ap (λ (y : Episode). (if is_none y.verdict then length y.spans else 0) + spans_waiting xs) (is-same x e h)
spans-left (x ∷ xs) (suc k) e h = spans-left xs k e h

traces-step : (b : Bool) (place traces rest whole : ℕ) → traces ≤ place → traces + ((if b then 1 else 0) + rest) ≡ whole → (traces + (if b then 1 else 0) ≤ place + 1) × (traces + (if b then 1 else 0) + rest ≡ whole)
traces-step true place traces rest whole within all = (omega (arith, within), omega (arith, all))
traces-step false place traces rest whole within all = (omega (arith, within), omega (arith, all))

spans-step : (most spans more rest whole : ℕ) → min (spans + (more + rest)) most ≡ min whole most → min (min (spans + more) most + rest) most ≡ min whole most
spans-step most spans more rest whole h = omega (arith, h)

pub counted-next : (es : List Episode) (k traces spans : ℕ) (e : Episode) → slice_get es k ≡ Some e → Counted es k traces spans
    → Counted es (k + 1) (traces + (if is_none e.verdict then 1 else 0)) (min (spans + (if is_none e.verdict then length e.spans else 0)) (2 ^ 64 - 1))
counted-next es k traces spans e found (within, fits, all, sum) =
    let after : k + 1 ≡ suc k = omega arith in
    let some : (traces + (if is_none e.verdict then 1 else 0) ≤ k + 1) × (traces + (if is_none e.verdict then 1 else 0) + traces_waiting (drop (suc k) es) ≡ traces_waiting es)
    = traces-step (is_none e.verdict) k traces (traces_waiting (drop (suc k) es)) (traces_waiting es) within (rw (traces-left es k e found) at all) in (
      some.0,
      below (2 ^ 64 - 1) (spans + (if is_none e.verdict then length e.spans else 0)),
      ap (λ n. traces + (if is_none e.verdict then 1 else 0) + traces_waiting (drop n es)) after ∙ some.1,
      ap (λ n. min (min (spans + (if is_none e.verdict then length e.spans else 0)) (2 ^ 64 - 1) + spans_waiting (drop n es)) (2 ^ 64 - 1)) after
          ∙ spans-step (2 ^ 64 - 1) spans (if is_none e.verdict then length e.spans else 0) (spans_waiting (drop (suc k) es)) (spans_waiting es) (rw (spans-left es k e found) at sum),
    )
  where
    below : (most n : ℕ) → min n most < suc most
    below most n = omega arith

drop-all : {X : Type 0} (xs : List X) (k : ℕ) → length xs ≤ k → drop k xs ≡ []
drop-all [] zero h = refl
drop-all [] (suc k) h = refl
drop-all (x ∷ xs) zero h = absurd (omega (arith, h))
drop-all (x ∷ xs) (suc k) h = drop-all xs k (omega (arith, h))

pub counted-all : (es : List Episode) (k traces spans : ℕ) → length es ≤ k → Counted es k traces spans
    → (traces ≡ traces_waiting es) × (spans ≡ min (spans_waiting es) (2 ^ 64 - 1))
counted-all es k traces spans end (within, fits, all, sum) =
    let none : drop k es ≡ [] = drop-all es k end in
    let counted : traces + 0 ≡ traces_waiting es = rw none at all in
    let summed : min (spans + 0) (2 ^ 64 - 1) ≡ min (spans_waiting es) (2 ^ 64 - 1) = rw none at sum in
    (omega (arith, counted), min-least (2 ^ 64 - 1) spans (omega (arith, fits)) ∙ summed)
  where
    min-least : (most n : ℕ) → n ≤ most → n ≡ min (n + 0) most
    min-least most n h = omega (arith, h)
