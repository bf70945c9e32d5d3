-- The spans that were kept over time.
use Rattle.std.specs.Prelude.{ℕ, zero, suc, ◌+◌, ◌-◌, ◌*◌, ◌/◌, ◌==◌, Bool, true, false, List, [], ◌∷◌, if◌then◌else◌, nat_lt, min, max, ◌||◌, not, take, Option, None, Some}
use Rattle.run_comparison.specs.Amount.{capped}
use Rattle.run_comparison.specs.Numbers.{more_at, zeros}
use Rattle.run_comparison.specs.declared.steps.TheConstants.{LEAST_STEP, MOST_STEPS, DOUBLINGS}

-- whether there was a moment, the earliest and the latest one, the width of a step, and the spans of each step, the
-- first of which is that of the earliest moment; moments and widths are in milliseconds
pub record Timeline : Type 0 where
  pub any : Bool
  pub from : ℕ
  pub to : ℕ
  pub width : ℕ
  pub counts : List ℕ

-- how many steps of a width a moment is behind an earlier one
abbrev pub steps_between : (from moment width : ℕ) → ℕ
steps_between from moment width = moment / width - from / width

-- the least of a width and so many of its doublings by which two moments are fewer than the most steps apart, or else
-- the last of them
unfoldable pub least_doubling : (doublings : ℕ) → (from to width : ℕ) → ℕ
least_doubling zero from to width = width
least_doubling (suc n) from to width = if nat_lt (steps_between from to width) MOST_STEPS then width else least_doubling n from to (capped (width * 2))

-- the width of steps from one moment to another
abbrev pub width_for : (from to : ℕ) → ℕ
width_for from to = least_doubling DOUBLINGS from to LEAST_STEP

-- nothing was kept
abbrev pub no_steps : Timeline
no_steps = record { any = false; from = 0; to = 0; width = LEAST_STEP; counts = zeros MOST_STEPS }

-- the spans of steps of one width, of which the first has this number, in steps of another width, of which the first is
-- that of a moment
abbrev pub regridded : (earlier : List ℕ) → (first width : ℕ) → (from wider : ℕ) → List ℕ → List ℕ
regridded [] first width from wider counts = counts
regridded (spans ∷ rest) first width from wider counts =
    regridded rest (capped (first + 1)) width from wider (more_at counts (steps_between from (capped (first * width)) wider) spans)

-- the steps reach from one moment to another too
abbrev pub covering : Timeline → (from to : ℕ) → Timeline
covering t from to =
    if t.any
    then (
    let earliest = min t.from from in
    let latest = max t.to to in
    let wider = width_for earliest latest in
    record { any = true; from = earliest; to = latest; width = wider; counts = regridded t.counts (t.from / t.width) t.width earliest wider (zeros MOST_STEPS) }
    )
    else record { any = true; from = from; to = to; width = width_for from to; counts = t.counts }

-- the steps reach a moment
abbrev pub reaching : Timeline → (moment : ℕ) → Timeline
reaching t moment = if not t.any || (nat_lt moment t.from || nat_lt t.to moment) then covering t moment moment else t

-- so many spans more in the step of a moment that the steps reach
abbrev pub more_in : Timeline → (moment spans : ℕ) → Timeline
more_in t moment spans = record { any = t.any; from = t.from; to = t.to; width = t.width; counts = more_at t.counts (steps_between t.from moment t.width) spans }

-- so many spans were kept at a moment
abbrev pub with_spans_at : Timeline → (moment spans : ℕ) → Timeline
with_spans_at t moment spans = if spans == 0 then t else more_in (reaching t moment) moment spans

-- when the first step begins
abbrev pub begin_of : Timeline → ℕ
begin_of t = capped (t.from / t.width * t.width)

-- the spans of each step, from that of the earliest moment to that of the latest
abbrev pub counts_of : Timeline → List ℕ
counts_of t = if t.any then take (steps_between t.from t.to t.width + 1) t.counts else []

-- the earliest and the latest moment, where there was one
abbrev pub range_of : Timeline → Option (ℕ × ℕ)
range_of t = if t.any then Some (t.from, t.to) else None
