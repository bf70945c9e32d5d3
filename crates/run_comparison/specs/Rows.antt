-- Policies and services of two runs, side by side, and the same steps of time.
use Rattle.std.specs.Prelude.{ℕ, Bool, false, List, [], ◌∷◌, ◌++◌, ◌+◌, map, ◌==◌, if◌then◌else◌, is_none, ◌||◌, not, Option, None, Some, option_and_then, slice_get, slice_index_or}
use Rattle.std.specs.Option.{option_map_or}
use Rattle.run_comparison.specs.declared.amount.Amount.{Amount}
use Rattle.run_comparison.specs.declared.rows.PolicyRow.{PolicyRow}
use Rattle.run_comparison.specs.declared.rows.ServiceRow.{ServiceRow}
use Rattle.run_comparison.specs.Names.{place_of}
use Rattle.run_comparison.specs.Run.{Run}
use Rattle.run_comparison.specs.Services.{Services}
use Rattle.run_comparison.specs.Timeline.{Timeline, covering}

-- ---- policies

-- a policy, and what it kept in each run in which it stands
pub record PolicyKept : Type 0 where
  pub name : List ℕ
  pub old : Option Amount
  pub new : Option Amount

abbrev pub seen_policy : PolicyRow → PolicyKept
seen_policy row = record { name = row.name.now; old = row.old; new = row.new }

-- whether the policy at a place is the first of its name
abbrev pub is_first : (names : List (List ℕ)) (name : List ℕ) (place : ℕ) → Bool
is_first names name place = option_map_or (λ (first : ℕ). first == place) (place_of names name) false

-- what the policy at a place kept
abbrev pub amount_at : Run → (place : ℕ) → Option Amount
amount_at run place = slice_get run.policies.by_place place

-- what the first policy of a name kept, beside the first of that name in the other run
abbrev pub beside : (run : Run) (first : Bool) (name : List ℕ) → Option Amount
beside run first name = if first then option_and_then (amount_at run) (place_of run.names name) else None

-- the policy of the old run at a place, beside the first of its name in the new one, if it is the first
abbrev pub old_policy : (old new : Run) (place : ℕ) (name : List ℕ) → PolicyKept
old_policy old new place name = record { name = name; old = amount_at old place; new = beside new (is_first old.names name place) name }

-- the policies of the old run from a place on, behind others
abbrev pub with_old_policies : (old new : Run) (place : ℕ) (names : List (List ℕ)) → List PolicyKept → List PolicyKept
with_old_policies old new place [] rows = rows
with_old_policies old new place (name ∷ names) rows = with_old_policies old new (place + 1) names (rows ++ old_policy old new place name ∷ [])

-- whether a policy of the new run stands beside none of the old one
abbrev pub stands_alone : (old new : Run) (place : ℕ) (name : List ℕ) → Bool
stands_alone old new place name = not (is_first new.names name place) || is_none (place_of old.names name)

-- the policy of the new run at a place, behind others, where it stands beside none
abbrev pub with_new_policy : (old new : Run) (place : ℕ) (name : List ℕ) → List PolicyKept → List PolicyKept
with_new_policy old new place name rows =
    if stands_alone old new place name then rows ++ record { name = name; old = None; new = amount_at new place } ∷ [] else rows

-- those of the new run from a place on that stand beside none, behind others
abbrev pub with_new_policies : (old new : Run) (place : ℕ) (names : List (List ℕ)) → List PolicyKept → List PolicyKept
with_new_policies old new place [] rows = rows
with_new_policies old new place (name ∷ names) rows = with_new_policies old new (place + 1) names (with_new_policy old new place name rows)

-- the policies of both: those of the old run, and then those of the new one that stand beside none
abbrev pub policy_rows : (old new : Run) → List PolicyKept
policy_rows old new = with_new_policies old new 0 new.names (with_old_policies old new 0 old.names [])

-- ---- services

-- a service, and how many of its spans each run kept
pub record ServiceKept : Type 0 where
  pub name : List ℕ
  pub old : ℕ
  pub new : ℕ

abbrev pub seen_service : ServiceRow → ServiceKept
seen_service row = record { name = row.name.now; old = row.old; new = row.new }

-- how many spans of a service were kept, where it has a place
abbrev pub spans_of : Services → (name : List ℕ) → ℕ
spans_of s name = option_map_or (λ (place : ℕ). slice_index_or s.spans place 0) (place_of s.names name) 0

-- the service of the old run at a place, beside that of its name in the new one
abbrev pub old_service : (old new : Services) (place : ℕ) (name : List ℕ) → ServiceKept
old_service old new place name = record { name = name; old = slice_index_or old.spans place 0; new = spans_of new name }

-- the services of the old run from a place on, behind others
abbrev pub with_old_services : (old new : Services) (place : ℕ) (names : List (List ℕ)) → List ServiceKept → List ServiceKept
with_old_services old new place [] rows = rows
with_old_services old new place (name ∷ names) rows = with_old_services old new (place + 1) names (rows ++ old_service old new place name ∷ [])

-- the service of the new run at a place, behind others, where it has none in the old one
abbrev pub with_new_service : (old new : Services) (place : ℕ) (name : List ℕ) → List ServiceKept → List ServiceKept
with_new_service old new place name rows =
    if is_none (place_of old.names name) then rows ++ record { name = name; old = 0; new = slice_index_or new.spans place 0 } ∷ [] else rows

-- those of the new run from a place on that have none in the old one, behind others
abbrev pub with_new_services : (old new : Services) (place : ℕ) (names : List (List ℕ)) → List ServiceKept → List ServiceKept
with_new_services old new place [] rows = rows
with_new_services old new place (name ∷ names) rows = with_new_services old new (place + 1) names (with_new_service old new place name rows)

-- the services of both: those of the old run, and then those of the new one alone
abbrev pub service_rows : (old new : Services) → List ServiceKept
service_rows old new = with_new_services old new 0 new.names (with_old_services old new 0 old.names [])

-- ---- steps

-- the steps of one run reach as far as those of the other, too
abbrev pub covering_those_of : (of other : Timeline) → Timeline
covering_those_of of other = if other.any then covering of other.from other.to else of

-- the steps of both runs, from the earliest moment of both to the latest
abbrev pub same_steps : (old new : Timeline) → Timeline × Timeline
same_steps old new = (covering_those_of old new, covering_those_of new old)
