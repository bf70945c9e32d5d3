-- What a shard has become by the records of its ledger. For private clauses.
use Rattle.std.specs.Prelude.{ℕ, ◌≡◌, ◌-◌, ◌^◌, min, List, [], length, refl}
use Rattle.shard_core.specs.Held.{settings}
use Rattle.shard_restore.specs.Restoring.{Restores}
use Rattle.shard_ledger.specs.declared.restoring.Restoring.{Restoring}

-- the shard that had taken nothing is restored from these records, which were counted up to 2^64-1
pub record HasRestored (first : Restoring) (records : List (List ℕ)) (now : Restoring) : Type 0 where
  pub restores : Restores [] first.shard → Restores records now.shard
  pub settings : settings now.shard ≡ settings first.shard
  pub counted : first.entries ≡ 0 → now.entries ≡ min (length records) (2 ^ 64 - 1)

pub has_restored_none : (s : Restoring) → HasRestored s [] s
has_restored_none s = record { restores = λ r. r; settings = refl; counted = λ none. none }
