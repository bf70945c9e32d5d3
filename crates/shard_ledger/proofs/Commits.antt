-- What a commit makes of the journal of a ledger.
-- For entries::commit_entries.
use Rattle.std.proofs.Common.{◌≡◌, ◌⊎◌, ℕ, Bool, List, [], ◌++◌, Result, Ok, Err, sym, ap, subst, inl, inr, ⊎_elim}
use Rattle.std.specs.Prelude.{OnOk, IsTrue}
use Rattle.journal_theory.specs.Journal.{Journal}
use Rattle.ledger_file.specs.Format.{records_of}
use Rattle.ledger_file.specs.Ledger.{pending_of, disk_of, Has, HasFirstOrBoth}
use Rattle.ledger_file.specs.declared.ledger.Ledger.{Ledger}
use Rattle.shard_restore.specs.Entries.{AreEntries}
use Rattle.shard_ledger.specs.Journals.{HasJournal, HasAllOrNone, FileHas}
use Rattle.shard_ledger.proofs.Journals.{are_both}

-- what follows from what holds where a function succeeded
pub on_ok : {E A B : Type 0} (r : Result (Unit {0}) E) → (A → B) → OnOk r A → OnOk r B
on_ok (Ok u) f a = f a
on_ok (Err e) f a = tt

pub on_both : {E A B C : Type 0} (r : Result (Unit {0}) E) → (A → B → C) → OnOk r A → OnOk r B → OnOk r C
on_both (Ok u) f a b = f a b
on_both (Err e) f a b = tt

-- a file has the entries that its records are
pub has_found : (file : List ℕ) (records : List (List ℕ)) (past : Journal) → records_of file ≡ records → AreEntries records past → FileHas file past
has_found file records past found are = subst (λ (r : List (List ℕ)). AreEntries r past) (sym found) are

-- all that was committed, and all that waited
pub has_both : {D : Type 0} (seen : D → List ℕ) (is_clean : D → Bool) (old : Ledger D) (parameters file : List ℕ) → Has parameters (records_of (seen (disk_of old)) ++ pending_of old) file
    → (early late : Journal) → HasJournal seen is_clean old early late → IsTrue (is_clean (disk_of old)) → FileHas file (late ++ early)
has_both seen is_clean old parameters file has early late journal clean =
    has_found file (records_of (seen (disk_of old)) ++ pending_of old) (late ++ early) has.found
    (are_both late early (pending_of old) (records_of (seen (disk_of old))) journal.waiting (journal.stored clean))

-- the first, or both
pub has_first_or_both : {D : Type 0} (seen : D → List ℕ) (is_clean : D → Bool) (old : Ledger D) (file : List ℕ) → HasFirstOrBoth (records_of (seen (disk_of old))) (pending_of old) file
    → (early late : Journal) → HasJournal seen is_clean old early late → IsTrue (is_clean (disk_of old)) → HasAllOrNone early late file
has_first_or_both seen is_clean old file left early late journal clean =
    ⊎_elim
    (λ (first : records_of file ≡ records_of (seen (disk_of old))). inl (has_found file (records_of (seen (disk_of old))) early first (journal.stored clean)))
    (λ (both : records_of file ≡ records_of (seen (disk_of old)) ++ pending_of old).
    inr (has_found file (records_of (seen (disk_of old)) ++ pending_of old) (late ++ early) both
    (are_both late early (pending_of old) (records_of (seen (disk_of old))) journal.waiting (journal.stored clean))))
    left

-- the ledger after it
pub goes_on : {D : Type 0} (seen : D → List ℕ) (is_clean : D → Bool) (old new : Ledger D) → is_clean (disk_of new) ≡ is_clean (disk_of old) → (early late : Journal)
    → (IsTrue (is_clean (disk_of old)) → FileHas (seen (disk_of new)) (late ++ early)) → pending_of new ≡ [] → HasJournal seen is_clean new (late ++ early) []
goes_on seen is_clean old new same early late has none = record {
  stored = λ clean. has (subst IsTrue same clean);
  waiting = none;
}
