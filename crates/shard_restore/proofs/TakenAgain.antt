-- An entry that is taken and decided again.
-- For the functions of the module again, and restore::restore_record.
use Rattle.std.proofs.lemmas.List.{take_all}
use Rattle.std.proofs.Math.Seq.{take-suc}
use Rattle.std.proofs.Common.{◌≡◌, ℕ, ◌+◌, ◌<◌, ◌≤◌, Bool, false, List, [], ◌∷◌, ◌++◌, length, take, get_or, add-one, Result, Ok, Err, refl, sym, ◌∙◌, ap, subst}
use Rattle.std.specs.Prelude.{OnOk}
use Rattle.otlp_types.specs.declared.arrival.Item.{Item}
use Rattle.journal_theory.specs.Journal.{Entry, Journal, IsAnswered, answered}
use Rattle.journal_theory.specs.Fate.{effect, effect_dealt}
use Rattle.journal_entry.specs.Reading.{IsEntry}
use Rattle.journal_entry.specs.declared.entry.JournalEntry.{JournalEntry}
use Rattle.shard_core.specs.Held.{Held, StandsFor, settings, has_due}
use Rattle.shard_core.specs.Taking.{entry, is_refusal, is_loss}
use Rattle.shard_core.specs.declared.answer.Taken.{Taken}
use Rattle.shard_restore.specs.Entries.{written, entry_of, AreEntries}
use Rattle.shard_restore.specs.Restoring.{IsSettled, Restores, answered_by}

-- the answers up to the next place
pub with_next : (answers : List (List Bool)) (i : ℕ) (next : List Bool) → i < length answers → next ≡ get_or answers i next → take (i + 1) answers ≡ take i answers ++ next ∷ []
with_next answers i next within is = rw (add-one) (take-suc answers i next within ∙ ap (λ (x : List Bool). take i answers ++ x ∷ []) (sym is))

-- where no trace is due, the shard is as it was
pub settles : (old new : Held) → new ≡ old
    → ((past : Journal) (dealt : ℕ) → StandsFor old past dealt → effect_dealt (settings old) past dealt ≡ effect (settings old) past)
    → ((past : Journal) (dealt : ℕ) → StandsFor old past dealt → IsAnswered (settings old) past)
    → (past : Journal) (dealt : ℕ) → StandsFor old past dealt → IsSettled new past
settles old new same all_dealt answered past dealt stands =
    subst (λ (h : Held). IsSettled h past) (sym same)
    (record { dealt = dealt; stands = stands; all_dealt = all_dealt past dealt stands; answered = answered past dealt stands })

-- the marks of the answer are those that were recorded
pub marked : (h : Held) (item : Item) (taken : Taken) (refused lost : Bool) (past : Journal) → is_refusal taken ≡ refused → is_loss taken ≡ lost
    → StandsFor h (entry item taken ∷ past) 0 → StandsFor h (record { item = item; refused = refused; lost = lost; answers = [] } ∷ past) 0
marked h item taken refused lost past r l stands =
    subst (λ (b : Bool). let e : Entry = record { item = item; refused = refused; lost = b; answers = [] } in StandsFor h (e ∷ past) 0) l
    (subst (λ (b : Bool). let e : Entry = record { item = item; refused = b; lost = is_loss taken; answers = [] } in StandsFor h (e ∷ past) 0) r stands)

-- so it is, where the marks are found so
pub taken_again : {E : Type 0} (r : Result (Unit {0}) E) (old new : Held) (item : Item) (taken : Taken) (is_refused is_lost refused lost : Bool)
    → is_refused ≡ is_refusal taken → is_lost ≡ is_loss taken → OnOk r ((is_refused ≡ refused) × (is_lost ≡ lost))
    → ((past : Journal) (dealt : ℕ) → StandsFor old past dealt → StandsFor new (entry item taken ∷ past) 0)
    → OnOk r ((past : Journal) (dealt : ℕ) → StandsFor old past dealt → StandsFor new (record { item = item; refused = refused; lost = lost; answers = [] } ∷ past) 0)
taken_again (Ok u) old new item taken is_refused is_lost refused lost r l same stands = λ past dealt s. marked new item taken refused lost past (sym r ∙ same.0) (sym l ∙ same.1) (stands past dealt s)
taken_again (Err e) old new item taken is_refused is_lost refused lost r l same stands = tt

-- before any decision
pub undecided : (h : Held) (e : Entry) (past : Journal) → e.answers ≡ [] → StandsFor h (e ∷ past) 0 → StandsFor h (answered_by e [] ∷ past) 0
undecided h e past none stands = subst (λ (a : List (List Bool)). StandsFor h (answered_by e a ∷ past) 0) none stands

-- after one more decision
pub one_more : (h : Held) (e : Entry) (past : Journal) (answers : List (List Bool)) (i : ℕ) (next : List Bool) → i < length answers → next ≡ get_or answers i next
    → StandsFor h (answered (answered_by e (take i answers) ∷ past) next) (i + 1) → StandsFor h (answered_by e (take (i + 1) answers) ∷ past) (i + 1)
one_more h e past answers i next within is stands = subst (λ (a : List (List Bool)). StandsFor h (answered_by e a ∷ past) (i + 1)) (sym (with_next answers i next within is)) stands

-- after all of them
pub all_settled : (h : Held) (e : Entry) (past : Journal) (answers : List (List Bool)) (i : ℕ) → length answers ≤ i → IsSettled h (answered_by e (take i answers) ∷ past) → IsSettled h (answered_by e answers ∷ past)
all_settled h e past answers i all settled = subst (λ (a : List (List Bool)). IsSettled h (answered_by e a ∷ past)) (take_all i answers all) settled

-- what follows from what holds where a function succeeded
pub on_ok : {E A B : Type 0} (r : Result (Unit {0}) E) → (A → B) → OnOk r A → OnOk r B
on_ok (Ok u) f a = f a
on_ok (Err e) f a = tt

-- the records with one more, and the journal with its entry
pub restores : (records : List (List ℕ)) (bytes : List ℕ) (found : JournalEntry) (old new : Held) → IsEntry bytes found
    → ((past : Journal) (dealt : ℕ) → StandsFor old past dealt → IsSettled new (entry_of found ∷ past)) → has_due new ≡ false
    → Restores records old → Restores (records ++ bytes ∷ []) new
restores records bytes found old new is goes none r = record {
  past = entry_of found ∷ r.past;
  entries = (records, bytes, refl, is, r.entries);
  settled = goes r.past r.settled.dealt r.settled.stands;
  none_due = none;
}

pub restores_on : {E : Type 0} (r : Result (Unit {0}) E) (bytes : List ℕ) (found : JournalEntry) (old new : Held) → IsEntry bytes found
    → OnOk r ((past : Journal) (dealt : ℕ) → StandsFor old past dealt → IsSettled new (entry_of found ∷ past)) → OnOk r (has_due new ≡ false)
    → OnOk r ((records : List (List ℕ)) → Restores records old → Restores (records ++ bytes ∷ []) new)
restores_on (Ok u) bytes found old new is goes none = λ records. restores records bytes found old new is goes none
restores_on (Err e) bytes found old new is goes none = tt

-- a shard that has taken nothing
pub restores_none : (h : Held) → StandsFor h [] 0 → has_due h ≡ false → Restores [] h
restores_none h stands none = record {
  past = [];
  entries = refl;
  settled = record { dealt = 0; stands = stands; all_dealt = refl; answered = tt };
  none_due = none;
}
