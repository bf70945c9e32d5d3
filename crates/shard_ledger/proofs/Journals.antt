-- Which journal records are, and one that goes on from another.
-- For the laws, and the clauses of entries::commit_entries.
use Rattle.std.proofs.Common.{◌≡◌, ◌⊎◌, ℕ, List, [], ◌∷◌, ◌++◌, refl, sym, ◌∙◌, ap, subst, append_assoc, inl, inr, ⊎_elim}
use Rattle.std.proofs.lemmas.List.{append-nil}
use Rattle.journal_theory.specs.Journal.{Entry, Journal}
use Rattle.journal_entry.specs.Reading.{IsEntry}
use Rattle.journal_entry.specs.ReadsBack.{BytesAreOneEntry}
use Rattle.journal_entry.specs.declared.entry.JournalEntry.{JournalEntry}
use Rattle.ledger_file.specs.Format.{records_of}
use Rattle.shard_core.specs.Held.{Held}
use Rattle.shard_restore.specs.Entries.{written, entry_of, AreEntries}
use Rattle.shard_restore.specs.Restoring.{IsSettled, Restores}
use Rattle.shard_ledger.specs.Journals.{EntriesTellJournals, AllOrNoneIsRestored, HasAllOrNone, FileHas}

-- the last record, and those before it
snoc_is : (xs ys : List (List ℕ)) (x y : List ℕ) → xs ++ x ∷ [] ≡ ys ++ y ∷ [] → (xs ≡ ys) × (x ≡ y)
snoc_is [] [] x y same = (refl, cc)
snoc_is [] (b ∷ []) x y same = absurd (cc)
snoc_is [] (b ∷ c ∷ ys) x y same = absurd (cc)
snoc_is (a ∷ []) [] x y same = absurd (cc)
snoc_is (a ∷ c ∷ xs) [] x y same = absurd (cc)
snoc_is (a ∷ xs) (b ∷ ys) x y same =
    let tails : xs ++ x ∷ [] ≡ ys ++ y ∷ [] = cc in
    let rest : (xs ≡ ys) × (x ≡ y) = snoc_is xs ys x y tails in
    (let head : a ≡ b = cc in cc, rest.1)

not_none : (xs : List (List ℕ)) (x : List ℕ) → xs ++ x ∷ [] ≡ [] → ⊥
not_none [] x same = cc
not_none (a ∷ xs) x same = cc

-- records that are the entries of two journals
pub one_journal : BytesAreOneEntry → EntriesTellJournals
one_journal one records [] [] none also = refl
one_journal one records [] (f ∷ q) none (earlier, bytes, same, is, rest) = absurd (not_none earlier bytes (sym same ∙ none))
one_journal one records (e ∷ p) [] (earlier, bytes, same, is, rest) none = absurd (not_none earlier bytes (sym same ∙ none))
one_journal one records (e ∷ p) (f ∷ q) (earlier, bytes, same, is, rest) (earlier', bytes', same', is', rest') =
    let parts : (earlier' ≡ earlier) × (bytes' ≡ bytes) = snoc_is earlier' earlier bytes' bytes (sym same' ∙ same) in
    let first : written f ≡ written e = one bytes (written f) (written e) (subst (λ (b : List ℕ). IsEntry b (written f)) parts.1 is') is in
    let past : q ≡ p = one_journal one earlier p q rest (subst (λ (r : List (List ℕ)). AreEntries r q) parts.0 rest') in
    ap (λ (j : JournalEntry). entry_of j ∷ q) first ∙ ap (λ (l : Journal). e ∷ l) past

-- the records of a journal that goes on from another
pub are_both : (late early : Journal) (waiting stored : List (List ℕ)) → AreEntries waiting late → AreEntries stored early → AreEntries (stored ++ waiting) (late ++ early)
are_both [] early waiting stored none are =
    subst (λ (r : List (List ℕ)). AreEntries r early) (sym (ap (λ (r : List (List ℕ)). stored ++ r) none ∙ append-nil stored)) are
are_both (e ∷ late) early waiting stored (earlier, bytes, same, is, rest) are =
    (stored ++ earlier, bytes, ap (λ (r : List (List ℕ)). stored ++ r) same ∙ sym (append_assoc stored earlier (bytes ∷ [])), is, are_both late early earlier stored rest are)

-- what is restored stands for the journal that the file has
pub settled_by : EntriesTellJournals → (past : Journal) (file : List ℕ) (shard : Held) → FileHas file past → Restores (records_of file) shard → IsSettled shard past
settled_by tell past file shard has restored =
    subst (λ (p : Journal). IsSettled shard p) (tell (records_of file) past restored.past has restored.entries) restored.settled

pub all_or_none : EntriesTellJournals → AllOrNoneIsRestored
all_or_none tell early late file shard left restored =
    ⊎_elim
    (λ (none : FileHas file early). inl (settled_by tell early file shard none restored))
    (λ (all : FileHas file (late ++ early)). inr (settled_by tell (late ++ early) file shard all restored))
    left
