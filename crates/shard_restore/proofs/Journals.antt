-- The records of a journal are that journal's alone.
-- For the laws.
use Rattle.std.proofs.Common.{◌≡◌, ℕ, List, [], ◌∷◌, ◌++◌, refl, sym, ◌∙◌, ap, subst}
use Rattle.journal_theory.specs.Journal.{Entry, Journal}
use Rattle.journal_entry.specs.Bytes.{bytes_of_entry}
use Rattle.journal_entry.specs.Reading.{IsEntry}
use Rattle.journal_entry.specs.ReadsBack.{EntriesAreRead}
use Rattle.journal_entry.specs.declared.entry.JournalEntry.{JournalEntry}
use Rattle.shard_restore.specs.Entries.{written, entry_of, records_of_journal, AreEntries, ReadBack, RecordsTellJournals}

-- the last record, and those before it
snoc_is : (xs ys : List (List ℕ)) (x y : List ℕ) → xs ++ x ∷ [] ≡ ys ++ y ∷ [] → (xs ≡ ys) × (x ≡ y)
snoc_is [] [] x y same = (refl, cc)
snoc_is [] (b ∷ []) x y same = absurd (cc)
snoc_is [] (b ∷ c ∷ ys) x y same = absurd (cc)
snoc_is (a ∷ []) [] x y same = absurd (cc)
snoc_is (a ∷ c ∷ xs) [] x y same = absurd (cc)
snoc_is (a ∷ xs) (b ∷ ys) x y same =
    let tails : xs ++ x ∷ [] ≡ ys ++ y ∷ [] = cc in
    let rest : (xs ≡ ys) × (x ≡ y) = snoc_is xs ys x y tails in
    (let head : a ≡ b = cc in cc, rest.1)

not_none : (xs : List (List ℕ)) (x : List ℕ) → xs ++ x ∷ [] ≡ [] → ⊥
not_none [] x same = cc
not_none (a ∷ xs) x same = cc

pub records_tell : EntriesAreRead → RecordsTellJournals
records_tell read [] [] back is = refl
records_tell read [] (f ∷ q) back (earlier, bytes, same, is, rest) = absurd (not_none earlier bytes (sym same))
records_tell read (e ∷ before) [] back is = absurd (not_none (records_of_journal before) (bytes_of_entry (written e)) is)
records_tell read (e ∷ before) (f ∷ q) back (earlier, bytes, same, is, rest) =
    let parts : (records_of_journal before ≡ earlier) × (bytes_of_entry (written e) ≡ bytes) = snoc_is (records_of_journal before) earlier (bytes_of_entry (written e)) bytes same in
    let one : written f ≡ written e = (read (written e) back.0).1 (written f) (subst (λ (b : List ℕ). IsEntry b (written f)) (sym parts.1) is) in
    let past : q ≡ before = records_tell read before q back.1 (subst (λ (r : List (List ℕ)). AreEntries r q) (sym parts.0) rest) in
    ap (λ (j : JournalEntry). entry_of j ∷ q) one ∙ ap (λ (p : Journal). e ∷ p) past
