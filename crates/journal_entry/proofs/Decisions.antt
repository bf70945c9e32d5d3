-- The limiter's answers are read one byte at a time, from the front.
-- For answers::decisions_at.
use Rattle.std.proofs.Common.{◌≡◌, ℕ, ◌+◌, ◌<◌, ◌≤◌, ◌≢◌, suc, Bool, true, false, List, [], ◌∷◌, ◌++◌, length, drop, get_or, Ok, Err, cond, refl, sym, ◌∙◌, ap, arith, append_assoc, add-one}
use Rattle.std.proofs.lemmas.List.{append-nil, drop_all}
use Rattle.std.proofs.Math.Seq.{drop-cons}
use Rattle.journal_entry.specs.declared.error.EntryError.{EntryError}
use Rattle.std.proofs.lemmas.Bool.Decides.{nat_tests}
use Rattle.std.specs.Prelude.{◌==◌, nat_lt}
use Rattle.journal_entry.specs.declared.error.EntryError.TheVariants as faults
use Rattle.journal_entry.specs.Reading.{Front, ◌>>=◌, with_answer, decisions_at}
use Rattle.journal_entry.specs.Seen.{behind}

nothing_yet : (r : Front (List (List Bool))) → r ≡ behind [] [] r
nothing_yet (Ok (later, left)) = refl
nothing_yet (Err e) = refl

pub start : (s : List ℕ) → decisions_at s ≡ behind [] [] (decisions_at (drop 0 s))
start s = nothing_yet (decisions_at s)

pub ended : (s : List ℕ) → decisions_at (3 ∷ s) ≡ Ok ([], s)
unfolding decisions_at
ended s = refl

pub next : (s : List ℕ) → decisions_at (2 ∷ s) ≡ (decisions_at s >>= (λ x. Ok ([] ∷ x.0, x.1)))
unfolding decisions_at
next s = refl

pub refused : (s : List ℕ) → decisions_at (0 ∷ s) ≡ (decisions_at s >>= with_answer false)
unfolding decisions_at
refused s = refl

pub granted : (s : List ℕ) → decisions_at (1 ∷ s) ≡ (decisions_at s >>= with_answer true)
unfolding decisions_at
granted s = refl

pub no_answer : (b : ℕ) (s : List ℕ) → 3 < b → decisions_at (b ∷ s) ≡ Err faults.Answer
unfolding decisions_at
no_answer b s h = grind (arith, nat_tests)

pub cut : decisions_at [] ≡ Err faults.Short
unfolding decisions_at
cut = refl

pub behind_next : (ds : List (List Bool)) (a : List Bool) (r : Front (List (List Bool))) → behind ds a (r >>= (λ x. Ok ([] ∷ x.0, x.1))) ≡ behind (ds ++ a ∷ []) [] r
behind_next ds [] (Err e) = refl
behind_next ds (x ∷ a) (Err e) = refl
behind_next ds [] (Ok (later, left)) = ap (λ l. let r : Front (List (List Bool)) = Ok (l, left) in r) (sym (append_assoc ds ([] ∷ []) later))
behind_next ds (x ∷ a) (Ok (later, left)) =
    ap (λ l. let r : Front (List (List Bool)) = Ok (ds ++ l ∷ later, left) in r) (append-nil (x ∷ a))
    ∙ ap (λ l. let r : Front (List (List Bool)) = Ok (l, left) in r) (sym (append_assoc ds ((x ∷ a) ∷ []) later))

pub behind_answer : (ds : List (List Bool)) (a : List Bool) (b : Bool) (r : Front (List (List Bool))) → behind ds a (r >>= with_answer b) ≡ behind ds (a ++ b ∷ []) r
behind_answer ds [] b (Err e) = refl
behind_answer ds (x ∷ a) b (Err e) = refl
behind_answer ds [] b (Ok ([], left)) = refl
behind_answer ds (x ∷ a) b (Ok ([], left)) = refl
behind_answer ds [] b (Ok (n ∷ later, left)) = refl
behind_answer ds (x ∷ a) b (Ok (n ∷ later, left)) =
    ap (λ l. let r : Front (List (List Bool)) = Ok (ds ++ (x ∷ l) ∷ later, left) in r) (sym (append_assoc a (b ∷ []) n))

-- the byte at a place, in front of those behind it
here : (s : List ℕ) (i b : ℕ) → i < length s → get_or s i 0 ≡ b → drop i s ≡ b ∷ drop (i + 1) s
here s i b h e = rw (add-one) (drop-cons s i 0 h ∙ ap (λ x. x ∷ drop (suc i) s) e)

pub step_refused : (s : List ℕ) (i : ℕ) (ds : List (List Bool)) (a : List Bool) → i < length s → get_or s i 0 ≡ 0
    → decisions_at s ≡ behind ds a (decisions_at (drop i s)) → decisions_at s ≡ behind ds (a ++ false ∷ []) (decisions_at (drop (i + 1) s))
step_refused s i ds a h e known = known ∙ ap (behind ds a) (ap decisions_at (here s i 0 h e) ∙ refused (drop (i + 1) s)) ∙ behind_answer ds a false (decisions_at (drop (i + 1) s))

pub step_granted : (s : List ℕ) (i : ℕ) (ds : List (List Bool)) (a : List Bool) → i < length s → get_or s i 0 ≡ 1
    → decisions_at s ≡ behind ds a (decisions_at (drop i s)) → decisions_at s ≡ behind ds (a ++ true ∷ []) (decisions_at (drop (i + 1) s))
step_granted s i ds a h e known = known ∙ ap (behind ds a) (ap decisions_at (here s i 1 h e) ∙ granted (drop (i + 1) s)) ∙ behind_answer ds a true (decisions_at (drop (i + 1) s))

pub step_next : (s : List ℕ) (i : ℕ) (ds : List (List Bool)) (a : List Bool) → i < length s → get_or s i 0 ≡ 2
    → decisions_at s ≡ behind ds a (decisions_at (drop i s)) → decisions_at s ≡ behind (ds ++ a ∷ []) [] (decisions_at (drop (i + 1) s))
step_next s i ds a h e known = known ∙ ap (behind ds a) (ap decisions_at (here s i 2 h e) ∙ next (drop (i + 1) s)) ∙ behind_next ds a (decisions_at (drop (i + 1) s))

pub is_ended : (s : List ℕ) (i : ℕ) (ds : List (List Bool)) (a : List Bool) → i < length s → get_or s i 0 ≡ 3 → a ≡ []
    → decisions_at s ≡ behind ds a (decisions_at (drop i s)) → decisions_at s ≡ Ok (ds, drop (i + 1) s)
is_ended s i ds a h e none known =
    known ∙ ap (λ a. behind ds a (decisions_at (drop i s))) none ∙ ap (behind ds []) (ap decisions_at (here s i 3 h e) ∙ ended (drop (i + 1) s))
    ∙ ap (λ l. let r : Front (List (List Bool)) = Ok (l, drop (i + 1) s) in r) (append-nil ds)

unfinished : (ds : List (List Bool)) (a : List Bool) (left : List ℕ) → a ≢ [] → behind ds a (Ok ([], left)) ≡ Err faults.Answer
unfinished ds [] left h = absurd (h refl)
unfinished ds (x ∷ a) left h = refl

pub is_unfinished : (s : List ℕ) (i : ℕ) (ds : List (List Bool)) (a : List Bool) → i < length s → get_or s i 0 ≡ 3 → a ≢ []
    → decisions_at s ≡ behind ds a (decisions_at (drop i s)) → decisions_at s ≡ Err faults.Answer
is_unfinished s i ds a h e some known =
    known ∙ ap (behind ds a) (ap decisions_at (here s i 3 h e) ∙ ended (drop (i + 1) s)) ∙ unfinished ds a (drop (i + 1) s) some

behind_fault : (ds : List (List Bool)) (a : List Bool) (e : EntryError) → behind ds a (Err e) ≡ Err e
behind_fault ds [] e = refl
behind_fault ds (x ∷ a) e = refl

pub is_other : (s : List ℕ) (i b : ℕ) (ds : List (List Bool)) (a : List Bool) → i < length s → get_or s i 0 ≡ b → 3 < b
    → decisions_at s ≡ behind ds a (decisions_at (drop i s)) → decisions_at s ≡ Err faults.Answer
is_other s i b ds a h e more known =
    known ∙ ap (behind ds a) (ap decisions_at (here s i b h e) ∙ no_answer b (drop (i + 1) s) more) ∙ behind_fault ds a faults.Answer

pub is_cut : (s : List ℕ) (i : ℕ) (ds : List (List Bool)) (a : List Bool) → length s ≤ i
    → decisions_at s ≡ behind ds a (decisions_at (drop i s)) → decisions_at s ≡ Err faults.Short
is_cut s i ds a h known =
    known ∙ ap (behind ds a) (ap decisions_at (drop_all i s h) ∙ cut) ∙ behind_fault ds a faults.Short
