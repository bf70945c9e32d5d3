-- Who has ended in a journal, and what is still to be popped of a sender.
-- For the contract of `weave`.
use Rattle.std.proofs.Common.{◌≡◌, ◌≢◌, ◌⊎◌, inl, inr, ℕ, zero, suc, ◌<◌, ◌&&◌, ◌||◌, Bool, true, false, not, List, [], ◌∷◌, ◌++◌, map, reverse, sym, refl, ap, ◌∙◌, subst, append_assoc, eq-eqb, ne_eqb, arith}
use Rattle.std.proofs.lemmas.List.{reverse-append}
use native.Mathlib.Decide.{ℕ_discrete}
use Rattle.otlp_types.specs.declared.arrival.Item.{Item}
use Rattle.otlp_types.specs.declared.arrival.Item.TheVariants.{Span, Tick, End}
use Rattle.journal_theory.specs.Journal.{Settings, Entry, Journal, is_end_of, has_ended, have_ended, IsAnswered}
use Rattle.journal_theory.specs.Marked.{MarksApply, marks_apply}
use Rattle.span_weave.specs.Threads.{Try, pushed_in, items_of}
use Rattle.span_weave.proofs.Lists.{of_here, of_there}
use Rattle.span_weave.proofs.Worlds.{entry_of, AreGiven}

-- ---- the journal of what was popped

-- the journal with these entries more, the oldest first
abbrev pub journal_after : Journal → List (ℕ × Entry) → Journal
journal_after J [] = J
journal_after J (x ∷ rest) = journal_after (x.1 ∷ J) rest

pub journal_is : (J : Journal) (popped : List (ℕ × Entry)) → journal_after J popped ≡ reverse (map (λ (x : ℕ × Entry). x.1) popped) ++ J
journal_is J [] = refl
journal_is J (x ∷ rest) = journal_is (x.1 ∷ J) rest ∙ sym (ap (λ (z : Journal). z ++ J) (reverse-append (x.1 ∷ []) (map (λ (x : ℕ × Entry). x.1) rest)) ∙ append_assoc (reverse (map (λ (x : ℕ × Entry). x.1) rest)) (x.1 ∷ []) J)

-- ---- who has ended

-- where one of the senders has not ended, not all have
pub not_all : (J : Journal) (n k : ℕ) → k < n → has_ended J k ≡ false → have_ended J n ≡ false
not_all J zero k l e = absurd (omega (arith, l))
not_all J (suc n) k l e = go (ℕ_discrete k n) (λ a. not_all J n k (omega (arith, l, a)) e)
  where
    none : (a : Bool) → (a && false) ≡ false
    none true = refl
    none false = refl

    go : Dec (k ≡ n) → ((k ≡ n → ⊥) → have_ended J n ≡ false) → (has_ended J n && have_ended J n) ≡ false
    go (yes q) below = ap (λ b. b && have_ended J n) (subst (λ i. has_ended J i ≡ false) q e)
    go (no a) below = ap (λ b. has_ended J n && b) (below a) ∙ none (has_ended J n)

-- where each of the senders has ended, all have
pub all_ended : (J : Journal) (n : ℕ) → ((k : ℕ) → k < n → has_ended J k ≡ true) → have_ended J n ≡ true
all_ended J zero h = refl
all_ended J (suc n) h = ap (λ b. b && have_ended J n) (h n (omega arith)) ∙ all_ended J n (λ k l. h k (omega (arith, l)))

-- an End is its sender's
pub end_here : (k : ℕ) (refused lost : Bool) (given : List (List Bool)) (J : Journal) → has_ended (entry_of (End k) refused lost given ∷ J) k ≡ true
end_here k refused lost given J = ap (λ b. b || has_ended J k) (eq-eqb k k refl)

-- the item is no End of another sender
abbrev pub IsNoEndOfOthers : (sender : ℕ) → Item → Type 0
IsNoEndOfOthers sender item = (j : ℕ) → j ≢ sender → is_end_of j item ≡ false

pub end_of_one : (k : ℕ) → IsNoEndOfOthers k (End k)
end_of_one k j apart = ne_eqb k j (λ e. apart (sym e))

-- ---- what is still to be popped

-- Of a lane these items are still to be popped: what its tries put in, and its End; or none, and its End was taken.
abbrev pub LaneOwes : Journal → (lane : ℕ) → List Try → List Item → Type 0
LaneOwes J l tries items = ((items ≡ map (λ a. Span a) (pushed_in tries) ++ End l ∷ []) × (has_ended J l ≡ false)) ⊎ ((items ≡ []) × (tries ≡ []) × (has_ended J l ≡ true))

-- Of the ticker: these ticks, and its End; or none, and its End was taken.
abbrev pub TickerOwes : Journal → (ticker : ℕ) → List ℕ → List Item → Type 0
TickerOwes J k ticks items = ((items ≡ map (λ m. Tick m) ticks ++ End k ∷ []) × (has_ended J k ≡ false)) ⊎ ((items ≡ []) × (has_ended J k ≡ true))

-- another sender's items are the same
pub items_there : (j : ℕ) (x : ℕ × Entry) (rest : List (ℕ × Entry)) → j ≢ x.0 → items_of j (x ∷ rest) ≡ items_of j rest
items_there j x rest apart = ap (λ (z : List Entry). map (λ (e : Entry). e.item) z) (of_there j x.0 x.1 rest apart)

-- this sender's are one less
pub items_here : (x : ℕ × Entry) (rest : List (ℕ × Entry)) → items_of x.0 (x ∷ rest) ≡ x.1.item ∷ items_of x.0 rest
items_here x rest = ap (λ (z : List Entry). map (λ (e : Entry). e.item) z) (of_here x.0 x.1 rest)

ended_there : (J : Journal) (e : Entry) (sender j : ℕ) → IsNoEndOfOthers sender e.item → j ≢ sender → has_ended (e ∷ J) j ≡ has_ended J j
ended_there J e sender j other apart = ap (λ b. b || has_ended J j) (other j apart)

-- what another lane owes is the same
pub lane_owes_there : (J : Journal) (x : ℕ × Entry) (rest : List (ℕ × Entry)) (j : ℕ) (tries : List Try) → IsNoEndOfOthers x.0 x.1.item → j ≢ x.0
    → LaneOwes J j tries (items_of j (x ∷ rest)) → LaneOwes (x.1 ∷ J) j tries (items_of j rest)
lane_owes_there J x rest j tries other apart (inl h) = inl (sym (items_there j x rest apart) ∙ h.0, ended_there J x.1 x.0 j other apart ∙ h.1)
lane_owes_there J x rest j tries other apart (inr h) = inr (sym (items_there j x rest apart) ∙ h.0, h.1, ended_there J x.1 x.0 j other apart ∙ h.2)

-- and what the ticker owes
pub ticker_owes_there : (J : Journal) (x : ℕ × Entry) (rest : List (ℕ × Entry)) (j : ℕ) (ticks : List ℕ) → IsNoEndOfOthers x.0 x.1.item → j ≢ x.0
    → TickerOwes J j ticks (items_of j (x ∷ rest)) → TickerOwes (x.1 ∷ J) j ticks (items_of j rest)
ticker_owes_there J x rest j ticks other apart (inl h) = inl (sym (items_there j x rest apart) ∙ h.0, ended_there J x.1 x.0 j other apart ∙ h.1)
ticker_owes_there J x rest j ticks other apart (inr h) = inr (sym (items_there j x rest apart) ∙ h.0, ended_there J x.1 x.0 j other apart ∙ h.1)

-- ---- marks

-- the marks of these entries, the oldest first, can apply after this journal
abbrev pub MarksApplyAfter : Settings → Journal → List (ℕ × Entry) → Type 0
MarksApplyAfter s J [] = Unit {0}
MarksApplyAfter s J (x ∷ rest) = (marks_apply s x.1 J ≡ true) × MarksApplyAfter s (x.1 ∷ J) rest

-- what holds of a journal and of the older part of each holds of its older part
older : (F : Journal → Type 0) → ((e : Entry) (J : Journal) → F (e ∷ J) → F J) → (popped : List (ℕ × Entry)) (J : Journal) → F (journal_after J popped) → F J
older F back [] J h = h
older F back (x ∷ rest) J h = back x.1 J (older F back rest (x.1 ∷ J) h)

pub marks_after : (s : Settings) (popped : List (ℕ × Entry)) (J : Journal) → MarksApply s (journal_after J popped) → MarksApplyAfter s J popped
marks_after s [] J h = tt
marks_after s (x ∷ rest) J h = ((older (MarksApply s) (λ e K m. m.1) rest (x.1 ∷ J) h).0, marks_after s rest (x.1 ∷ J) h)

-- ---- answers

-- the decisions at these entries, the oldest first, are answered after this journal
abbrev pub AnsweredAfter : Settings → Journal → List (ℕ × Entry) → Type 0
AnsweredAfter s J [] = Unit {0}
AnsweredAfter s J (x ∷ rest) = AreGiven s x.1 J × AnsweredAfter s (x.1 ∷ J) rest

pub answers_after : (s : Settings) (popped : List (ℕ × Entry)) (J : Journal) → IsAnswered s (journal_after J popped) → AnsweredAfter s J popped
answers_after s [] J h = tt
answers_after s (x ∷ rest) J h = ((older (IsAnswered s) (λ e K m. m.1) rest (x.1 ∷ J) h).0, answers_after s rest (x.1 ∷ J) h)

-- a tick and an End carry no mark
pub no_marks : (refused lost : Bool) → (not refused && not lost) ≡ true → (refused ≡ false) × (lost ≡ false)
no_marks true lost e = absurd (cc e)
no_marks false true e = absurd (cc e)
no_marks false false e = (refl, refl)

-- the marks of an entry with this item
pub marks_of_item : (s : Settings) (e : Entry) (J : Journal) (item : Item) → e.item ≡ item → marks_apply s e J ≡ true → marks_apply s (entry_of item e.refused e.lost e.answers) J ≡ true
marks_of_item s e J item is h = subst (λ (i : Item). marks_apply s (entry_of i e.refused e.lost e.answers) J ≡ true) is h

-- an entry without marks
pub plain_entry : (s : Settings) (e : Entry) (J : Journal) (item : Item) → e.item ≡ item → (e.refused ≡ false) × (e.lost ≡ false) → e ≡ entry_of item false false e.answers
plain_entry s e J item is h = ap (λ (i : Item). entry_of i e.refused e.lost e.answers) is ∙ ap (λ b. entry_of item b e.lost e.answers) h.0 ∙ ap (λ b. entry_of item false b e.answers) h.1
