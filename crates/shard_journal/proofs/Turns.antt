-- What the program's notes stand for, decision by decision and entry by entry.
-- Serves `decide_each`, `note_entry`, `notes_of` and those that read the notes.
use Rattle.std.proofs.Common.{◌≡◌, ℕ, zero, suc, ◌+◌, ◌<◌, ◌≤◌, Bool, false, Some, slice_get, List, [], ◌∷◌, ◌++◌, map, take, reverse, length, get_or, min, refl, ap, sym, ◌∙◌, arith}
use Rattle.std.proofs.lemmas.List.{take_more, reverse-append}
use Rattle.journal_theory.specs.Journal.{Settings, Entry, Journal, Opening, Decision, Notes, decision, decisions_in_turn, due_at, due_now, Finding, finding, after_item, after_decisions, no_notes, notes}
use Rattle.journal_theory.specs.Fate.{effect_of_finding, effect_of_span}
use Rattle.otlp_types.specs.declared.span.Ids.{Ids}
use Rattle.span_ids.specs.declared.ids.TraceId.{TraceId}
use Rattle.otlp_types.specs.declared.arrival.Arrival.{Arrival}
use Rattle.shard_journal.specs.Found.{kind_of}
use Rattle.shard_journal.specs.Short.{short_notes, without_spans}
use Rattle.std.proofs.lemmas.Option.{slice_get_read}
use Rattle.shard_journal.proofs.Short.{after_item_short, due_short, finding_short, effect_short}

-- ---- decisions in turn

no_answers : (i : ℕ) (x : List Bool) → slice_get [] i ≡ Some x → ⊥
no_answers zero x e = cc
no_answers (suc i) x e = cc

turn_push : (s : Settings) (past : Journal) (os : List Opening) (o : Opening) (answers : List (List Bool)) (given : List Bool) → slice_get answers (length os) ≡ Some given →
    decisions_in_turn s past (os ++ o ∷ []) answers ≡ decisions_in_turn s past os answers ++ decision s past o given ∷ []
turn_push s past os o [] given e = absurd (no_answers (length os) given e)
turn_push s past [] o (g ∷ answers) given e = let same : g ≡ given = cc in ap (λ (x : List Bool). decision s past o x ∷ []) same
turn_push s past (x ∷ os) o (g ∷ answers) given e = ap (λ (ys : List Decision). decision s past x g ∷ ys) (turn_push s past os o answers given e)

taken_many : {X : Type 0} (i : ℕ) (xs : List X) → i < length xs → length (take i xs) ≡ i
taken_many zero xs l = refl
taken_many (suc i) [] l = absurd (omega (arith, l))
taken_many (suc i) (x ∷ xs) l = ap suc (taken_many i xs (omega (arith, l)))

-- one decision more
pub turn_more : (s : Settings) (past : Journal) (due : List Opening) (answers : List (List Bool)) (i : ℕ) (o : Opening) (given : List Bool) (full noted new : Notes) → i < length due → i < length answers → o ≡ get_or due i o → given ≡ get_or answers i given →
    noted ≡ short_notes (after_decisions (decisions_in_turn s past (take i due) answers) full) →
    new ≡ (let n : Notes = record { openings = noted.openings; decisions = without_spans (decision s past o given) ∷ noted.decisions; touches = noted.touches } in n) →
    new ≡ short_notes (after_decisions (decisions_in_turn s past (take (i + 1) due) answers) full)
turn_more s past due answers i o given full noted new l m e f h k =
    let ds = decisions_in_turn s past (take i due) answers in
    let d = decision s past o given in
    let more : take (i + 1) due ≡ take i due ++ o ∷ [] = take_more due i o l ∙ ap (λ (x : Opening). take i due ++ x ∷ []) (sym e) in
    let there : slice_get answers (length (take i due)) ≡ Some given = ap (slice_get answers) (taken_many i due l) ∙ slice_get_read answers (length answers) i given refl m f in
    let put = λ (n : Notes). (let m : Notes = record { openings = n.openings; decisions = without_spans d ∷ n.decisions; touches = n.touches } in m) in
    let close = λ (ys : List Decision). (let m : Notes = record { openings = full.openings; decisions = map without_spans (ys ++ full.decisions); touches = full.touches } in m) in
    k ∙ ap put h
    ∙ sym (ap (λ (os : List Opening). short_notes (after_decisions (decisions_in_turn s past os answers) full)) more
    ∙ ap (λ (ys : List Decision). close (reverse ys)) (turn_push s past (take i due) o answers given there)
    ∙ ap close (reverse-append ds (d ∷ [])))

turn_all : (s : Settings) (past : Journal) (due : List Opening) (answers : List (List Bool)) (i : ℕ) → min (length due) (length answers) ≤ i → decisions_in_turn s past (take i due) answers ≡ decisions_in_turn s past due answers
turn_all s past [] answers zero l = refl
turn_all s past [] answers (suc i) l = refl
turn_all s past (o ∷ due) [] zero l = refl
turn_all s past (o ∷ due) [] (suc i) l = refl
turn_all s past (o ∷ due) (g ∷ answers) zero l = absurd (omega (arith, l))
turn_all s past (o ∷ due) (g ∷ answers) (suc i) l = ap (λ (ds : List Decision). decision s past o g ∷ ds) (turn_all s past due answers i (omega (arith, l)))

-- all decisions that were given answers
pub turns_made : (s : Settings) (past : Journal) (due : List Opening) (answers : List (List Bool)) (i : ℕ) (full noted : Notes) → min (length due) (length answers) ≤ i →
    noted ≡ short_notes (after_decisions (decisions_in_turn s past (take i due) answers) full) → noted ≡ short_notes (after_decisions (decisions_in_turn s past due answers) full)
turns_made s past due answers i full noted l e = e ∙ ap (λ (ds : List Decision). short_notes (after_decisions ds full)) (turn_all s past due answers i l)

-- ---- an entry

-- the notes after an item, before any decision
pub item_noted : (s : Settings) (e : Entry) (before : Journal) (noted old n : Notes) → old ≡ short_notes noted → n ≡ after_item s e before e.item old → n ≡ short_notes (after_item s e before e.item noted)
item_noted s e before noted old n h k = k ∙ ap (after_item s e before e.item) h ∙ after_item_short s e before e.item noted

notes_more : (s : Settings) (e : Entry) (before : Journal) → let m = after_item s e before e.item (notes s before) in notes s (e ∷ before) ≡ after_decisions (decisions_in_turn s (e ∷ before) (due_at s e before e.item m) e.answers) m
unfolding notes
notes_more s e before = refl

-- what is due by the notes
pub due_is : (s : Settings) (e : Entry) (before : Journal) (noted old : Notes) (due : List Opening) → old ≡ short_notes noted → due ≡ due_at s e before e.item old → due ≡ due_at s e before e.item noted
due_is s e before noted old due h k = k ∙ ap (due_at s e before e.item) h ∙ due_short s e before e.item noted

-- and at the last entry of a journal
pub due_now_is : (s : Settings) (e : Entry) (before past : Journal) (old new : Notes) (due : List Opening) → past ≡ e ∷ before → old ≡ short_notes (notes s before) → new ≡ after_item s e before e.item old → due ≡ due_at s e before e.item new → due ≡ due_now s past
due_now_is s e before past old new due p h i k =
    due_is s e before (after_item s e before e.item (notes s before)) new due (item_noted s e before (notes s before) old new h i) k ∙ ap (due_now s) (sym p)

-- the notes after an entry
pub entry_noted : (s : Settings) (e : Entry) (before past : Journal) (due : List Opening) (answers : List (List Bool)) → let m = after_item s e before e.item (notes s before) in past ≡ e ∷ before → due ≡ due_at s e before e.item m → answers ≡ e.answers →
    short_notes (after_decisions (decisions_in_turn s past due answers) m) ≡ short_notes (notes s past)
entry_noted s e before past due answers h k g =
    let m = after_item s e before e.item (notes s before) in
    ap (λ (given : List (List Bool)). short_notes (after_decisions (decisions_in_turn s past due given) m)) g
    ∙ ap short_notes (ap (λ (p : Journal). after_decisions (decisions_in_turn s p due e.answers) m) h
    ∙ ap (λ (os : List Opening). after_decisions (decisions_in_turn s (e ∷ before) os e.answers) m) k
    ∙ sym (notes_more s e before)
    ∙ ap (notes s) (sym h))

-- the notes of the empty journal
pub nothing_noted : (s : Settings) (n : Notes) → n ≡ no_notes → n ≡ short_notes (notes s [])
unfolding notes
nothing_noted s n p = p

-- ---- the last entry of a journal

-- the last element stands first from the end
pub last_first : {X : Type 0} (xs before : List X) (x : X) → xs ≡ before ++ x ∷ [] → reverse xs ≡ x ∷ reverse before
last_first xs before x h = ap reverse h ∙ reverse-append before (x ∷ [])

-- ---- what a span finds

-- what a span finds by the notes
pub found_by : (s : Settings) (noted : Notes) (t : TraceId) (old : Notes) (f : Finding) → old ≡ short_notes noted → f ≡ finding s old t → kind_of f ≡ kind_of (finding s noted t)
found_by s noted t old f h k = ap kind_of (k ∙ ap (λ (l : Notes). finding s l t) h ∙ finding_short s noted t)

-- what a span does, by the notes
pub span_effect : (s : Settings) (before : Journal) (refused : Bool) (a : Arrival) (ids : Ids) (old : Notes) (f : Finding) → refused ≡ false → a.rec.span.ids ≡ Some ids → old ≡ short_notes (notes s before) → f ≡ finding s old ids.trace →
    effect_of_finding s before old a f ≡ effect_of_span s before refused a a.rec.span.ids
span_effect s before refused a ids old f r i h k =
    ap (effect_of_finding s before old a) k
    ∙ ap (λ (l : Notes). effect_of_finding s before l a (finding s l ids.trace)) h
    ∙ effect_short s before (notes s before) a ids.trace
    ∙ ap (λ (b : Bool). effect_of_span s before b a (Some ids)) (sym r)
    ∙ ap (effect_of_span s before refused a) (sym i)
