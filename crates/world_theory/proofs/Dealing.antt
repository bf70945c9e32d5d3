-- What a decision takes out of the buffer.
-- For the laws of the headline, `headline` and each of its parts.
use Rattle.std.proofs.Common.{◌≡◌, ℕ, zero, suc, ◌<◌, Bool, true, false, cond, ◌==◌, List, [], ◌∷◌, ◌++◌, filter, reverse, take, find, slice_get, Some, is_none, option_map, refl, ap, sym, ◌∙◌, arith, append_assoc, ne_eqb, eq-eqb}
use Rattle.std.proofs.lemmas.List.{append-nil, reverse-append}
use Rattle.journal_theory.specs.Journal.{Settings, Journal, is_of_trace, Opening, Decision, Notes, in_buffer, undecided, spans_since, is_oversized, oversized, due_at, is_due, has_finished, decision, decisions_in_turn, after_item, after_decisions, decisions_at, notes, decisions_now, notes_dealt, Entry}
use Rattle.otlp_types.specs.declared.arrival.Arrival.{Arrival}
use Rattle.otlp_types.specs.declared.arrival.Item.{Item}
use Rattle.otlp_types.specs.declared.arrival.Item.TheVariants.{Span, Tick, End}
use Rattle.journal_theory.proofs.Notes.{HasRoom, other_trace, spans_of_trace, is_open, IsOlder, IsApart, Sound, buffer_front}
use Rattle.journal_theory.proofs.ListFacts.{Each, Each-weaker, Each-both, Each-reverse, Each-filter, Each-passes, Each-split, Pairs, Pairs-left, Pairs-right, Pairs-across, Pairs-filter, Pairs-reverse, Split, Split-cons, spill, spill-append, spill-same, Each-spill}
use Rattle.journal_theory.proofs.Find.{find_past}
use Rattle.journal_theory.proofs.Sound.{sound_item, sound_notes, sound_dealt}
use Rattle.world_theory.proofs.Content.{content, IsOther}

pub Split-each : {X : Type 0} (xs : List X) → Each (λ x. Split x xs) xs
Split-each [] = tt
Split-each (x ∷ xs) = (record { front = []; back = xs; is = refl }, Each-weaker (λ y. Split y xs) (λ y. Split y (x ∷ xs)) xs (λ y k. Split-cons y x xs k) (Split-each xs))

-- what holds of the undecided episodes and of some of them holds of those that are due
due-keeps : (Q : List Opening → Type 0) (s : Settings) (e : Entry) (J : Journal) (item : Item) (noted : Notes) → Q (undecided s noted) → ((p : Opening → Bool) → Q (filter p (undecided s noted)))
    → Q (due_at s e J item noted)
due-keeps Q s e J (Span a) noted all some = some (is_oversized s (e ∷ J))
due-keeps Q s e J (Tick m) noted all some = some (is_due s (e ∷ J))
due-keeps Q s e J (End i) noted all some = go (has_finished s e J)
  where
    go : (b : Bool) → Q (cond b (undecided s noted) (oversized s (e ∷ J) noted))
    go true = all
    go false = some (is_oversized s (e ∷ J))

pub Each-due : (P : Opening → Type 0) (s : Settings) (e : Entry) (J : Journal) (item : Item) (noted : Notes) → Each P (undecided s noted) → Each P (due_at s e J item noted)
Each-due P s e J item noted h = due-keeps (Each P) s e J item noted h (λ p. Each-filter P p (undecided s noted) h)

pub Pairs-due : (R : Opening → Opening → Type 0) (s : Settings) (e : Entry) (J : Journal) (item : Item) (noted : Notes) → Pairs R (undecided s noted) → Pairs R (due_at s e J item noted)
Pairs-due R s e J item noted h = due-keeps (Pairs R) s e J item noted h (λ p. Pairs-filter R p (undecided s noted) h)

-- of the decisions made in turn, the one at a place
pub record InTurn (s : Settings) (J : Journal) (due : List Opening) (answers : List (List Bool)) (dealt : ℕ) (d : Decision) : Type 0 where
  pub others : Each (λ (x : Decision). (x.opening.at == d.opening.at) ≡ false) (take dealt (decisions_in_turn s J due answers))
  pub next : take (suc dealt) (decisions_in_turn s J due answers) ≡ take dealt (decisions_in_turn s J due answers) ++ d ∷ []
  pub within : Split d.opening due
  pub spans : d.spans ≡ spans_since J d.opening

abbrev pub IsEarlier : Opening → Opening → Type 0
IsEarlier x y = x.at < y.at

pub in_turn : (s : Settings) (J : Journal) (due : List Opening) (answers : List (List Bool)) (dealt : ℕ) (d : Decision) → Pairs IsEarlier due → slice_get (decisions_in_turn s J due answers) dealt ≡ Some d → InTurn s J due answers dealt d
in_turn s J [] answers dealt d p e = absurd (cc e)
in_turn s J (o ∷ due) [] dealt d p e = absurd (cc e)
in_turn s J (o ∷ due) (a ∷ answers) zero d p e = let k : decision s J o a ≡ d = cc e in rw (← k) (record { others = tt; next = refl; within = record { front = []; back = due; is = refl }; spans = refl })
in_turn s J (o ∷ due) (a ∷ answers) (suc dealt) d p e =
    let k = in_turn s J due answers dealt d p.1 e in
    let l : o.at < d.opening.at = Each-split (IsEarlier o) d.opening due k.within p.0 in
    record { others = (ne_eqb o.at d.opening.at (λ q. omega arith), k.others); next = ap (λ (z : List Decision). decision s J o a ∷ z) k.next; within = Split-cons d.opening o due k.within; spans = k.spans }

-- what a decision takes out
pub record Dealing (d : Decision) (before after : List Arrival) : Type 0 where
  pub older : List Arrival
  pub newer : List Arrival
  pub was : before ≡ older ++ (d.spans ++ newer)
  pub becomes : after ≡ older ++ newer
  pub others : Each (IsOther d.opening.trace) older
  pub members : Each (λ a. is_of_trace d.opening.trace a ≡ true) d.spans

module _ (s : Settings) (J : Journal) (noted : Notes) (h : Sound s J noted) (due : List Opening) (answers : List (List Bool))
    (ascends : Pairs IsEarlier due) (stand : Each (λ (o : Opening). Split o (in_buffer s noted) × (is_open noted o ≡ true)) due) (dealt : ℕ) (d : Decision)
    (is : slice_get (decisions_in_turn s J due answers) dealt ≡ Some d) where
  abbrev made : List Decision
  made = decisions_in_turn s J due answers

  abbrev now : Notes
  now = after_decisions (take dealt made) noted

  abbrev next : Notes
  next = after_decisions (take (suc dealt) made) noted

  turn : InTurn s J due answers dealt d
  turn = in_turn s J due answers dealt d ascends is

  pub place : Split d.opening (in_buffer s noted) × (is_open noted d.opening ≡ true)
  place = Each-split (λ (o : Opening). Split o (in_buffer s noted) × (is_open noted o ≡ true)) d.opening due turn.within stand

  pub open_now : is_open now d.opening ≡ true
  open_now = ap (λ r. is_none (option_map (λ (d : Decision). d.verdict) r)) (find_past (λ (x : Decision). x.opening.at == d.opening.at) (reverse (take dealt made)) noted.decisions
      (Each-reverse (λ (x : Decision). (x.opening.at == d.opening.at) ≡ false) (take dealt made) turn.others)) ∙ place.1

  next_decisions : next.decisions ≡ d ∷ now.decisions
  next_decisions = ap (λ z. reverse z ++ noted.decisions) turn.next ∙ ap (λ z. z ++ noted.decisions) (reverse-append (take dealt made) (d ∷ []))

  open_next : (o : Opening) → is_open next o ≡ cond (d.opening.at == o.at) false (is_open now o)
  open_next o = ap (λ (z : List Decision). is_none (option_map (λ (d : Decision). d.verdict) (find (λ (d : Decision). d.opening.at == o.at) z))) next_decisions ∙ go (d.opening.at == o.at)
    where
      go : (b : Bool) → is_none (option_map (λ (d : Decision). d.verdict) (cond b (Some d) (find (λ (d : Decision). d.opening.at == o.at) now.decisions))) ≡ cond b false (is_open now o)
      go true = refl
      go false = refl

  stays_open : (o : Opening) → (d.opening.at ≡ o.at → ⊥) → cond (is_open next o) (spans_since J o) [] ≡ cond (is_open now o) (spans_since J o) []
  stays_open o n = ap (λ b. cond b (spans_since J o) []) (open_next o ∙ ap (λ b. cond b false (is_open now o)) (ne_eqb d.opening.at o.at n))

  pub dealing : Sound s J now → Dealing d (content s J now) (content s J next)
  dealing hn = record {
    older = spill (spans_since J) (is_open now) k.back;
    newer = spill (spans_since J) (is_open now) k.front;
    was = ap (spill (spans_since J) (is_open now)) k.is ∙ spill-append (spans_since J) (is_open now) k.front (d.opening ∷ k.back)
        ∙ ap (λ b. (spill (spans_since J) (is_open now) k.back ++ cond b (spans_since J d.opening) []) ++ spill (spans_since J) (is_open now) k.front) open_now
        ∙ append_assoc (spill (spans_since J) (is_open now) k.back) (spans_since J d.opening) (spill (spans_since J) (is_open now) k.front)
        ∙ ap (λ z. spill (spans_since J) (is_open now) k.back ++ (z ++ spill (spans_since J) (is_open now) k.front)) (sym turn.spans);
    becomes = ap (spill (spans_since J) (is_open next)) k.is ∙ spill-append (spans_since J) (is_open next) k.front (d.opening ∷ k.back)
        ∙ ap (λ b. (spill (spans_since J) (is_open next) k.back ++ cond b (spans_since J d.opening) []) ++ spill (spans_since J) (is_open next) k.front) (open_next d.opening ∙ ap (λ b. cond b false (is_open now d.opening)) (eq-eqb d.opening.at d.opening.at refl))
        ∙ ap (λ z. z ++ spill (spans_since J) (is_open next) k.front) (append-nil (spill (spans_since J) (is_open next) k.back))
        ∙ ap (λ z. z ++ spill (spans_since J) (is_open next) k.front) back_stays
        ∙ ap (λ z. spill (spans_since J) (is_open now) k.back ++ z) front_stays;
    others = Each-spill (IsOther d.opening.trace) (spans_since J) (is_open now) k.back (Each-weaker (IsApart (is_open now) d.opening) (λ (o : Opening). is_open now o ≡ true → Each (IsOther d.opening.trace) (spans_since J o)) k.back
        (λ o f p. Each-weaker (λ (a : Arrival). is_of_trace o.trace a ≡ true) (IsOther d.opening.trace) (spans_since J o) (λ a q. other_trace o.trace d.opening.trace a.rec.span.ids q (f p)) (spans_of_trace J o)) older_apart);
    members = rw (turn.spans) (spans_of_trace J d.opening);
  }
    where
      k : Split d.opening (in_buffer s noted)
      k = place.0

      older_apart : Each (IsApart (is_open now) d.opening) k.back
      older_apart = (Pairs-right (IsApart (is_open now)) k.front (d.opening ∷ k.back) (rw (k.is) at (hn.apart))).0

      fr : (rest : List Opening) × (noted.openings ≡ in_buffer s noted ++ rest)
      fr = buffer_front s.num_traces noted.openings

      sorted : Pairs IsOlder (k.front ++ d.opening ∷ k.back)
      sorted = rw (k.is) at (Pairs-left IsOlder (in_buffer s noted) fr.0 (rw fr.1 at (h.ordered)))

      back_stays : spill (spans_since J) (is_open next) k.back ≡ spill (spans_since J) (is_open now) k.back
      back_stays = spill-same (spans_since J) (spans_since J) (is_open next) (is_open now) k.back (Each-weaker (IsOlder d.opening) (λ (o : Opening). cond (is_open next o) (spans_since J o) [] ≡ cond (is_open now o) (spans_since J o) []) k.back
          (λ o l. stays_open o (λ q. omega arith)) (Pairs-right IsOlder k.front (d.opening ∷ k.back) sorted).0)

      front_stays : spill (spans_since J) (is_open next) k.front ≡ spill (spans_since J) (is_open now) k.front
      front_stays = spill-same (spans_since J) (spans_since J) (is_open next) (is_open now) k.front (Each-weaker (λ (o : Opening). Each (IsOlder o) (d.opening ∷ k.back)) (λ (o : Opening). cond (is_open next o) (spans_since J o) [] ≡ cond (is_open now o) (spans_since J o) []) k.front
          (λ o l. stays_open o (λ q. let m : d.opening.at < o.at = l.0 in omega arith)) (Pairs-across IsOlder k.front (d.opening ∷ k.back) sorted))

-- the undecided stand in the buffer, in order of opening
pub undecided_stand : (s : Settings) (noted : Notes) → Each (λ (o : Opening). Split o (in_buffer s noted) × (is_open noted o ≡ true)) (undecided s noted)
undecided_stand s noted = Each-reverse (λ (o : Opening). Split o (in_buffer s noted) × (is_open noted o ≡ true)) (filter (is_open noted) (in_buffer s noted))
    (Each-both (λ (o : Opening). Split o (in_buffer s noted)) (λ (o : Opening). is_open noted o ≡ true) (λ (o : Opening). Split o (in_buffer s noted) × (is_open noted o ≡ true)) (filter (is_open noted) (in_buffer s noted)) (λ o x y. (x, y))
    (Each-filter (λ (o : Opening). Split o (in_buffer s noted)) (is_open noted) (in_buffer s noted) (Split-each (in_buffer s noted))) (Each-passes (is_open noted) (in_buffer s noted)))

pub undecided_ascend : (s : Settings) (J : Journal) (noted : Notes) → Sound s J noted → Pairs IsEarlier (undecided s noted)
undecided_ascend s J noted h = let fr = buffer_front s.num_traces noted.openings in
    Pairs-reverse IsOlder (filter (is_open noted) (in_buffer s noted)) (Pairs-filter IsOlder (is_open noted) (in_buffer s noted) (Pairs-left IsOlder (in_buffer s noted) fr.0 (rw fr.1 at (h.ordered))))

-- the next decision deals with its episode, which stands open in the buffer until then
abbrev Deals : Settings → Journal → ℕ → Decision → Type 0
Deals s J dealt d = Dealing d (content s J (notes_dealt s J dealt)) (content s J (notes_dealt s J (suc dealt)))
    × ((is_open (notes_dealt s J dealt) d.opening ≡ true) × Split d.opening (in_buffer s (notes_dealt s J dealt)))

deals : (s : Settings) → HasRoom s.num_traces → (J : Journal) (dealt : ℕ) (d : Decision) → slice_get (decisions_now s J) dealt ≡ Some d → Deals s J dealt d
deals s room [] dealt d e = absurd (cc e)
deals s room (e ∷ J) dealt d is =
    let noted = after_item s e J e.item (notes s J) in
    let h : Sound s (e ∷ J) noted = sound_item s room J e.item e (notes s J) (sound_notes s room J) in
    let hn : Sound s (e ∷ J) (after_decisions (take dealt (decisions_at s e J noted)) noted) = sound_dealt s room (e ∷ J) dealt in
    let due = due_at s e J e.item noted in
    let ascends = Pairs-due IsEarlier s e J e.item noted (undecided_ascend s (e ∷ J) noted h) in
    let stand = Each-due (λ (o : Opening). Split o (in_buffer s noted) × (is_open noted o ≡ true)) s e J e.item noted (undecided_stand s noted) in
    (dealing s (e ∷ J) noted h due e.answers ascends stand dealt d is hn, (open_now s (e ∷ J) noted h due e.answers ascends stand dealt d is, (place s (e ∷ J) noted h due e.answers ascends stand dealt d is).0))

pub dealt_with : (s : Settings) → HasRoom s.num_traces → (J : Journal) (dealt : ℕ) (d : Decision) → slice_get (decisions_now s J) dealt ≡ Some d
    → Dealing d (content s J (notes_dealt s J dealt)) (content s J (notes_dealt s J (suc dealt)))
dealt_with s room J dealt d is = (deals s room J dealt d is).0

pub open_dealt : (s : Settings) → HasRoom s.num_traces → (J : Journal) (dealt : ℕ) (d : Decision) → slice_get (decisions_now s J) dealt ≡ Some d
    → (is_open (notes_dealt s J dealt) d.opening ≡ true) × Split d.opening (in_buffer s (notes_dealt s J dealt))
open_dealt s room J dealt d is = (deals s room J dealt d is).1
