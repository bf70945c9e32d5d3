-- What is due in every journal, and how it is decided in turn.
-- For the contracts of `decides_standing` and `keeps_standing`.
use Rattle.std.proofs.Common.{◌≡◌, ℕ, zero, suc, ◌+◌, ◌<◌, ◌≤◌, ◌==◌, nat_lt, nat_le, Bool, true, false, ◌&&◌, ◌||◌, cond, List, [], ◌∷◌, ◌++◌, map, reverse, length, take, drop, Option, Some, None, option_to_list, refl, sym, ap, subst, ◌∙◌, arith, append_assoc, add-one}
use Rattle.std.specs.List.{list_all, filter, find, slice_set}
use Rattle.std.specs.Option.{option_map, is_none}
use Rattle.std.proofs.lemmas.List.{reverse-reverse, length_push, set-append_left, set_past}
use Rattle.std.proofs.lemmas.List.Folds.{list_all-append}
use Rattle.std.proofs.Math.Seq.{set-append_seam}
use Rattle.std.proofs.lemmas.Bool.Decides.{nat_tests}
use Rattle.std.proofs.lemmas.Bool.{and_parts}
use Rattle.trace_buffer.specs.Buffer.{Episode, is_root_due, is_too_big}
use Rattle.span_ids.specs.declared.outcome.Verdict.{Verdict}
use Rattle.journal_theory.specs.Journal.{Entry, StoppedInTime, Settings, Journal, Opening, Decision, Notes, Finding, joins, meets, opens, in_buffer, last_of, leaving, notes, notes_dealt, finding, decided_as, is_oversized, oversized, is_due, due_at, due_now, have_ended, has_ended, decisions_in_turn, policies_for, decision, after_item, after_span, after_finding, after_decisions, no_notes, clock, spans_since, are_each_answered, IsAnswered, IsAnsweredUpTo}
use Rattle.policy_eval.specs.Given.{are_answered}
use Rattle.journal_theory.specs.Standing.{Standing, root_left, spans_left, first_root_since, episode, standing, mark, ends}
use Rattle.otlp_types.specs.declared.span.Ids.{Ids}
use Rattle.span_ids.specs.declared.ids.TraceId.{TraceId}
use Rattle.otlp_types.specs.declared.arrival.Arrival.{Arrival}
use Rattle.otlp_types.specs.declared.arrival.Item.{Item}
use Rattle.otlp_types.specs.declared.arrival.Item.TheVariants.{Span, Tick, End}
use Rattle.journal_theory.specs.Deciding.{is_due_by}
use Rattle.journal_theory.proofs.RootWait.{due_by_first_root, none_due_after_mark, no_roots}
use Rattle.journal_theory.proofs.Lists.{Each-weaken, Each-all, reverse-cons, filter-reverse, filter-same, Each-from_none, filter-filter, or-true, Each-reverse, drop-length, none-from_find}
use Rattle.journal_theory.proofs.ListFacts.{Each, Each-left, Pairs as Apart, Pairs-left, Pairs-reverse, Pairs-weaker}
use Rattle.journal_theory.proofs.Notes.{HasRoom, IsOlder, Sound, buffer_front}
use Rattle.journal_theory.proofs.Sound.{makes_room, sound_item, sound_notes}

-- ---- tests

pub eqb-same : (n : ℕ) → (n == n) ≡ true
eqb-same n = grind (arith, nat_tests)

pub eqb-below : (m n : ℕ) → m < n → (m == n) ≡ false
eqb-below m n h = grind (arith, nat_tests)

pub eqb-above : (m n : ℕ) → m < n → (n == m) ≡ false
eqb-above m n h = grind (arith, nat_tests)

pub leb-not : (m n : ℕ) → n < m → nat_le m n ≡ false
leb-not m n h = grind (arith, nat_tests)

abbrev pub OtherPlace : Opening → Opening → Type 0
OtherPlace o p = ((o.at == p.at) ≡ false) × ((p.at == o.at) ≡ false)

module _ (s : Settings) (room : HasRoom s.num_traces) where
  -- the openings of the buffer, in order
  abbrev pub front : Notes → List Opening
  front noted = reverse (in_buffer s noted)

  pub front-places : (J : Journal) (noted : Notes) → Sound s J noted → Apart OtherPlace (front noted)
  front-places J noted h =
      let f = buffer_front s.num_traces noted.openings in
      Pairs-weaker (λ x y. IsOlder y x) OtherPlace (front noted) (λ x y l. (eqb-below x.at y.at l, eqb-above x.at y.at l))
      (Pairs-reverse IsOlder (in_buffer s noted) (Pairs-left IsOlder (in_buffer s noted) f.0 (rw f.1 at (h.ordered))))

  -- ---- an item changes no decision

  -- ---- the clock, the mark and the ends

  mark-item : (item : Item) (refused lost : Bool) (given : List (List Bool)) (before : Journal) → mark before ≤ clock before → let e : Entry = record { item = item; refused = refused; lost = lost; answers = given } in mark (e ∷ before) ≤ clock (e ∷ before)
  mark-item (Span a) refused lost given before h = omega arith
  mark-item (Tick m) refused lost given before h = omega arith
  mark-item (End sender) refused lost given before h = omega arith

  pub mark-clock : (past : Journal) → mark past ≤ clock past
  mark-clock [] = omega arith
  mark-clock (e ∷ before) = mark-item e.item e.refused e.lost e.answers before (mark-clock before)

  ended-more : (e : Entry) (before : Journal) (n : ℕ) → have_ended before n ≡ true → have_ended (e ∷ before) n ≡ true
  ended-more e before zero h = refl
  ended-more e before (suc n) h = let a = (and_parts (has_ended before n) (have_ended before n) h).0 in let b = ended-more e before n (and_parts (has_ended before n) (have_ended before n) h).1 in rw (a, b, or-true _)

  false-if : (b : Bool) → (b ≡ true → ⊥) → b ≡ false
  false-if true f = absurd (f refl)
  false-if false f = refl

  pub ended-before : (e : Entry) (before : Journal) (n : ℕ) → have_ended (e ∷ before) n ≡ false → have_ended before n ≡ false
  ended-before e before n h = false-if _ (λ k. let t = ended-more e before n k in cc)

  ended-span : (a : Arrival) (refused lost : Bool) (given : List (List Bool)) (before : Journal) (n : ℕ) → let e : Entry = record { item = Span a; refused = refused; lost = lost; answers = given } in have_ended (e ∷ before) n ≡ have_ended before n
  ended-span a refused lost given before zero = refl
  ended-span a refused lost given before (suc n) = rw (ended-span a refused lost given before n)

  ended-tick : (m : ℕ) (refused lost : Bool) (given : List (List Bool)) (before : Journal) (n : ℕ) → let e : Entry = record { item = Tick m; refused = refused; lost = lost; answers = given } in have_ended (e ∷ before) n ≡ have_ended before n
  ended-tick m refused lost given before zero = refl
  ended-tick m refused lost given before (suc n) = rw (ended-tick m refused lost given before n)

  -- ---- what is due

  -- it opened long enough before the mark, or its first root was taken so
  abbrev pub ripe : Journal → (mark : ℕ) → Opening → Bool
  ripe past mark o = nat_le (o.moment + s.decision_wait) mark || is_root_due mark s.root_wait (first_root_since past o)

  -- an undecided episode that is ripe at this mark, or too big, or the ends are complete
  abbrev pub due_by : (finished : Bool) → (mark : ℕ) → Journal → Notes → Opening → Bool
  due_by finished mark past noted o = is_none (decided_as noted o.at) && (finished || (ripe past mark o || is_oversized s past o))

  -- the same, by the last tick and the ends so far
  abbrev pub open_due : Journal → Notes → Opening → Bool
  open_due past noted o = due_by (have_ended past s.senders) (mark past) past noted o

  abbrev pub NotDue : Journal → (mark : ℕ) → Notes → Type 0
  NotDue past mark noted = Each (λ o. is_none (decided_as noted o.at) ≡ true → ripe past mark o ≡ false) (front noted)

  big_alone : (a b c : Bool) → (a ≡ true → b ≡ false) → (a && (b || c)) ≡ (a && c)
  big_alone true b c f = ap (λ x. x || c) (f refl)
  big_alone false b c f = refl

  -- where none is ripe, the due ones are those that are too big
  due-oversized : (past : Journal) (noted : Notes) → have_ended past s.senders ≡ false → NotDue past (mark past) noted → filter (open_due past noted) (front noted) ≡ oversized s past noted
  due-oversized past noted h w =
      filter-same (open_due past noted) (λ o. is_none (decided_as noted o.at) && is_oversized s past o) (front noted)
      (Each-weaken (λ o. is_none (decided_as noted o.at) ≡ true → ripe past (mark past) o ≡ false) (λ o. open_due past noted o ≡ (is_none (decided_as noted o.at) && is_oversized s past o))
      (λ o f. rw h (big_alone (is_none (decided_as noted o.at)) (ripe past (mark past) o) (is_oversized s past o) (λ k. f k))) (front noted) w)
      ∙ sym (filter-filter (is_oversized s past) (λ o. is_none (decided_as noted o.at)) (front noted))
      ∙ ap (filter (is_oversized s past)) (filter-reverse (λ o. is_none (decided_as noted o.at)) (in_buffer s noted))

  ripe_false : (a b c d : Bool) → (a && (b || (c || d))) ≡ false → a ≡ true → b ≡ false → c ≡ false
  ripe_false true false false d h p q = refl
  ripe_false true false true d h p q = cc
  ripe_false true true c d h p q = cc
  ripe_false false b c d h p q = cc

  not_due-from : (past : Journal) (noted : Notes) → have_ended past s.senders ≡ false → Each (λ o. open_due past noted o ≡ false) (front noted) → NotDue past (mark past) noted
  not_due-from past noted h w = Each-weaken (λ o. open_due past noted o ≡ false) (λ o. is_none (decided_as noted o.at) ≡ true → ripe past (mark past) o ≡ false)
      (λ o f k. ripe_false (is_none (decided_as noted o.at)) (have_ended past s.senders) (ripe past (mark past) o) (is_oversized s past o) f k h) (front noted) w

  unreversed : (P : Opening → Type 0) (os : List Opening) → Each P (reverse os) → Each P os
  unreversed P os h = subst (Each P) (reverse-reverse os) (Each-reverse P (reverse os) h)

  not_due-opening : (past : Journal) (noted m : Notes) (n now mark : ℕ) (t : TraceId) → let new : Opening = record { at = n; trace = t; moment = now } in m.openings ≡ new ∷ noted.openings → m.decisions ≡ noted.decisions → ripe past mark new ≡ false → NotDue past mark noted → NotDue past mark m
  not_due-opening past noted m n now mark t o d h w =
      let new : Opening = record { at = n; trace = t; moment = now } in
      let P = λ (p : Opening). is_none (decided_as noted p.at) ≡ true → ripe past mark p ≡ false in
      let made = makes_room s.num_traces room noted.openings in
      let held : Each P (in_buffer s noted) = unreversed P (in_buffer s noted) w in
      let stays : Each P made.kept = Each-left P made.kept (option_to_list (leaving s.num_traces noted.openings)) (rw (made.was) at held) in
      let next : in_buffer s m ≡ new ∷ made.kept = ap (last_of s.num_traces) o ∙ made.with_next new in
      rw (next, d) (Each-reverse P (new ∷ made.kept) ((λ _. h), stays))

  not_due-finding : (past : Journal) (noted : Notes) (n now mark : ℕ) (t : TraceId) (lost : Bool) (f : Finding) → let new : Opening = record { at = n; trace = t; moment = now } in ripe past mark new ≡ false → NotDue past mark noted → NotDue past mark (after_finding s t lost n now noted f)
  not_due-finding past noted n now mark t lost (joins o) h w = w
  not_due-finding past noted n now mark t lost (meets o v) h w = w
  not_due-finding past noted n now mark t lost opens h w = not_due-opening past noted (after_finding s t lost n now noted opens) n now mark t refl refl h w

  not_due-refused : (past : Journal) (noted m : Notes) (mark : ℕ) (refused : Bool) → NotDue past mark noted → NotDue past mark m → NotDue past mark (cond refused noted m)
  not_due-refused past noted m mark true w v = w
  not_due-refused past noted m mark false w v = v

  -- one that opens at the mark or later isn't due by that mark
  unripe : (e : Entry) (before : Journal) (mark : ℕ) (t : TraceId) → mark ≤ clock (e ∷ before) → 0 < s.decision_wait → let new : Opening = record { at = length before; trace = t; moment = clock (e ∷ before) } in ripe (e ∷ before) mark new ≡ false
  unripe e before mark t h k =
      let new : Opening = record { at = length before; trace = t; moment = clock (e ∷ before) } in
      let late : nat_le (clock (e ∷ before) + s.decision_wait) mark ≡ false = leb-not (clock (e ∷ before) + s.decision_wait) mark (omega (arith, h, k)) in
      let roots = none_due_after_mark s.root_wait mark e before new h ∙ ap (is_root_due mark s.root_wait) (no_roots before new (omega arith)) in
      ap (λ b. b || is_root_due mark s.root_wait (first_root_since (e ∷ before) new)) late ∙ roots

  -- nothing becomes due by a mark that has passed
  not_due-later : (e : Entry) (before : Journal) (mark : ℕ) (noted : Notes) → mark ≤ clock (e ∷ before) → NotDue before mark noted → NotDue (e ∷ before) mark noted
  not_due-later e before mark noted h w = Each-weaken (λ o. is_none (decided_as noted o.at) ≡ true → ripe before mark o ≡ false) (λ o. is_none (decided_as noted o.at) ≡ true → ripe (e ∷ before) mark o ≡ false)
      (λ o f k. ap (λ b. nat_le (o.moment + s.decision_wait) mark || b) (none_due_after_mark s.root_wait mark e before o h) ∙ f k) (front noted) w

  not_due-ids : (e : Entry) (before : Journal) (noted : Notes) (mark : ℕ) (ids : Option Ids) → mark ≤ clock (e ∷ before) → 0 < s.decision_wait → NotDue (e ∷ before) mark noted → NotDue (e ∷ before) mark (after_span s ids e before noted)
  not_due-ids e before noted mark None h k w = w
  not_due-ids e before noted mark (Some ids) h k w = not_due-refused (e ∷ before) noted (after_finding s ids.trace e.lost (length before) (clock (e ∷ before)) noted (finding s noted ids.trace)) mark e.refused w (not_due-finding (e ∷ before) noted (length before) (clock (e ∷ before)) mark ids.trace e.lost (finding s noted ids.trace) (unripe e before mark ids.trace h k) w)

  and-true : (b : Bool) → (b && true) ≡ b
  and-true true = refl
  and-true false = refl

  due-tick : (m : ℕ) (refused lost : Bool) (given : List (List Bool)) (before : Journal) (noted : Notes) → let e : Entry = record { item = Tick m; refused = refused; lost = lost; answers = given } in
      have_ended before s.senders ≡ false → filter (open_due (e ∷ before) noted) (front noted) ≡ due_at s e before (Tick m) noted
  due-tick m refused lost given before noted h =
      let e : Entry = record { item = Tick m; refused = refused; lost = lost; answers = given } in
      filter-same (open_due (e ∷ before) noted) (λ o. is_none (decided_as noted o.at) && is_due s (e ∷ before) o) (front noted)
      (Each-all (λ o. open_due (e ∷ before) noted o ≡ (is_none (decided_as noted o.at) && is_due s (e ∷ before) o)) (λ o. ap (λ b. due_by b (clock (e ∷ before)) (e ∷ before) noted o) (ended-tick m refused lost given before s.senders ∙ h) ∙ ap (λ b. is_none (decided_as noted o.at) && (nat_le (o.moment + s.decision_wait) (clock (e ∷ before)) || b || is_oversized s (e ∷ before) o)) (due_by_first_root s.root_wait (clock (e ∷ before)) (e ∷ before) o)) (front noted))
      ∙ sym (filter-filter (is_due s (e ∷ before)) (λ o. is_none (decided_as noted o.at)) (front noted))
      ∙ ap (filter (is_due s (e ∷ before))) (filter-reverse (λ o. is_none (decided_as noted o.at)) (in_buffer s noted))

  due-end : (sender : ℕ) (refused lost : Bool) (given : List (List Bool)) (before : Journal) (noted : Notes) → let e : Entry = record { item = End sender; refused = refused; lost = lost; answers = given } in
      have_ended before s.senders ≡ false → NotDue before (mark before) noted → (b : Bool) → have_ended (e ∷ before) s.senders ≡ b →
      filter (open_due (e ∷ before) noted) (front noted) ≡ due_at s e before (End sender) noted
  due-end sender refused lost given before noted h w true k =
      let e : Entry = record { item = End sender; refused = refused; lost = lost; answers = given } in
      filter-same (open_due (e ∷ before) noted) (λ o. is_none (decided_as noted o.at)) (front noted)
      (Each-all (λ o. open_due (e ∷ before) noted o ≡ is_none (decided_as noted o.at)) (λ o. rw k (and-true (is_none (decided_as noted o.at)))) (front noted))
      ∙ filter-reverse (λ o. is_none (decided_as noted o.at)) (in_buffer s noted) ∙ rw (k, h)
  due-end sender refused lost given before noted h w false k =
      let e : Entry = record { item = End sender; refused = refused; lost = lost; answers = given } in
      due-oversized (e ∷ before) noted k (not_due-later e before (mark before) noted (omega (arith, mark-clock before)) w) ∙ rw k

  -- right after an item, what is due is what the journal says
  pub due-item : (item : Item) (refused lost : Bool) (given : List (List Bool)) (before : Journal) (noted : Notes) → let e : Entry = record { item = item; refused = refused; lost = lost; answers = given } in
      have_ended before s.senders ≡ false → 0 < s.decision_wait → NotDue before (mark before) noted →
      let n = after_item s e before item noted in filter (open_due (e ∷ before) n) (front n) ≡ due_at s e before item n
  due-item (Span a) refused lost given before noted h k w =
      let e : Entry = record { item = Span a; refused = refused; lost = lost; answers = given } in
      let n = after_span s a.rec.span.ids e before noted in
      due-oversized (e ∷ before) n (ended-span a refused lost given before s.senders ∙ h)
      (not_due-ids e before noted (mark before) a.rec.span.ids (omega (arith, mark-clock before)) k (not_due-later e before (mark before) noted (omega (arith, mark-clock before)) w))
  due-item (Tick m) refused lost given before noted h k w = due-tick m refused lost given before noted h
  due-item (End sender) refused lost given before noted h k w = let e : Entry = record { item = End sender; refused = refused; lost = lost; answers = given } in due-end sender refused lost given before noted h w (have_ended (e ∷ before) s.senders) refl

  -- ---- decisions, in turn

  abbrev pub now_with : Notes → List Decision → Notes
  now_with noted ds = record noted { decisions = ds }

  pub due-decided : (past : Journal) (noted : Notes) (d : Decision) (ds : List Decision) (o : Opening) → (d.opening.at == o.at) ≡ true → open_due past (now_with noted (d ∷ ds)) o ≡ false
  due-decided past noted d ds o h = rw h

  pub due-other : (past : Journal) (noted : Notes) (d : Decision) (ds : List Decision) (o : Opening) → (d.opening.at == o.at) ≡ false → open_due past (now_with noted (d ∷ ds)) o ≡ open_due past (now_with noted ds) o
  due-other past noted d ds o h = rw h

  due-never : (past : Journal) (noted : Notes) (d : Decision) (ds : List Decision) (o : Opening) (b : Bool) → (d.opening.at == o.at) ≡ b → open_due past (now_with noted ds) o ≡ false → open_due past (now_with noted (d ∷ ds)) o ≡ false
  due-never past noted d ds o true h k = due-decided past noted d ds o h
  due-never past noted d ds o false h k = due-other past noted d ds o h ∙ k

  -- deciding the first of what is due leaves the others
  pub step-due : (past : Journal) (noted : Notes) (d : Decision) (ds : List Decision) (os rest : List Opening) → Apart OtherPlace os →
      filter (open_due past (now_with noted ds)) os ≡ d.opening ∷ rest → filter (open_due past (now_with noted (d ∷ ds))) os ≡ rest
  step-due past noted d ds [] rest a e = cc
  step-due past noted d ds (o ∷ os) rest a e = (elim (open_due past (now_with noted ds) o) as (λ b. open_due past (now_with noted ds) o ≡ b → cond b (o ∷ filter (open_due past (now_with noted ds)) os) (filter (open_due past (now_with noted ds)) os) ≡ d.opening ∷ rest → filter (open_due past (now_with noted (d ∷ ds))) (o ∷ os) ≡ rest) [
    | true ↦ λ h k.
        let same : d.opening ≡ o = cc in
        let tail : filter (open_due past (now_with noted ds)) os ≡ rest = cc in
        let at : (d.opening.at == o.at) ≡ true = ap (λ (p : Opening). p.at == o.at) same ∙ eqb-same o.at in
        let others : Each (λ p. open_due past (now_with noted (d ∷ ds)) p ≡ open_due past (now_with noted ds) p) os
        = Each-weaken (OtherPlace o) (λ p. open_due past (now_with noted (d ∷ ds)) p ≡ open_due past (now_with noted ds) p) (λ p f. due-other past noted d ds p (ap (λ (q : Opening). q.at == p.at) same ∙ f.0)) os a.0 in
        let gone : filter (open_due past (now_with noted (d ∷ ds))) (o ∷ os) ≡ filter (open_due past (now_with noted (d ∷ ds))) os = rw (due-decided past noted d ds o at) in
        gone ∙ filter-same _ _ os others ∙ tail
    | false ↦ λ h k.
        let gone : filter (open_due past (now_with noted (d ∷ ds))) (o ∷ os) ≡ filter (open_due past (now_with noted (d ∷ ds))) os = rw (due-never past noted d ds o (d.opening.at == o.at) refl h) in
        gone ∙ step-due past noted d ds os rest a.1 k
  ]) refl e

  abbrev pub in_turn : Journal → List Opening → List (List Bool) → List Decision
  in_turn past os answers = decisions_in_turn s past os answers

  onto : (d : Decision) (ds earlier : List Decision) → reverse (d ∷ ds) ++ earlier ≡ reverse ds ++ (d ∷ earlier)
  onto d ds earlier = rw (reverse-cons d ds) (append_assoc (reverse ds) (d ∷ []) earlier)

  -- after k of the decisions, each by its answers, the others are due
  pub walk : (past : Journal) (noted : Notes) (k : ℕ) (os : List Opening) (answers : List (List Bool)) (earlier : List Decision) → Apart OtherPlace (front noted) →
      are_each_answered s past (take k os) answers ≡ true → filter (open_due past (now_with noted earlier)) (front noted) ≡ os →
      filter (open_due past (now_with noted (reverse (take k (in_turn past os answers)) ++ earlier))) (front noted) ≡ drop k os
  walk past noted zero os answers earlier a h e = e
  walk past noted (suc k) [] answers earlier a h e = e
  walk past noted (suc k) (o ∷ os) [] earlier a h e = cc
  walk past noted (suc k) (o ∷ os) (g ∷ later) earlier a h e =
      let d = decision s past o g in
      let next = walk past noted k os later (d ∷ earlier) a (and_parts (are_answered (policies_for s (spans_since past o)) g (spans_since past o)) (are_each_answered s past (take k os) later) h).1 (step-due past noted d earlier (front noted) os a e) in
      let P = λ (ds : List Decision). filter (open_due past (now_with noted ds)) (front noted) ≡ drop k os in
      subst P (sym (onto d (take k (in_turn past os later)) earlier)) next

  pub turn-done : (past : Journal) (k : ℕ) (os : List Opening) (answers : List (List Bool)) → drop k os ≡ [] → take k (in_turn past os answers) ≡ in_turn past os answers
  turn-done past zero [] answers e = refl
  turn-done past zero (o ∷ os) answers e = cc
  turn-done past (suc k) [] answers e = refl
  turn-done past (suc k) (o ∷ os) [] e = refl
  turn-done past (suc k) (o ∷ os) (g ∷ later) e = ap (λ ds. decision s past o g ∷ ds) (turn-done past k os later e)

  -- ---- every journal

  abbrev pub Stopped : Journal → Type 0
  Stopped past = StoppedInTime s past

  pub stopped-before : (e : Entry) (before : Journal) → have_ended before s.senders ≡ false → Stopped before
  stopped-before e [] h = tt
  stopped-before e (f ∷ before) h = ended-before f before s.senders h

  abbrev pub Known : Journal → Type 0
  Known past = have_ended past s.senders ≡ false → NotDue past (mark past) (notes s past)

  -- what is due after k decisions at the last item
  abbrev pub item_notes : Entry → Journal → Notes
  item_notes e before = after_item s e before e.item (notes s before)

  abbrev pub due_list : Entry → Journal → List Opening
  due_list e before = due_at s e before e.item (item_notes e before)

  pub due-dealt : (e : Entry) (before : Journal) (k : ℕ) → have_ended before s.senders ≡ false → 0 < s.decision_wait → Known before → IsAnsweredUpTo s (e ∷ before) k →
      filter (open_due (e ∷ before) (notes_dealt s (e ∷ before) k)) (front (item_notes e before)) ≡ drop k (due_list e before)
  due-dealt e before k h w g given =
      let noted = notes s before in
      let m = item_notes e before in
      let item = sound_item s room before e.item e noted (sound_notes s room before) in
      let first : filter (open_due (e ∷ before) (now_with m m.decisions)) (front m) ≡ due_list e before = due-item e.item e.refused e.lost e.answers before noted h w (g h) in
      let all = walk (e ∷ before) m k (due_list e before) e.answers m.decisions (front-places (e ∷ before) m item) given.0 first in
      all

  pub all-dealt : (e : Entry) (before : Journal) (k : ℕ) → drop k (due_list e before) ≡ [] → notes_dealt s (e ∷ before) k ≡ notes s (e ∷ before)
  unfolding notes
  all-dealt e before k h =
      let t = turn-done (e ∷ before) k (due_list e before) e.answers h in
      ap (λ ds. after_decisions ds (item_notes e before)) t

  taken-whole : (os : List Opening) → take (length os) os ≡ os
  taken-whole [] = refl
  taken-whole (o ∷ os) = ap (λ ps. o ∷ ps) (taken-whole os)

  -- every journal that took no item after its ends, and each of whose decisions is answered
  pub known : (past : Journal) → 0 < s.decision_wait → Stopped past → IsAnswered s past → Known past
  unfolding notes
  known [] w h given = λ _. none_yet s.num_traces
    where
      none_yet : (num_traces : Option ℕ) → Each (λ (o : Opening). is_none (decided_as no_notes o.at) ≡ true → ripe [] 0 o ≡ false) (reverse (last_of num_traces []))
      none_yet None = tt
      none_yet (Some zero) = tt
      none_yet (Some (suc n)) = tt
  known (e ∷ before) w h given =
      let g = known before w (stopped-before e before h) given.1 in
      let m = item_notes e before in
      let os = due_list e before in
      let k = length os in
      let left = due-dealt e before k h w g (ap (λ (ps : List Opening). are_each_answered s (e ∷ before) ps e.answers) (taken-whole os) ∙ given.0, given.1) in
      let none : drop k os ≡ [] = drop-length os in
      let all = all-dealt e before k none in
      let end : filter (open_due (e ∷ before) (notes s (e ∷ before))) (front m) ≡ [] = (let Q = λ (n : Notes). filter (open_due (e ∷ before) n) (front m) ≡ [] in subst Q all (left ∙ none)) in
      λ runs. not_due-from (e ∷ before) (notes s (e ∷ before)) runs (Each-from_none (open_due (e ∷ before) (notes s (e ∷ before))) (front m) end)

  -- ---- what stands for a journal

  pub length-ends : (past : Journal) (n : ℕ) → length (ends past n) ≡ n
  length-ends past zero = refl
  length-ends past (suc n) = length_push (ends past n) (has_ended past n) ∙ ap (λ k. k + 1) (length-ends past n) ∙ add-one n

  pub and-swap : (a b : Bool) → (a && (b && true)) ≡ (b && a)
  and-swap true true = refl
  and-swap true false = refl
  and-swap false true = refl
  and-swap false false = refl

  pub all_ended : (past : Journal) (n : ℕ) → list_all (λ b. b) (ends past n) ≡ have_ended past n
  all_ended past zero = refl
  all_ended past (suc n) = list_all-append (λ b. b) (ends past n) (has_ended past n ∷ []) ∙ (rw (all_ended past n) (and-swap (have_ended past n) (has_ended past n)))

  pub ends-span : (a : Arrival) (refused lost : Bool) (given : List (List Bool)) (before : Journal) (n : ℕ) → let e : Entry = record { item = Span a; refused = refused; lost = lost; answers = given } in ends (e ∷ before) n ≡ ends before n
  ends-span a refused lost given before zero = refl
  ends-span a refused lost given before (suc n) = rw (ends-span a refused lost given before n)

  pub ends-tick : (m : ℕ) (refused lost : Bool) (given : List (List Bool)) (before : Journal) (n : ℕ) → let e : Entry = record { item = Tick m; refused = refused; lost = lost; answers = given } in ends (e ∷ before) n ≡ ends before n
  ends-tick m refused lost given before zero = refl
  ends-tick m refused lost given before (suc n) = rw (ends-tick m refused lost given before n)

  ends-other : (sender n : ℕ) (x : Bool) (ys : List Bool) (b : Bool) → length ys ≡ n → nat_lt sender n ≡ b → (n == sender) ≡ false → slice_set (ys ++ x ∷ []) sender true ≡ slice_set ys sender true ++ x ∷ []
  ends-other sender n x ys true l e f = let inside : sender < length ys = grind (arith, nat_tests) in set-append_left ys (x ∷ []) sender true inside
  ends-other sender n x ys false l e f =
      let past : length ys < sender = grind (arith, nat_tests) in
      let over : length (ys ++ x ∷ []) ≤ sender = omega (arith, length_push ys x) in
      set_past (ys ++ x ∷ []) sender true over ∙ ap (λ zs. zs ++ x ∷ []) (sym (set_past ys sender true (omega arith)))

  ends-last : (sender n : ℕ) (x : Bool) (ys : List Bool) (b : Bool) → length ys ≡ n → (n == sender) ≡ b → ((sender == n) ≡ b) → slice_set (ys ++ x ∷ []) sender true ≡ slice_set ys sender true ++ ((sender == n) || x) ∷ []
  ends-last sender n x ys true l e f =
      let at : sender ≡ n = grind (arith, nat_tests) in
      rw (f, at, ← l) (set-append_seam ys x [] true ∙ ap (λ zs. zs ++ true ∷ []) (sym (set_past ys (length ys) true (omega arith))))
  ends-last sender n x ys false l e f = rw f (ends-other sender n x ys (nat_lt sender n) l refl e)

  pub ends-end : (sender : ℕ) (refused lost : Bool) (given : List (List Bool)) (before : Journal) (n : ℕ) → let e : Entry = record { item = End sender; refused = refused; lost = lost; answers = given } in ends (e ∷ before) n ≡ slice_set (ends before n) sender true
  ends-end sender refused lost given before zero = refl
  ends-end sender refused lost given before (suc n) = rw (ends-end sender refused lost given before n) (sym (ends-last sender n (has_ended before n) (ends before n) (sender == n) (length-ends before n) (grind (arith, nat_tests)) refl))

  -- ---- the shard's side of what is due

  -- an opening's episode is due in the shard where the opening is ripe
  pub episode-due : (past : Journal) (noted : Notes) (fin : Bool) (m : ℕ) (o : Opening) → is_due_by fin m s.decision_wait s.root_wait (episode s past noted o) ≡ due_by fin m past noted o
  episode-due past noted fin m o = by (decided_as noted o.at)
    where
      by : (v : Option Verdict) → (is_none v && (fin || (nat_le (o.moment + s.decision_wait) m || is_root_due m s.root_wait (root_left (first_root_since past o) v) || is_too_big s.maximum_trace_size (spans_left (spans_since past o) v)))) ≡ (is_none v && (fin || (ripe past m o || is_oversized s past o)))
      by None = refl
      by (Some v) = refl

  find-episode : (past : Journal) (noted : Notes) (fin : Bool) (m : ℕ) (o : Opening) (os : List Opening) (b : Bool) → due_by fin m past noted o ≡ b →
      find (is_due_by fin m s.decision_wait s.root_wait) (map (episode s past noted) os) ≡ option_map (episode s past noted) (find (due_by fin m past noted) os) →
      find (is_due_by fin m s.decision_wait s.root_wait) (map (episode s past noted) (o ∷ os)) ≡ option_map (episode s past noted) (find (due_by fin m past noted) (o ∷ os))
  find-episode past noted fin m o os true h ih = ap (λ b. cond b (Some (episode s past noted o)) (find (is_due_by fin m s.decision_wait s.root_wait) (map (episode s past noted) os))) (episode-due past noted fin m o ∙ h) ∙ ap (λ b. option_map (episode s past noted) (cond b (Some o) (find (due_by fin m past noted) os))) (sym h)
  find-episode past noted fin m o os false h ih = ap (λ b. cond b (Some (episode s past noted o)) (find (is_due_by fin m s.decision_wait s.root_wait) (map (episode s past noted) os))) (episode-due past noted fin m o ∙ h) ∙ ih ∙ ap (λ b. option_map (episode s past noted) (cond b (Some o) (find (due_by fin m past noted) os))) (sym h)

  pub find-episodes : (past : Journal) (noted : Notes) (fin : Bool) (m : ℕ) (os : List Opening) → find (is_due_by fin m s.decision_wait s.root_wait) (map (episode s past noted) os) ≡ option_map (episode s past noted) (find (due_by fin m past noted) os)
  find-episodes past noted fin m [] = refl
  find-episodes past noted fin m (o ∷ os) = find-episode past noted fin m o os (due_by fin m past noted o) refl (find-episodes past noted fin m os)

  abbrev pub DueIn : Standing → Episode → Bool
  DueIn st e = is_due_by (list_all (λ b. b) st.ends) st.mark s.decision_wait s.root_wait e

  -- nothing is due in what stands for a journal: each decision has been dealt with
  pub drop_nil : (k : ℕ) → drop {A = Opening} k [] ≡ []
  drop_nil zero = refl
  drop_nil (suc k) = refl

  pub none_mapped : (f : Opening → Episode) (o : Option Opening) → option_map f o ≡ None → o ≡ None
  none_mapped f None e = refl
  none_mapped f (Some o) e = cc

  pub nothing_left : (past : Journal) (k : ℕ) (st : Standing) → 0 < s.decision_wait → Stopped past → st ≡ standing s past k → IsAnsweredUpTo s past k → find (DueIn st) st.episodes ≡ None → drop k (due_now s past) ≡ []
  nothing_left [] k st w h e given f = drop_nil k
  nothing_left (x ∷ before) k st w h e given f =
      let past : Journal = x ∷ before in
      let n = notes_dealt s past k in
      let g : find (DueIn (standing s past k)) (map (episode s past n) (front n)) ≡ None = (let P = λ (z : Standing). find (DueIn z) z.episodes ≡ None in subst P e f) in
      let g2 : find (is_due_by (have_ended past s.senders) (mark past) s.decision_wait s.root_wait) (map (episode s past n) (front n)) ≡ None = (let P = λ (b : Bool). find (is_due_by b (mark past) s.decision_wait s.root_wait) (map (episode s past n) (front n)) ≡ None in subst P (all_ended past s.senders) g) in
      let g3 : find (open_due past n) (front n) ≡ None = none_mapped (episode s past n) (find (open_due past n) (front n)) (sym (find-episodes past n (have_ended past s.senders) (mark past) (front n)) ∙ g2) in
      sym (due-dealt x before k h w (known before w (stopped-before x before h) given.1) given) ∙ none-from_find (open_due past n) (front n) g3

  pub dealt-notes : (past : Journal) (k : ℕ) → drop k (due_now s past) ≡ [] → notes_dealt s past k ≡ notes s past
  unfolding notes
  dealt-notes [] k h = refl
  dealt-notes (e ∷ before) k h = all-dealt e before k h
