-- What the buffer holds, before and after an item or a decision.
-- For the laws of the headline, `headline` and each of its parts.
use Rattle.std.proofs.Common.{◌≡◌, ℕ, zero, suc, ◌<◌, ◌≤◌, Bool, true, false, cond, not, ◌&&◌, ◌==◌, nat_lt, List, [], ◌∷◌, ◌++◌, length, flat_map, take, Option, Some, None, is_none, option_map, option_to_list, refl, ap, sym, subst, ◌∙◌, arith, append_assoc, ne_eqb, ltb-false}
use Rattle.std.proofs.lemmas.List.{append-nil}
use Rattle.span_ids.proofs.SameTraces.{same_trace-refl}
use Rattle.span_ids.specs.Same.{same_trace}
use Rattle.journal_theory.specs.Journal.{Settings, Journal, ids_have_trace, is_of_trace, clock, Opening, Decision, Notes, last_of, in_buffer, leaving, decided_as, undecided, finding, spans_since, due_at, decisions_in_turn, after_finding, after_span, after_item, after_decisions, decisions_at, notes, due_now, notes_dealt, Entry}
use Rattle.journal_theory.specs.Fate.{DroppedSpan, counts, effect_of_verdict, effect_of_leaving, effect_of_leaving_decided, effect_of_finding, effect_of_span}
use Rattle.otlp_types.specs.declared.span.Ids.{Ids}
use Rattle.span_ids.specs.declared.ids.TraceId.{TraceId}
use Rattle.otlp_types.specs.declared.arrival.Arrival.{Arrival}
use Rattle.otlp_types.specs.declared.arrival.Item.{Item}
use Rattle.otlp_types.specs.declared.arrival.Item.TheVariants.{Span, Tick, End}
use Rattle.span_ids.specs.declared.outcome.Verdict.{Verdict}
use Rattle.span_ids.specs.declared.outcome.Verdict.TheVariants.{Sampled, NotSampled}
use Rattle.span_ids.specs.declared.outcome.Reason.{Reason}
use Rattle.span_ids.specs.declared.outcome.Reason.TheVariants.{NoMemory, Evicted, LateNotSampled}
use Rattle.journal_theory.proofs.Notes.{HasRoom, own_spans, other_trace, spans_more, spans_before, spans_of_trace, is_open, Sound, Meeting, it_joins, it_meets, it_opens, meeting}
use Rattle.journal_theory.proofs.ListFacts.{Each, Each-left, Each-right, Each-weaker, Each-both, spill, spill_is, spill-append, spill-same, Each-spill}
use Rattle.journal_theory.proofs.Find.{find_none}
use Rattle.journal_theory.proofs.Sound.{Makes, makes_room, Each-buffer, sound_notes}

-- the spans of the undecided episodes in the buffer
abbrev pub content : Settings → Journal → Notes → List Arrival
content s J noted = spill (spans_since J) (is_open noted) (in_buffer s noted)

pub content_is : (s : Settings) (J : Journal) (noted : Notes) → flat_map (spans_since J) (undecided s noted) ≡ content s J noted
content_is s J noted = spill_is (spans_since J) (is_open noted) (in_buffer s noted)

abbrev pub IsOther : TraceId → Arrival → Type 0
IsOther t a = is_of_trace t a ≡ false

-- what taking a span with this trace does to what the buffer holds, with what is released and counted
pub data Taking (a : Arrival) (t : TraceId) (before after released : List Arrival) (counted : List DroppedSpan) : Type 0 where
  kept : (gone x y : List Arrival) → before ≡ gone ++ (x ++ y) → after ≡ x ++ a ∷ y → released ≡ [] → counted ≡ counts Evicted gone → Each (IsOther t) y → Taking a t before after released counted
  late : after ≡ before → released ≡ a ∷ [] → counted ≡ [] → Each (IsOther t) before → Taking a t before after released counted
  dropped : (r : Reason) → after ≡ before → released ≡ [] → counted ≡ counts r (a ∷ []) → Taking a t before after released counted

module _ (s : Settings) (room : HasRoom s.num_traces) (J : Journal) (noted : Notes) (h : Sound s J noted) (a : Arrival) (ids : Ids) (has : a.rec.span.ids ≡ Some ids) (lost : Bool) (given : List (List Bool)) where
  abbrev entry : Bool → Entry
  entry refused = record { item = Span a; refused = refused; lost = lost; answers = given }

  -- an older episode gains nothing where the span has another trace or is refused
  pub same_spans : (refused : Bool) (o : Opening) → o.at < length J → (is_of_trace o.trace a && not refused) ≡ false → spans_since (entry refused ∷ J) o ≡ spans_since J o
  same_spans refused o l e = spans_more J o (Span a) refused lost given (omega arith) ∙ go (is_of_trace o.trace a && not refused) e
    where
      go : (b : Bool) → b ≡ false → spans_since J o ++ cond b (a ∷ []) [] ≡ spans_since J o
      go true e = absurd (cc e)
      go false e = append-nil (spans_since J o)

  pub one_more : (o : Opening) → o.at ≤ length J → same_trace o.trace ids.trace ≡ true → spans_since (entry false ∷ J) o ≡ spans_since J o ++ a ∷ []
  one_more o l e = spans_more J o (Span a) false lost given l ∙ go (is_of_trace o.trace a) (ap (ids_have_trace o.trace) has ∙ e)
    where
      go : (b : Bool) → b ≡ true → spans_since J o ++ cond (b && true) (a ∷ []) [] ≡ spans_since J o ++ a ∷ []
      go true e = refl
      go false e = absurd (cc e)

  abbrev Still : Bool → Opening → Type 0
  Still refused o = cond (is_open noted o) (spans_since J o) [] ≡ cond (is_open noted o) (spans_since (entry refused ∷ J) o) []

  still_refused : (o : Opening) → o.at < length J → Still true o
  still_refused o l = ap (λ z. cond (is_open noted o) z []) (sym (same_spans true o l (go (is_of_trace o.trace a))))
    where
      go : (b : Bool) → (b && false) ≡ false
      go true = refl
      go false = refl

  still_other : (o : Opening) → o.at < length J → (is_open noted o ≡ true → same_trace o.trace ids.trace ≡ false) → Still false o
  still_other o l f = go (is_open noted o) refl
    where
      go : (b : Bool) → is_open noted o ≡ b → cond b (spans_since J o) [] ≡ cond b (spans_since (entry false ∷ J) o) []
      go true e = sym (same_spans false o l (ap (λ (b : Bool). b && true) (ap (ids_have_trace o.trace) has ∙ f e)))
      go false e = refl

  below : Each (λ (o : Opening). o.at < length J) (in_buffer s noted)
  below = Each-buffer (λ (o : Opening). o.at < length J) s noted h.below

  abbrev Apart : Opening → Type 0
  Apart o = is_open noted o ≡ true → same_trace o.trace ids.trace ≡ false

  others_hold : (os : List Opening) → Each Apart os → Each (IsOther ids.trace) (spill (spans_since J) (is_open noted) os)
  others_hold os f = Each-spill (IsOther ids.trace) (spans_since J) (is_open noted) os (Each-weaker Apart (λ (o : Opening). is_open noted o ≡ true → Each (IsOther ids.trace) (spans_since J o)) os
      (λ o g p. Each-weaker (λ (b : Arrival). is_of_trace o.trace b ≡ true) (IsOther ids.trace) (spans_since J o) (λ b q. other_trace o.trace ids.trace b.rec.span.ids q (g p)) (spans_of_trace J o)) f)

  others_stay : (os : List Opening) → Each (λ (o : Opening). o.at < length J) os → Each Apart os → spill (spans_since J) (is_open noted) os ≡ spill (spans_since (entry false ∷ J)) (is_open noted) os
  others_stay os l f = spill-same (spans_since J) (spans_since (entry false ∷ J)) (is_open noted) (is_open noted) os (Each-both (λ (o : Opening). o.at < length J) Apart (Still false) os (λ o k g. still_other o k g) l f)

  refused_stay : content s J noted ≡ content s (entry true ∷ J) noted
  refused_stay = spill-same (spans_since J) (spans_since (entry true ∷ J)) (is_open noted) (is_open noted) (in_buffer s noted) (Each-weaker (λ (o : Opening). o.at < length J) (Still true) (in_buffer s noted) (λ o k. still_refused o k) below)

  took_late : (o : Opening) (v : Verdict) → Each Apart (in_buffer s noted)
      → Taking a ids.trace (content s J noted) (content s (entry false ∷ J) noted) (effect_of_verdict LateNotSampled (a ∷ []) v).released (effect_of_verdict LateNotSampled (a ∷ []) v).counted
  took_late o Sampled f = late (sym (others_stay (in_buffer s noted) below f)) refl refl (others_hold (in_buffer s noted) f)
  took_late o NotSampled f = dropped LateNotSampled (sym (others_stay (in_buffer s noted) below f)) refl refl

  took_joins : (o : Opening) (newer older : List Opening) → in_buffer s noted ≡ newer ++ o ∷ older → same_trace o.trace ids.trace ≡ true → decided_as noted o.at ≡ None
      → Each (λ (x : Opening). same_trace x.trace ids.trace ≡ false) newer → Each Apart older
      → Taking a ids.trace (content s J noted) (content s (entry false ∷ J) noted) [] []
  took_joins o newer older e same d n f =
      kept [] (spill (spans_since J) (is_open noted) older ++ spans_since J o) (spill (spans_since J) (is_open noted) newer) before after refl refl (others_hold newer n')
    where
      n' : Each Apart newer
      n' = Each-weaker (λ (x : Opening). same_trace x.trace ids.trace ≡ false) Apart newer (λ x k p. k) n

      l : Each (λ (o : Opening). o.at < length J) (newer ++ o ∷ older)
      l = rw e at below

      in_it : Each (λ (o : Opening). o.at < length J) (o ∷ older)
      in_it = Each-right (λ (o : Opening). o.at < length J) newer (o ∷ older) l

      is_it : is_open noted o ≡ true
      is_it = ap is_none d

      at_split : (J' : Journal) → content s J' noted ≡ (spill (spans_since J') (is_open noted) older ++ spans_since J' o) ++ spill (spans_since J') (is_open noted) newer
      at_split J' = ap (spill (spans_since J') (is_open noted)) e ∙ spill-append (spans_since J') (is_open noted) newer (o ∷ older) ∙ ap (λ b. (spill (spans_since J') (is_open noted) older ++ cond b (spans_since J' o) []) ++ spill (spans_since J') (is_open noted) newer) is_it

      before : content s J noted ≡ (spill (spans_since J) (is_open noted) older ++ spans_since J o) ++ spill (spans_since J) (is_open noted) newer
      before = at_split J

      tail : spans_since (entry false ∷ J) o ≡ spans_since J o ++ a ∷ []
      tail = one_more o (omega (arith, in_it.0)) same

      regroup : (x y z : List Arrival) → (x ++ (y ++ a ∷ [])) ++ z ≡ (x ++ y) ++ a ∷ z
      regroup x y z = simp append_assoc

      after : content s (entry false ∷ J) noted ≡ (spill (spans_since J) (is_open noted) older ++ spans_since J o) ++ a ∷ spill (spans_since J) (is_open noted) newer
      after = at_split (entry false ∷ J)
          ∙ ap (λ z. (z ++ spans_since (entry false ∷ J) o) ++ spill (spans_since (entry false ∷ J)) (is_open noted) newer) (sym (others_stay older in_it.1 f))
          ∙ ap (λ z. (spill (spans_since J) (is_open noted) older ++ z) ++ spill (spans_since (entry false ∷ J)) (is_open noted) newer) tail
          ∙ ap (λ z. (spill (spans_since J) (is_open noted) older ++ (spans_since J o ++ a ∷ [])) ++ z) (sym (others_stay newer (Each-left (λ (o : Opening). o.at < length J) newer (o ∷ older) l) n'))
          ∙ regroup (spill (spans_since J) (is_open noted) older) (spans_since J o) (spill (spans_since J) (is_open noted) newer)

  -- what the leaving episode held is counted
  gone_counted : (out : Option Opening) → (effect_of_leaving J noted out).counted ≡ counts Evicted (spill (spans_since J) (is_open noted) (option_to_list out))
  gone_counted None = refl
  gone_counted (Some o) = go (decided_as noted o.at)
    where
      go : (d : Option Verdict) → (effect_of_leaving_decided Evicted (spans_since J o) d).counted ≡ counts Evicted ([] ++ cond (is_none d) (spans_since J o) [])
      go None = refl
      go (Some v) = refl

  pub gone_released : (out : Option Opening) → (effect_of_leaving J noted out).released ≡ []
  gone_released None = refl
  gone_released (Some o) = go (decided_as noted o.at)
    where
      go : (d : Option Verdict) → (effect_of_leaving_decided Evicted (spans_since J o) d).released ≡ []
      go None = refl
      go (Some v) = refl

  abbrev opened : Opening
  opened = record { at = length J; trace = ids.trace; moment = clock (entry false ∷ J) }

  new_is_open : is_open noted opened ≡ true
  new_is_open = ap (λ r. is_none (option_map (λ (d : Decision). d.verdict) r)) (find_none (λ (d : Decision). d.opening.at == length J) noted.decisions
      (Each-weaker (λ (d : Decision). d.opening.at < length J) (λ (d : Decision). (d.opening.at == length J) ≡ false) noted.decisions (λ d l. ne_eqb d.opening.at (length J) (λ q. omega arith)) h.decided))

  took_opens : Each Apart (in_buffer s noted)
      → Taking a ids.trace (content s J noted) (spill (spans_since (entry false ∷ J)) (is_open noted) (last_of s.num_traces (opened ∷ noted.openings)))
      (effect_of_leaving J noted (leaving s.num_traces noted.openings)).released (effect_of_leaving J noted (leaving s.num_traces noted.openings)).counted
  took_opens f =
      kept (spill (spans_since J) (is_open noted) out) (spill (spans_since J) (is_open noted) m.kept) [] before after (gone_released (leaving s.num_traces noted.openings)) (gone_counted (leaving s.num_traces noted.openings)) tt
    where
      m : Makes s.num_traces noted.openings
      m = makes_room s.num_traces room noted.openings

      out : List Opening
      out = option_to_list (leaving s.num_traces noted.openings)

      before : content s J noted ≡ spill (spans_since J) (is_open noted) out ++ (spill (spans_since J) (is_open noted) m.kept ++ [])
      before = ap (spill (spans_since J) (is_open noted)) m.was ∙ spill-append (spans_since J) (is_open noted) m.kept out ∙ ap (λ z. spill (spans_since J) (is_open noted) out ++ z) (sym (append-nil (spill (spans_since J) (is_open noted) m.kept)))

      stays : spill (spans_since J) (is_open noted) m.kept ≡ spill (spans_since (entry false ∷ J)) (is_open noted) m.kept
      stays = others_stay m.kept (Each-left (λ (o : Opening). o.at < length J) m.kept out (rw (m.was) at below)) (Each-left Apart m.kept out (rw (m.was) at f))

      after : spill (spans_since (entry false ∷ J)) (is_open noted) (last_of s.num_traces (opened ∷ noted.openings)) ≡ spill (spans_since J) (is_open noted) m.kept ++ a ∷ []
      after = ap (spill (spans_since (entry false ∷ J)) (is_open noted)) (m.with_next opened)
          ∙ ap (λ z. z ++ cond (is_open noted opened) (spans_since (entry false ∷ J) opened) []) (sym stays)
          ∙ ap (λ b. spill (spans_since J) (is_open noted) m.kept ++ cond b (spans_since (entry false ∷ J) opened) []) new_is_open
          ∙ ap (λ z. spill (spans_since J) (is_open noted) m.kept ++ z) (one_more opened (omega arith) (same_trace-refl ids.trace) ∙ ap (λ z. z ++ a ∷ []) (spans_before J opened (omega arith)))

  took : Meeting s noted ids.trace
      → Taking a ids.trace (content s J noted) (content s (entry false ∷ J) (after_finding s ids.trace lost (length J) (clock (entry false ∷ J)) noted (finding s noted ids.trace)))
      (effect_of_finding s J noted a (finding s noted ids.trace)).released (effect_of_finding s J noted a (finding s noted ids.trace)).counted
  took (it_joins o newer older e same d l n f fi) = rw fi (took_joins o newer older e same d n f)
  took (it_meets o v l d f fi) = rw fi (took_late o v f)
  took (it_opens f fi) = rw fi (took_opens f)

-- ---- taking a span

pub took_span : (s : Settings) → HasRoom s.num_traces → (J : Journal) (a : Arrival) (ids : Ids) → a.rec.span.ids ≡ Some ids → (refused lost : Bool)
    → Taking a ids.trace (content s J (notes s J)) (content s (record { item = Span a; refused = refused; lost = lost; answers = [] } ∷ J) (after_span s a.rec.span.ids (record { item = Span a; refused = refused; lost = lost; answers = [] }) J (notes s J)))
    (effect_of_span s J refused a a.rec.span.ids).released (effect_of_span s J refused a a.rec.span.ids).counted
took_span s room J a ids has refused lost = subst (λ (z : Option Ids). Taking a ids.trace (content s J (notes s J)) (content s (record { item = Span a; refused = refused; lost = lost; answers = [] } ∷ J) (after_span s z (record { item = Span a; refused = refused; lost = lost; answers = [] }) J (notes s J)))
    (effect_of_span s J refused a z).released (effect_of_span s J refused a z).counted) (sym has) (go refused)
  where
    go : (refused : Bool) → Taking a ids.trace (content s J (notes s J)) (content s (record { item = Span a; refused = refused; lost = lost; answers = [] } ∷ J) (after_span s (Some ids) (record { item = Span a; refused = refused; lost = lost; answers = [] }) J (notes s J)))
        (effect_of_span s J refused a (Some ids)).released (effect_of_span s J refused a (Some ids)).counted
    go true = dropped NoMemory (sym (refused_stay s room J (notes s J) (sound_notes s room J) a ids has lost [])) refl refl
    go false = took s room J (notes s J) (sound_notes s room J) a ids has lost [] (meeting s J (notes s J) ids.trace (sound_notes s room J))

-- another item leaves the contents as they were
pub stays_by_other : (s : Settings) → HasRoom s.num_traces → (J : Journal) (item : Item) (refused lost : Bool) → ((refused : Bool) (t : TraceId) → own_spans t refused item ≡ [])
    → content s (record { item = item; refused = refused; lost = lost; answers = [] } ∷ J) (notes s J) ≡ content s J (notes s J)
stays_by_other s room J item refused lost f = spill-same (spans_since (record { item = item; refused = refused; lost = lost; answers = [] } ∷ J)) (spans_since J) (is_open (notes s J)) (is_open (notes s J)) (in_buffer s (notes s J))
    (Each-weaker (λ (o : Opening). o.at < length J) (λ (o : Opening). cond (is_open (notes s J) o) (spans_since (record { item = item; refused = refused; lost = lost; answers = [] } ∷ J) o) [] ≡ cond (is_open (notes s J) o) (spans_since J o) []) (in_buffer s (notes s J))
    (λ o l. ap (λ z. cond (is_open (notes s J) o) z []) (spans_more J o item refused lost [] (omega arith)
    ∙ ap (λ z. spans_since J o ++ z) (f refused o.trace) ∙ append-nil (spans_since J o)))
    (Each-buffer (λ (o : Opening). o.at < length J) s (notes s J) (sound_notes s room J).below))

pub stays_by_tick : (s : Settings) → HasRoom s.num_traces → (J : Journal) (m : ℕ) → content s (record { item = Tick m; refused = false; lost = false; answers = [] } ∷ J) (notes s J) ≡ content s J (notes s J)
stays_by_tick s room J m = stays_by_other s room J (Tick m) false false (λ r t. refl)

pub stays_by_end : (s : Settings) → HasRoom s.num_traces → (J : Journal) (i : ℕ) → content s (record { item = End i; refused = false; lost = false; answers = [] } ∷ J) (notes s J) ≡ content s J (notes s J)
stays_by_end s room J i = stays_by_other s room J (End i) false false (λ r t. refl)

-- ---- where nothing is due

pub length_in_turn : (s : Settings) (J : Journal) (os : List Opening) (answers : List (List Bool)) → length (decisions_in_turn s J os answers) ≤ length os
length_in_turn s J [] answers = omega arith
length_in_turn s J (o ∷ os) [] = omega arith
length_in_turn s J (o ∷ os) (a ∷ answers) = let l = length_in_turn s J os answers in omega (arith, l)

pub take_whole : {X : Type 0} (n : ℕ) (xs : List X) → length xs ≤ n → take n xs ≡ xs
take_whole zero [] l = refl
take_whole zero (x ∷ xs) l = absurd (omega arith)
take_whole (suc n) [] l = refl
take_whole {X} (suc n) (x ∷ xs) l = ap (λ (z : List X). x ∷ z) (take_whole n xs (omega arith))

pub not_below : (a b : ℕ) → nat_lt a b ≡ false → b ≤ a
not_below a b e = omega (arith, ltb-false a b e)

pub all_dealt : (s : Settings) (J : Journal) (dealt : ℕ) → nat_lt dealt (length (due_now s J)) ≡ false → notes_dealt s J dealt ≡ notes s J
unfolding notes
all_dealt s [] dealt e = refl
all_dealt s (e ∷ J) dealt n = let noted = after_item s e J e.item (notes s J) in ap (λ z. after_decisions z noted) (take_whole dealt (decisions_at s e J noted)
    (let l = not_below dealt (length (due_now s (e ∷ J))) n in let k = length_in_turn s (e ∷ J) (due_at s e J e.item noted) e.answers in omega arith))
