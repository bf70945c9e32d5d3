-- Each span of an undecided episode in the buffer joined that episode, or opened it; and a decision stands.
-- For the laws of the headline, `headline` and each of its parts.
use Rattle.std.proofs.Common.{◌≡◌, ℕ, ◌<◌, Bool, true, false, cond, not, ◌&&◌, List, [], ◌∷◌, ◌++◌, length, take, Option, Some, None, option_to_list, ◌⊎◌, inl, inr, refl, ap, sym, subst, ◌∙◌, arith}
use Rattle.std.proofs.lemmas.List.{append-nil}
use Rattle.span_ids.proofs.SameTraces.{same_trace-refl}
use Rattle.span_ids.specs.Same.{same_trace}
use Rattle.journal_theory.specs.Journal.{Settings, Journal, ids_have_trace, is_of_trace, clock, Opening, Notes, last_of, in_buffer, leaving, joins, opens, finding, spans_since, after_finding, after_span, after_item, after_decisions, no_notes, decisions_at, notes, notes_dealt, Entry}
use Rattle.otlp_types.specs.declared.span.Ids.{Ids}
use Rattle.span_ids.specs.declared.ids.TraceId.{TraceId}
use Rattle.otlp_types.specs.declared.arrival.Arrival.{Arrival}
use Rattle.otlp_types.specs.declared.arrival.Item.{Item}
use Rattle.otlp_types.specs.declared.arrival.Item.TheVariants.{Span, Tick, End}
use Rattle.journal_theory.proofs.Notes.{HasRoom, own_spans, spans_more, spans_before, is_open, Sound, Meeting, it_joins, it_meets, it_opens, meeting}
use Rattle.journal_theory.proofs.ListFacts.{Each, Each-append, Each-left, Each-right, Each-weaker, Each-both}
use Rattle.journal_theory.proofs.Sound.{Makes, makes_room, last_of_nil, Each-buffer, sound_notes, open_before}
use Rattle.world_theory.proofs.Content.{same_spans, one_more}

-- ---- how a span came into its episode

-- a span of the journal to which memory was not refused, with what holds of its ids and of the entries before it
pub record Took (J : Journal) (a : Arrival) (Holds : Ids → Journal → Type 0) : Type 0 where
  pub ids : Ids
  pub valid : a.rec.span.ids ≡ Some ids
  pub lost : Bool
  pub given : List (List Bool)
  pub later : Journal
  pub before : Journal
  pub split : J ≡ later ++ record { item = Span a; refused = false; lost = lost; answers = given } ∷ before
  pub holds : Holds ids before

abbrev pub Joined : Settings → Journal → Opening → Arrival → Type 0
Joined s J o a = Took J a (λ ids before. (finding s (notes s before) ids.trace ≡ joins o) ⊎ ((finding s (notes s before) ids.trace ≡ opens) × (length before ≡ o.at)))

pub joined_later : (s : Settings) (J : Journal) (e : Entry) (o : Opening) (a : Arrival) → Joined s J o a → Joined s (e ∷ J) o a
joined_later s J e o a h = record { ids = h.ids; valid = h.valid; lost = h.lost; given = h.given; later = e ∷ h.later; before = h.before; split = ap (λ (z : Journal). e ∷ z) h.split; holds = h.holds }

abbrev pub AreJoined : Settings → Journal → Notes → Opening → Type 0
AreJoined s J noted o = is_open noted o ≡ true → Each (Joined s J o) (spans_since J o)

module _ (s : Settings) (room : HasRoom s.num_traces) (J : Journal) (h : Each (AreJoined s J (notes s J)) (in_buffer s (notes s J))) where
  abbrev noted : Notes
  noted = notes s J

  sound : Sound s J (notes s J)
  sound = sound_notes s room J

  below : Each (λ (o : Opening). o.at < length J) (in_buffer s (notes s J))
  below = Each-buffer (λ (o : Opening). o.at < length J) s (notes s J) sound.below

  -- an episode that gains nothing
  unchanged : (e : Entry) (o : Opening) → (is_open (notes s J) o ≡ true → spans_since (e ∷ J) o ≡ spans_since J o) → AreJoined s J (notes s J) o → AreJoined s (e ∷ J) (notes s J) o
  unchanged e o q f p = subst (λ z. Each (Joined s (e ∷ J) o) z) (sym (q p)) (Each-weaker (Joined s J o) (Joined s (e ∷ J) o) (spans_since J o) (λ a k. joined_later s J e o a k) (f p))

  by_other : (item : Item) (refused lost : Bool) (given : List (List Bool)) → ((refused : Bool) (t : TraceId) → own_spans t refused item ≡ []) → Each (AreJoined s (record { item = item; refused = refused; lost = lost; answers = given } ∷ J) (notes s J)) (in_buffer s (notes s J))
  by_other item refused lost given f = Each-both (λ (o : Opening). o.at < length J) (AreJoined s J (notes s J)) (AreJoined s (record { item = item; refused = refused; lost = lost; answers = given } ∷ J) (notes s J)) (in_buffer s (notes s J))
      (λ o l k. unchanged (record { item = item; refused = refused; lost = lost; answers = given }) o (λ p. spans_more J o item refused lost given (omega arith) ∙ ap (λ z. spans_since J o ++ z) (f refused o.trace) ∙ append-nil (spans_since J o)) k) below h

  module _ (a : Arrival) (lost : Bool) (given : List (List Bool)) where
    abbrev taken : Bool → Entry
    taken refused = record { item = Span a; refused = refused; lost = lost; answers = given }

    module _ (refused : Bool) (nothing : (o : Opening) → (is_of_trace o.trace a && not refused) ≡ false) where
      by_nothing : Each (AreJoined s (taken refused ∷ J) (notes s J)) (in_buffer s (notes s J))
      by_nothing = Each-both (λ (o : Opening). o.at < length J) (AreJoined s J (notes s J)) (AreJoined s (taken refused ∷ J) (notes s J)) (in_buffer s (notes s J))
          (λ o l k. unchanged (taken refused) o (λ p. spans_more J o (Span a) refused lost given (omega arith) ∙ go (is_of_trace o.trace a && not refused) (spans_since J o) (nothing o)) k) below h
        where
          go : (b : Bool) (xs : List Arrival) → b ≡ false → xs ++ cond b (a ∷ []) [] ≡ xs
          go true xs e = absurd (cc e)
          go false xs e = append-nil xs

    module _ (ids : Ids) (has : a.rec.span.ids ≡ Some ids) where
      abbrev IsApart : Opening → Type 0
      IsApart o = is_open (notes s J) o ≡ true → same_trace o.trace ids.trace ≡ false

      not_of : (o : Opening) → same_trace o.trace ids.trace ≡ false → (is_of_trace o.trace a && true) ≡ false
      not_of o e = ap (λ (b : Bool). b && true) (ap (ids_have_trace o.trace) has ∙ e)

      by_apart : (os : List Opening) → Each (λ (o : Opening). o.at < length J) os → Each (AreJoined s J (notes s J)) os → Each IsApart os → Each (AreJoined s (taken false ∷ J) (notes s J)) os
      by_apart [] l k f = tt
      by_apart (o ∷ os) l k f = (unchanged (taken false) o (λ p. same_spans s room J (notes s J) sound a ids has lost given false o l.0 (not_of o (f.0 p))) k.0, by_apart os l.1 k.1 f.1)

      by_joins : (o : Opening) (newer older : List Opening) → in_buffer s (notes s J) ≡ newer ++ o ∷ older → same_trace o.trace ids.trace ≡ true → Each (λ (x : Opening). same_trace x.trace ids.trace ≡ false) newer → Each IsApart older
          → finding s (notes s J) ids.trace ≡ joins o → Each (AreJoined s (taken false ∷ J) (notes s J)) (in_buffer s (notes s J))
      by_joins o newer older is same n f fi = subst (λ z. Each (AreJoined s (taken false ∷ J) (notes s J)) z) (sym is)
          (Each-append (AreJoined s (taken false ∷ J) (notes s J)) newer (o ∷ older) (by_apart newer (Each-left (λ (o : Opening). o.at < length J) newer (o ∷ older) l) (Each-left (AreJoined s J (notes s J)) newer (o ∷ older) k) (Each-weaker (λ (x : Opening). same_trace x.trace ids.trace ≡ false) IsApart newer (λ x q p. q) n)) (
            (λ p. subst (λ z. Each (Joined s (taken false ∷ J) o) z) (sym (one_more s room J (notes s J) sound a ids has lost given o (omega (arith, lo.0)) same))
                (Each-append (Joined s (taken false ∷ J) o) (spans_since J o) (a ∷ []) (Each-weaker (Joined s J o) (Joined s (taken false ∷ J) o) (spans_since J o) (λ b q. joined_later s J (taken false) o b q) (ko.0 p))
                (record { ids = ids; valid = has; lost = lost; given = given; later = []; before = J; split = refl; holds = inl fi }, tt))),
            by_apart older lo.1 ko.1 f,
          ))
        where
          l : Each (λ (o : Opening). o.at < length J) (newer ++ o ∷ older)
          l = subst (λ z. Each (λ (o : Opening). o.at < length J) z) is below

          lo : Each (λ (o : Opening). o.at < length J) (o ∷ older)
          lo = Each-right (λ (o : Opening). o.at < length J) newer (o ∷ older) l

          k : Each (AreJoined s J (notes s J)) (newer ++ o ∷ older)
          k = subst (λ z. Each (AreJoined s J (notes s J)) z) is h

          ko : Each (AreJoined s J (notes s J)) (o ∷ older)
          ko = Each-right (AreJoined s J (notes s J)) newer (o ∷ older) k

      abbrev opened : Opening
      opened = record { at = length J; trace = ids.trace; moment = clock (taken false ∷ J) }

      by_opens : Each IsApart (in_buffer s (notes s J)) → finding s (notes s J) ids.trace ≡ opens → Each (AreJoined s (taken false ∷ J) (notes s J)) (last_of s.num_traces (opened ∷ (notes s J).openings))
      by_opens f fi = subst (λ z. Each (AreJoined s (taken false ∷ J) (notes s J)) z) (sym (m.with_next opened)) (
        (λ p. subst (λ z. Each (Joined s (taken false ∷ J) opened) z) (sym (one_more s room J (notes s J) sound a ids has lost given opened (omega arith) (same_trace-refl ids.trace) ∙ ap (λ z. z ++ a ∷ []) (spans_before J opened (omega arith))))
            (record { ids = ids; valid = has; lost = lost; given = given; later = []; before = J; split = refl; holds = inr (fi, refl) }, tt)),
        by_apart m.kept (Each-left (λ (o : Opening). o.at < length J) m.kept out (subst (λ z. Each (λ (o : Opening). o.at < length J) z) m.was below))
            (Each-left (AreJoined s J (notes s J)) m.kept out (subst (λ z. Each (AreJoined s J (notes s J)) z) m.was h)) (Each-left IsApart m.kept out (subst (λ z. Each IsApart z) m.was f)),
      )
        where
          m : Makes s.num_traces (notes s J).openings
          m = makes_room s.num_traces room (notes s J).openings

          out : List Opening
          out = option_to_list (leaving s.num_traces (notes s J).openings)

      by_found : Each (AreJoined s (taken false ∷ J) (after_finding s ids.trace lost (length J) (clock (taken false ∷ J)) (notes s J) (finding s (notes s J) ids.trace)))
          (in_buffer s (after_finding s ids.trace lost (length J) (clock (taken false ∷ J)) (notes s J) (finding s (notes s J) ids.trace)))
      by_found = go (meeting s J (notes s J) ids.trace sound)
        where
          go : Meeting s (notes s J) ids.trace → Each (AreJoined s (taken false ∷ J) (after_finding s ids.trace lost (length J) (clock (taken false ∷ J)) (notes s J) (finding s (notes s J) ids.trace)))
              (in_buffer s (after_finding s ids.trace lost (length J) (clock (taken false ∷ J)) (notes s J) (finding s (notes s J) ids.trace)))
          go (it_joins o newer older e same d l n f fi) = rw fi (by_joins o newer older e same n f fi)
          go (it_meets o v l d f fi) = rw fi (by_apart (in_buffer s (notes s J)) below h f)
          go (it_opens f fi) = rw fi (by_opens f fi)

  pub by_item : (item : Item) (refused lost : Bool) (given : List (List Bool)) → Each (AreJoined s (record { item = item; refused = refused; lost = lost; answers = given } ∷ J) (after_item s (record { item = item; refused = refused; lost = lost; answers = given }) J item (notes s J)))
      (in_buffer s (after_item s (record { item = item; refused = refused; lost = lost; answers = given }) J item (notes s J)))
  by_item (Tick m) refused lost given = by_other (Tick m) refused lost given (λ r t. refl)
  by_item (End i) refused lost given = by_other (End i) refused lost given (λ r t. refl)
  by_item (Span a) refused lost given = go a.rec.span.ids refl refused
    where
      never : (b : Bool) → (b && false) ≡ false
      never true = refl
      never false = refl

      go : (ids : Option Ids) → a.rec.span.ids ≡ ids → (refused : Bool) → Each (AreJoined s (record { item = Span a; refused = refused; lost = lost; answers = given } ∷ J) (after_span s ids (record { item = Span a; refused = refused; lost = lost; answers = given }) J (notes s J)))
          (in_buffer s (after_span s ids (record { item = Span a; refused = refused; lost = lost; answers = given }) J (notes s J)))
      go None e refused = by_nothing a lost given refused (λ o. ap (λ z. ids_have_trace o.trace z && not refused) e)
      go (Some ids) e true = by_nothing a lost given true (λ o. never (is_of_trace o.trace a))
      go (Some ids) e false = by_found a lost given ids e

pub all_joined : (s : Settings) → HasRoom s.num_traces → (J : Journal) → Each (AreJoined s J (notes s J)) (in_buffer s (notes s J))
unfolding notes
all_joined s room [] = subst (λ z. Each (AreJoined s [] no_notes) z) (sym (last_of_nil s.num_traces)) tt
all_joined s room (e ∷ J) =
    let k = by_item s room J (all_joined s room J) e.item e.refused e.lost e.answers in
    let after = after_item s e J e.item (notes s J) in
    let ds = decisions_at s e J after in
    Each-weaker (AreJoined s (e ∷ J) after) (AreJoined s (e ∷ J) (after_decisions ds after)) (in_buffer s after) (λ o f p. f (open_before after ds o p)) k

-- so where some decisions were not dealt with
pub joined_dealt : (s : Settings) → HasRoom s.num_traces → (J : Journal) (dealt : ℕ) → Each (AreJoined s J (notes_dealt s J dealt)) (in_buffer s (notes_dealt s J dealt))
joined_dealt s room [] dealt = subst (λ z. Each (AreJoined s [] no_notes) z) (sym (last_of_nil s.num_traces)) tt
joined_dealt s room (e ∷ J) dealt =
    let k = by_item s room J (all_joined s room J) e.item e.refused e.lost e.answers in
    let after = after_item s e J e.item (notes s J) in
    let ds = take dealt (decisions_at s e J after) in
    Each-weaker (AreJoined s (e ∷ J) after) (AreJoined s (e ∷ J) (after_decisions ds after)) (in_buffer s after) (λ o f p. f (open_before after ds o p)) k
