-- A fate that is a count stays.
-- For the laws of the headline, `headline` and each of its parts.
use Rattle.std.proofs.Common.{◌≡◌, ℕ, ◌<◌, Bool, true, false, cond, ◌||◌, ◌==◌, List, [], ◌∷◌, ◌++◌, length, reverse, find, slice_get, Option, Some, None, is_none, option_map, option_to_list, ◌⊎◌, inl, inr, refl, ap, sym, subst, ◌∙◌, arith, length-append, ne_eqb}
use Rattle.std.specs.List.{list_any}
use Rattle.span_ids.specs.Same.{same_trace}
use Rattle.journal_theory.specs.Journal.{Settings, Journal, Opening, Decision, Notes, last_of, in_buffer, is_in_buffer, leaving, decided_as, undecided, Finding, joins, meets, opens, finding, spans_since, due_at, after_finding, after_span, after_item, decisions_in_turn, decisions_at, notes, decisions_now, clock, Entry}
use Rattle.journal_theory.specs.Fate.{Fate, is_released, is_counted, fate, fate_of_verdict, fate_of_member, fate_of_member_decided, fate_of_finding}
use Rattle.otlp_types.specs.declared.span.Ids.{Ids}
use Rattle.span_ids.specs.declared.ids.TraceId.{TraceId}
use Rattle.otlp_types.specs.declared.arrival.Arrival.{Arrival}
use Rattle.otlp_types.specs.declared.arrival.Item.{Item}
use Rattle.otlp_types.specs.declared.arrival.Item.TheVariants.{Span, Tick, End}
use Rattle.span_ids.specs.declared.outcome.Verdict.{Verdict}
use Rattle.span_ids.specs.declared.outcome.Verdict.TheVariants.{NotSampled}
use Rattle.span_ids.specs.declared.outcome.Reason.{Reason}
use Rattle.span_ids.specs.declared.outcome.Reason.TheVariants.{NoMemory, Evicted, LateNotSampled, NotSampled as DecidedAgainst}
use Rattle.journal_theory.proofs.Notes.{HasRoom, is_open, IsOlder, Sound, buffer_front, Meeting, it_joins, it_meets, it_opens, meeting}
use Rattle.journal_theory.proofs.ListFacts.{Each, Each-left, Each-right, Each-weaker, Each-reverse, Each-split, Pairs, Pairs-left, Pairs-across, Split}
use Rattle.journal_theory.proofs.Find.{found, find_past, any_none}
use Rattle.journal_theory.proofs.Sound.{Makes, makes_room, sound_notes}
use Rattle.world_theory.proofs.Dealing.{Each-due, undecided_stand}
use Rattle.world_theory.proofs.Members.{Joined, AreJoined, all_joined}
use Rattle.world_theory.proofs.Answered.{split_answered, fate_answered}
use Rattle.journal_theory.specs.Journal.{due_now, answered, IsAnsweredUpTo}
use Rattle.world_theory.proofs.Decided.{same_decisions, Each-in_turn, decided_stays, noted_decision}
use Rattle.world_theory.proofs.Released.{joined_due, fate_stays}

any_false : {X : Type 0} (q : X → Bool) (xs : List X) → list_any q xs ≡ false → Each (λ x. q x ≡ false) xs
any_false q [] e = tt
any_false q (x ∷ xs) e = go (q x) refl e (any_false q xs)
  where
    go : (b : Bool) → q x ≡ b → (b || list_any q xs) ≡ false → (list_any q xs ≡ false → Each (λ x. q x ≡ false) xs) → Each (λ x. q x ≡ false) (x ∷ xs)
    go true p h f = absurd (cc h)
    go false p h f = (p, f h)

-- the openings after an item: as they were, or one more at the item's position
data Opens (J : Journal) (before after : List Opening) : Type 0 where
  as_before : after ≡ before → Opens J before after
  one_opens : (o : Opening) → o.at ≡ length J → after ≡ o ∷ before → Opens J before after

item_opens : (s : Settings) (e : Entry) (J : Journal) (item : Item) (noted : Notes) → Opens J noted.openings (after_item s e J item noted).openings
item_opens s e J (Tick m) noted = as_before refl
item_opens s e J (End i) noted = as_before refl
item_opens s e J (Span a) noted = go a.rec.span.ids
  where
    by_finding : (t : TraceId) (f : Finding) (now : ℕ) → Opens J noted.openings (after_finding s t e.lost (length J) now noted f).openings
    by_finding t (joins p) now = as_before refl
    by_finding t (meets p v) now = as_before refl
    by_finding t opens now = one_opens (record { at = length J; trace = t; moment = now }) refl refl

    marked : (ids : Ids) (b : Bool) (now : ℕ) → Opens J noted.openings (cond b noted (after_finding s ids.trace e.lost (length J) now noted (finding s noted ids.trace))).openings
    marked ids true now = as_before refl
    marked ids false now = by_finding ids.trace (finding s noted ids.trace) now

    go : (ids : Option Ids) → Opens J noted.openings (after_span s ids e J noted).openings
    go None = as_before refl
    go (Some ids) = marked ids e.refused _

pub out_stays : (s : Settings) → HasRoom s.num_traces → (J : Journal) (e : Entry) (at : ℕ) → at < length J → is_in_buffer s (notes s J) at ≡ false → is_in_buffer s (notes s (e ∷ J)) at ≡ false
unfolding notes
out_stays s room J e at l h = go (item_opens s e J e.item (notes s J))
  where
    old : List Opening
    old = (notes s J).openings

    m : Makes s.num_traces (notes s J).openings
    m = makes_room s.num_traces room (notes s J).openings

    each : Each (λ (o : Opening). (o.at == at) ≡ false) (in_buffer s (notes s J))
    each = any_false (λ (o : Opening). o.at == at) (in_buffer s (notes s J)) h

    go : Opens J (notes s J).openings (after_item s e J e.item (notes s J)).openings → list_any (λ (o : Opening). o.at == at) (last_of s.num_traces (after_item s e J e.item (notes s J)).openings) ≡ false
    go (as_before q) = ap (λ z. list_any (λ (o : Opening). o.at == at) (last_of s.num_traces z)) q ∙ h
    go (one_opens o p q) = ap (λ z. list_any (λ (o : Opening). o.at == at) (last_of s.num_traces z)) q ∙ ap (list_any (λ (o : Opening). o.at == at)) (m.with_next o)
        ∙ any_none (λ (o : Opening). o.at == at) (o ∷ m.kept) (ne_eqb o.at at (λ r. omega arith), Each-left (λ (o : Opening). (o.at == at) ≡ false) m.kept (option_to_list (leaving s.num_traces (notes s J).openings)) (subst (λ z. Each (λ (o : Opening). (o.at == at) ≡ false) z) m.was each))

pub undecided_stays : (s : Settings) → HasRoom s.num_traces → (J : Journal) (e : Entry) (at : ℕ) → at < length J → is_in_buffer s (notes s J) at ≡ false → decided_as (notes s J) at ≡ None → decided_as (notes s (e ∷ J)) at ≡ None
unfolding notes
undecided_stays s room J e at l h d = ap (λ (r : Option Decision). option_map (λ (d : Decision). d.verdict) r)
    (find_past (λ (d : Decision). d.opening.at == at) (reverse ds) (after_item s e J e.item (notes s J)).decisions (Each-reverse (λ (d : Decision). (d.opening.at == at) ≡ false) ds others)
    ∙ ap (find (λ (d : Decision). d.opening.at == at)) (same_decisions s e J e.item (notes s J))) ∙ d
  where
    noted : Notes
    noted = after_item s e J e.item (notes s J)

    ds : List Decision
    ds = decisions_at s e J noted

    others : Each (λ (d : Decision). (d.opening.at == at) ≡ false) ds
    others = Each-in_turn (λ (o : Opening). (o.at == at) ≡ false) s (e ∷ J) (due_at s e J e.item noted) e.answers
        (Each-due (λ (o : Opening). (o.at == at) ≡ false) s e J e.item noted (Each-weaker (λ (o : Opening). Split o (in_buffer s noted) × (is_open noted o ≡ true)) (λ (o : Opening). (o.at == at) ≡ false) (undecided s noted)
        (λ o p. Each-split (λ (o : Opening). (o.at == at) ≡ false) o (in_buffer s noted) p.0 (any_false (λ (o : Opening). o.at == at) (in_buffer s noted) (out_stays s room J e at l h))) (undecided_stand s noted)))

fate_decided : (b : Bool) (v : Verdict) → fate_of_member_decided b (Some v) ≡ fate_of_verdict DecidedAgainst v
fate_decided true v = refl
fate_decided false v = refl

member_settles : (s : Settings) → HasRoom s.num_traces → (J : Journal) (e : Entry) (r : Reason) (at : ℕ) → at < length J → fate_of_member s (notes s J) at ≡ is_counted r → fate_of_member s (notes s (e ∷ J)) at ≡ is_counted r
member_settles s room J e r at l h = go (decided_as (notes s J) at) refl (is_in_buffer s (notes s J) at) refl h
  where
    go : (d : Option Verdict) → decided_as (notes s J) at ≡ d → (b : Bool) → is_in_buffer s (notes s J) at ≡ b → fate_of_member_decided b d ≡ is_counted r → fate_of_member s (notes s (e ∷ J)) at ≡ is_counted r
    go (Some v) d b i h = ap (fate_of_member_decided (is_in_buffer s (notes s (e ∷ J)) at)) (decided_stays s room J e at v d) ∙ fate_decided (is_in_buffer s (notes s (e ∷ J)) at) v ∙ sym (fate_decided b v) ∙ h
    go None d true i h = absurd (cc h)
    go None d false i h = ap (fate_of_member_decided (is_in_buffer s (notes s (e ∷ J)) at)) (undecided_stays s room J e at l i d) ∙ ap (λ b. fate_of_member_decided b None) (out_stays s room J e at l i) ∙ h

-- ---- a span's fate

pub record FateIs (s : Settings) (J : Journal) (a : Arrival) (became : Fate) : Type 0 where
  pub ids : Ids
  pub valid : a.rec.span.ids ≡ Some ids
  pub refused : Bool
  pub lost : Bool
  pub given : List (List Bool)
  pub later : Journal
  pub before : Journal
  pub split : J ≡ later ++ record { item = Span a; refused = refused; lost = lost; answers = given } ∷ before
  pub is : fate s J before refused ids ≡ became

joins_below : (s : Settings) → HasRoom s.num_traces → (J : Journal) (t : TraceId) (o : Opening) → finding s (notes s J) t ≡ joins o → o.at < length J
joins_below s room J t o f = go (meeting s J (notes s J) t sound)
  where
    sound : Sound s J (notes s J)
    sound = sound_notes s room J

    go : Meeting s (notes s J) t → o.at < length J
    go (it_meets x v l d g fi) = absurd (cc (f, fi))
    go (it_opens g fi) = absurd (cc (f, fi))
    go (it_joins x newer older e same d l n g fi) =
        let k = found (λ (x : Opening). same_trace x.trace t) (notes s J).openings x l in
        let b = Each-split (λ (o : Opening). o.at < length J) x (notes s J).openings (record { front = k.front; back = k.back; is = k.is }) sound.below in
        let q : x ≡ o = one (sym fi ∙ f) in subst (λ (o : Opening). o.at < length J) q b
      where
        one : joins x ≡ joins o → x ≡ o
        one q = cc q

pub fate_settles : (s : Settings) → HasRoom s.num_traces → (J : Journal) (e : Entry) (a : Arrival) (r : Reason) → FateIs s J a (is_counted r) → FateIs s (e ∷ J) a (is_counted r)
fate_settles s room J e a r h = record { ids = h.ids; valid = h.valid; refused = h.refused; lost = h.lost; given = h.given; later = e ∷ h.later; before = h.before; split = ap (λ (z : Journal). e ∷ z) h.split; is = go h.refused h.is }
  where
    shorter : length h.before < length J
    shorter = omega (arith, ap length h.split, length-append h.later (record { item = Span a; refused = h.refused; lost = h.lost; answers = h.given } ∷ h.before))

    by_finding : (f : Finding) → finding s (notes s h.before) h.ids.trace ≡ f → fate_of_finding s (notes s J) (length h.before) f ≡ is_counted r → fate_of_finding s (notes s (e ∷ J)) (length h.before) f ≡ is_counted r
    by_finding (meets o v) q k = k
    by_finding (joins o) q k = let b = joins_below s room h.before h.ids.trace o q in member_settles s room J e r o.at (omega (arith, b, shorter)) k
    by_finding opens q k = member_settles s room J e r (length h.before) shorter k

    go : (b : Bool) → fate s J h.before b h.ids ≡ is_counted r → fate s (e ∷ J) h.before b h.ids ≡ is_counted r
    go true k = k
    go false k = by_finding (finding s (notes s h.before) h.ids.trace) refl k

-- and so where the next decision is given answers
pub fate_is_answered : (s : Settings) → HasRoom s.num_traces → (J : Journal) (k : ℕ) (answers : List Bool) (o : Opening) → slice_get (due_now s J) k ≡ Some o → IsAnsweredUpTo s J k → (a : Arrival) (became : Fate) →
    (became ≡ is_released) ⊎ ((r : Reason) × (became ≡ is_counted r)) → FateIs s J a became → FateIs s (answered J answers) a became
fate_is_answered s room J k answers o d i a became which h =
    let p = split_answered J answers h.later h.before a h.refused h.lost h.given h.split in
    record { ids = h.ids; valid = h.valid; refused = h.refused; lost = h.lost; given = p.1; later = p.0; before = h.before; split = p.2; is = fate_answered s room J k answers o d i h.before h.refused h.ids became which h.is }

-- a member's fate by its episode
member_fate : (s : Settings) (J : Journal) (o : Opening) (a : Arrival) (became : Fate) → Joined s J o a → fate_of_member s (notes s J) o.at ≡ became → FateIs s J a became
member_fate s J o a became h d = record { ids = h.ids; valid = h.valid; refused = false; lost = h.lost; given = h.given; later = h.later; before = h.before; split = h.split; is = go h.holds }
  where
    go : (finding s (notes s h.before) h.ids.trace ≡ joins o) ⊎ ((finding s (notes s h.before) h.ids.trace ≡ opens) × (length h.before ≡ o.at)) → fate s J h.before false h.ids ≡ became
    go (inl f) = ap (fate_of_finding s (notes s J) (length h.before)) f ∙ d
    go (inr p) = ap (fate_of_finding s (notes s J) (length h.before)) p.0 ∙ ap (fate_of_member s (notes s J)) p.1 ∙ d

-- ---- what is counted, with its fate

pub released_keeps : (s : Settings) → HasRoom s.num_traces → (J : Journal) (e : Entry) (a : Arrival) → FateIs s J a is_released → FateIs s (e ∷ J) a is_released
released_keeps s room J e a h = record { ids = h.ids; valid = h.valid; refused = h.refused; lost = h.lost; given = h.given; later = e ∷ h.later; before = h.before; split = ap (λ (z : Journal). e ∷ z) h.split; is = go h.refused h.is }
  where
    go : (b : Bool) → fate s J h.before b h.ids ≡ is_released → fate s (e ∷ J) h.before b h.ids ≡ is_released
    go true k = absurd (cc k)
    go false k = fate_stays s room J e (length h.before) (finding s (notes s h.before) h.ids.trace) k

pub counted_by_decision : (s : Settings) → HasRoom s.num_traces → (J : Journal) (dealt : ℕ) (d : Decision) → slice_get (decisions_now s J) dealt ≡ Some d → d.verdict ≡ NotSampled → Each (λ (a : Arrival). FateIs s J a (is_counted DecidedAgainst)) d.spans
counted_by_decision s room J dealt d is v = Each-weaker (Joined s J d.opening) (λ (a : Arrival). FateIs s J a (is_counted DecidedAgainst)) d.spans
    (λ a h. member_fate s J d.opening a (is_counted DecidedAgainst) h
    (ap (fate_of_member_decided (is_in_buffer s (notes s J) d.opening.at)) (noted_decision s room J dealt d is ∙ ap (λ (v : Verdict). Some v) v) ∙ fate_decided (is_in_buffer s (notes s J) d.opening.at) NotSampled)) (joined_due s room J dealt d is)

module _ (s : Settings) (room : HasRoom s.num_traces) (J : Journal) (a : Arrival) (ids : Ids) (has : a.rec.span.ids ≡ Some ids) (lost : Bool) where
  abbrev taken : Bool → Entry
  taken refused = record { item = Span a; refused = refused; lost = lost; answers = [] }

  pub refused_fate : FateIs s (taken true ∷ J) a (is_counted NoMemory)
  refused_fate = record { ids = ids; valid = has; refused = true; lost = lost; given = []; later = []; before = J; split = refl; is = refl }

  pub late_fate : (o : Opening) → finding s (notes s J) ids.trace ≡ meets o NotSampled → FateIs s (taken false ∷ J) a (is_counted LateNotSampled)
  late_fate o f = record { ids = ids; valid = has; refused = false; lost = lost; given = []; later = []; before = J; split = refl; is = ap (fate_of_finding s (notes s (taken false ∷ J)) (length J)) f }

  abbrev opened : Opening
  opened = record { at = length J; trace = ids.trace; moment = clock (taken false ∷ J) }

  opens_after : finding s (notes s J) ids.trace ≡ opens → (notes s (taken false ∷ J)).openings ≡ opened ∷ (notes s J).openings
  unfolding notes
  opens_after f = subst (λ (z : Option Ids). (after_span s z (taken false) J (notes s J)).openings ≡ opened ∷ (notes s J).openings) (sym has) (ap (λ (f : Finding). (after_finding s ids.trace lost (length J) (clock (taken false ∷ J)) (notes s J) f).openings) f)

  -- with no answers none is decided
  none_given : (os : List Opening) → decisions_in_turn s (taken false ∷ J) os [] ≡ []
  none_given [] = refl
  none_given (o ∷ os) = refl

  same_after : (notes s (taken false ∷ J)).decisions ≡ (notes s J).decisions
  unfolding notes
  same_after =
      let noted = after_item s (taken false) J (Span a) (notes s J) in
      ap (λ (ds : List Decision). reverse ds ++ noted.decisions) (none_given (due_at s (taken false) J (Span a) noted)) ∙ same_decisions s (taken false) J (Span a) (notes s J)

  -- the episode that leaves undecided
  pub evicted_fate : (o : Opening) → finding s (notes s J) ids.trace ≡ opens → leaving s.num_traces (notes s J).openings ≡ Some o → decided_as (notes s J) o.at ≡ None → Each (λ (b : Arrival). FateIs s (taken false ∷ J) b (is_counted Evicted)) (spans_since J o)
  evicted_fate o f out d = Each-weaker (Joined s J o) (λ (b : Arrival). FateIs s (taken false ∷ J) b (is_counted Evicted)) (spans_since J o)
      (λ b h. member_fate s (taken false ∷ J) o b (is_counted Evicted) (record { ids = h.ids; valid = h.valid; lost = h.lost; given = h.given; later = taken false ∷ h.later; before = h.before; split = ap (λ (z : Journal). taken false ∷ z) h.split; holds = h.holds })
      (ap (fate_of_member_decided (is_in_buffer s (notes s (taken false ∷ J)) o.at)) (ap (λ (z : List Decision). option_map (λ (d : Decision). d.verdict) (find (λ (d : Decision). d.opening.at == o.at) z)) same_after ∙ d) ∙ ap (λ b. fate_of_member_decided b None) gone))
      (Each-split (AreJoined s J (notes s J)) o (in_buffer s (notes s J)) place (all_joined s room J) (ap is_none d))
    where
      m : Makes s.num_traces (notes s J).openings
      m = makes_room s.num_traces room (notes s J).openings

      is : in_buffer s (notes s J) ≡ m.kept ++ o ∷ []
      is = m.was ∙ ap (λ z. m.kept ++ option_to_list z) out

      place : Split o (in_buffer s (notes s J))
      place = record { front = m.kept; back = []; is = is }

      sound : Sound s J (notes s J)
      sound = sound_notes s room J

      fr : (rest : List Opening) × ((notes s J).openings ≡ in_buffer s (notes s J) ++ rest)
      fr = buffer_front s.num_traces (notes s J).openings

      sorted : Pairs IsOlder (m.kept ++ o ∷ [])
      sorted = subst (λ z. Pairs IsOlder z) is (Pairs-left IsOlder (in_buffer s (notes s J)) fr.0 (subst (λ z. Pairs IsOlder z) fr.1 sound.ordered))

      below : Each (λ (x : Opening). x.at < length J) (m.kept ++ o ∷ [])
      below = subst (λ z. Each (λ (x : Opening). x.at < length J) z) is (Each-left (λ (x : Opening). x.at < length J) (in_buffer s (notes s J)) fr.0 (subst (λ z. Each (λ (x : Opening). x.at < length J) z) fr.1 sound.below))

      newest : (length J == o.at) ≡ false
      newest = let l = (Each-right (λ (x : Opening). x.at < length J) m.kept (o ∷ []) below).0 in ne_eqb (length J) o.at (λ q. omega arith)

      gone : is_in_buffer s (notes s (taken false ∷ J)) o.at ≡ false
      gone = ap (λ z. list_any (λ (x : Opening). x.at == o.at) (last_of s.num_traces z)) (opens_after f) ∙ ap (list_any (λ (x : Opening). x.at == o.at)) (m.with_next opened)
          ∙ any_none (λ (x : Opening). x.at == o.at) (opened ∷ m.kept) (newest, Each-weaker (λ (x : Opening). Each (IsOlder x) (o ∷ [])) (λ (x : Opening). (x.at == o.at) ≡ false) m.kept (λ x p. let l : o.at < x.at = p.0 in ne_eqb x.at o.at (λ q. omega arith)) (Pairs-across IsOlder m.kept (o ∷ []) sorted))
