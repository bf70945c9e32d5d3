-- The notes of every journal are sound.
-- For the contracts of `decides_standing`, `found_as_held` and `keeps_standing`.
use Rattle.std.proofs.Common.{◌≡◌, ℕ, zero, suc, ◌<◌, Bool, true, false, cond, ◌==◌, List, [], ◌∷◌, ◌++◌, length, filter, reverse, take, find, slice_get, Option, Some, None, is_none, option_map, option_to_list, refl, ap, sym, ◌∙◌, arith}
use Rattle.std.proofs.lemmas.List.{append-nil}
use Rattle.std.proofs.Math.Numerals.{sub-one}
use Rattle.journal_theory.specs.Journal.{Settings, Journal, clock, Opening, Decision, Notes, last_of, in_buffer, leaving, undecided, finding, due_at, is_due, is_oversized, oversized, has_finished, decisions_in_turn, after_finding, after_span, after_item, after_decisions, no_notes, decisions_at, notes, notes_dealt, Entry}
use Rattle.otlp_types.specs.declared.span.Ids.{Ids}
use Rattle.span_ids.specs.declared.ids.TraceId.{TraceId}
use Rattle.otlp_types.specs.declared.arrival.Item.{Item}
use Rattle.otlp_types.specs.declared.arrival.Item.TheVariants.{Span, Tick, End}
use Rattle.journal_theory.proofs.Notes.{HasRoom, is_open, IsApart, Sound, buffer_front, Meeting, it_joins, it_meets, it_opens, meeting}
use Rattle.journal_theory.proofs.ListFacts.{Each, Each-append, Each-left, Each-right, Each-weaker, Each-reverse, Each-filter, Pairs-left, Pairs-weaker}
use Rattle.journal_theory.proofs.Find.{not_found, find_none, take_next}

pub last_of_nil : (num_traces : Option ℕ) → last_of num_traces [] ≡ []
last_of_nil None = refl
last_of_nil (Some zero) = refl
last_of_nil (Some (suc n)) = refl

-- what an opening puts out: the last of the buffer, if it is full
pub record Makes (num_traces : Option ℕ) (os : List Opening) : Type 0 where
  pub kept : List Opening
  pub was : last_of num_traces os ≡ kept ++ option_to_list (leaving num_traces os)
  pub with_next : (o : Opening) → last_of num_traces (o ∷ os) ≡ o ∷ kept

pub makes_room : (num_traces : Option ℕ) → HasRoom num_traces → (os : List Opening) → Makes num_traces os
makes_room None h os = record { kept = os; was = sym (append-nil os); with_next = λ o. refl }
makes_room (Some zero) h os = absurd (h refl)
makes_room (Some (suc m)) h os = record { kept = take m os; was = take_next m os ∙ ap (λ i. take m os ++ option_to_list (slice_get os i)) (sym (sub-one (suc m))); with_next = λ o. refl }

sound_none : (s : Settings) → Sound s [] no_notes
sound_none s = record { below = tt; ordered = tt; decided = tt; apart = rw (last_of_nil s.num_traces) tt }

module _ (s : Settings) (room : HasRoom s.num_traces) (J : Journal) where
  weaker : (e : Entry) (noted : Notes) → Sound s J noted → Sound s (e ∷ J) noted
  weaker e noted h = record {
    below = Each-weaker (λ (o : Opening). o.at < length J) (λ (o : Opening). o.at < suc (length J)) noted.openings (λ o l. omega arith) h.below;
    ordered = h.ordered;
    decided = Each-weaker (λ (d : Decision). d.opening.at < length J) (λ (d : Decision). d.opening.at < suc (length J)) noted.decisions (λ d l. omega arith) h.decided;
    apart = h.apart;
  }

  sound_found : (e : Entry) (t : TraceId) (lost : Bool) (now : ℕ) (noted : Notes) → Sound s J noted → Sound s (e ∷ J) (after_finding s t lost (length J) now noted (finding s noted t))
  sound_found e t lost now noted h = go (meeting s J noted t h)
    where
      k : Sound s (e ∷ J) noted
      k = weaker e noted h

      m : Makes s.num_traces noted.openings
      m = makes_room s.num_traces room noted.openings

      go : Meeting s noted t → Sound s (e ∷ J) (after_finding s t lost (length J) now noted (finding s noted t))
      go (it_joins o newer older is same d l n b f) = rw f k
      go (it_meets o v l d others f) = rw f (record { below = k.below; ordered = k.ordered; decided = k.decided; apart = k.apart })
      go (it_opens others f) = rw f (record {
        below = (omega arith, k.below);
        ordered = (h.below, h.ordered);
        decided = k.decided;
        apart = rw (m.with_next (record { at = length J; trace = t; moment = now })) (
          (Each-left (IsApart (is_open noted) (record { at = length J; trace = t; moment = now })) m.kept (option_to_list (leaving s.num_traces noted.openings)) (rw (m.was) at others)),
          (Pairs-left (IsApart (is_open noted)) m.kept (option_to_list (leaving s.num_traces noted.openings)) (rw (m.was) at (h.apart))),
        );
      })

  sound_span : (ids : Option Ids) (e : Entry) (noted : Notes) → Sound s J noted → Sound s (e ∷ J) (after_span s ids e J noted)
  sound_span None e noted h = weaker e noted h
  sound_span (Some ids) e noted h = go e.refused
    where
      go : (r : Bool) → Sound s (e ∷ J) (cond r noted (after_finding s ids.trace e.lost (length J) (clock (e ∷ J)) noted (finding s noted ids.trace)))
      go true = weaker e noted h
      go false = sound_found e ids.trace e.lost (clock (e ∷ J)) noted h

  pub sound_item : (item : Item) (e : Entry) (noted : Notes) → Sound s J noted → Sound s (e ∷ J) (after_item s e J item noted)
  sound_item (Span a) e noted h = sound_span a.rec.span.ids e noted h
  sound_item (Tick m) e noted h = weaker e noted h
  sound_item (End i) e noted h = weaker e noted h

is_none_map : {X Y : Type 0} (f : X → Y) (r : Option X) → is_none (option_map f r) ≡ true → r ≡ None
is_none_map f None e = refl
is_none_map f (Some x) e = absurd (cc e)

-- an episode that is undecided after further decisions was so before
pub open_before : (noted : Notes) (ds : List Decision) (o : Opening) → is_open (after_decisions ds noted) o ≡ true → is_open noted o ≡ true
open_before noted ds o e =
    let q : Decision → Bool = λ (d : Decision). d.opening.at == o.at in
    let n = not_found (λ (d : Decision). d.opening.at == o.at) (reverse ds ++ noted.decisions) (is_none_map (λ (d : Decision). d.verdict) (find (λ (d : Decision). d.opening.at == o.at) (reverse ds ++ noted.decisions)) e) in
    ap (λ r. is_none (option_map (λ (d : Decision). d.verdict) r)) (find_none (λ (d : Decision). d.opening.at == o.at) noted.decisions (Each-right (λ (d : Decision). (d.opening.at == o.at) ≡ false) (reverse ds) noted.decisions n))

pub sound_decided : (s : Settings) (J : Journal) (noted : Notes) (ds : List Decision) → Each (λ (d : Decision). d.opening.at < length J) ds → Sound s J noted → Sound s J (after_decisions ds noted)
sound_decided s J noted ds l h = record {
  below = h.below;
  ordered = h.ordered;
  decided = Each-append (λ (d : Decision). d.opening.at < length J) (reverse ds) noted.decisions (Each-reverse (λ (d : Decision). d.opening.at < length J) ds l) h.decided;
  apart = Pairs-weaker (IsApart (is_open noted)) (IsApart (is_open (after_decisions ds noted))) (in_buffer s noted) (λ newer older a p. a (open_before noted ds older p)) h.apart;
}

in_turn_below : (s : Settings) (J : Journal) (n : ℕ) (os : List Opening) (answers : List (List Bool)) → Each (λ (o : Opening). o.at < n) os → Each (λ (d : Decision). d.opening.at < n) (decisions_in_turn s J os answers)
in_turn_below s J n [] answers h = tt
in_turn_below s J n (o ∷ os) [] h = tt
in_turn_below s J n (o ∷ os) (a ∷ answers) h = (h.0, in_turn_below s J n os answers h.1)

-- what holds of each opening of the buffer that is undecided holds of each that is due
pub Each-undecided : (P : Opening → Type 0) (s : Settings) (noted : Notes) → Each P (in_buffer s noted) → Each P (undecided s noted)
Each-undecided P s noted h = Each-reverse P (filter (is_open noted) (in_buffer s noted)) (Each-filter P (is_open noted) (in_buffer s noted) h)

pub Each-due : (P : Opening → Type 0) (s : Settings) (e : Entry) (J : Journal) (item : Item) (noted : Notes) → Each P (in_buffer s noted) → Each P (due_at s e J item noted)
Each-due P s e J (Span a) noted h = Each-filter P (is_oversized s (e ∷ J)) (undecided s noted) (Each-undecided P s noted h)
Each-due P s e J (Tick m) noted h = Each-filter P (is_due s (e ∷ J)) (undecided s noted) (Each-undecided P s noted h)
Each-due P s e J (End i) noted h = go (has_finished s e J) (Each-undecided P s noted h)
  where
    go : (b : Bool) → Each P (undecided s noted) → Each P (cond b (undecided s noted) (oversized s (e ∷ J) noted))
    go true k = k
    go false k = Each-filter P (is_oversized s (e ∷ J)) (undecided s noted) k

pub Each-buffer : (P : Opening → Type 0) (s : Settings) (noted : Notes) → Each P noted.openings → Each P (in_buffer s noted)
Each-buffer P s noted h = let f = buffer_front s.num_traces noted.openings in Each-left P (in_buffer s noted) f.0 (rw f.1 at h)

pub decisions_below : (s : Settings) (e : Entry) (J : Journal) (noted : Notes) → Sound s (e ∷ J) noted → Each (λ (d : Decision). d.opening.at < length (e ∷ J)) (decisions_at s e J noted)
decisions_below s e J noted h = in_turn_below s (e ∷ J) (suc (length J)) (due_at s e J e.item noted) e.answers
    (Each-due (λ (o : Opening). o.at < suc (length J)) s e J e.item noted (Each-buffer (λ (o : Opening). o.at < suc (length J)) s noted h.below))

pub sound_notes : (s : Settings) → HasRoom s.num_traces → (J : Journal) → Sound s J (notes s J)
unfolding notes
sound_notes s room [] = sound_none s
sound_notes s room (e ∷ J) =
    let noted = after_item s e J e.item (notes s J) in
    let h = sound_item s room J e.item e (notes s J) (sound_notes s room J) in
    sound_decided s (e ∷ J) noted (decisions_at s e J noted) (decisions_below s e J noted h) h

Each-take : {X : Type 0} (P : X → Type 0) (n : ℕ) (xs : List X) → Each P xs → Each P (take n xs)
Each-take P zero xs h = tt
Each-take P (suc n) [] h = tt
Each-take P (suc n) (x ∷ xs) h = (h.0, Each-take P n xs h.1)

pub sound_dealt : (s : Settings) → HasRoom s.num_traces → (J : Journal) (dealt : ℕ) → Sound s J (notes_dealt s J dealt)
sound_dealt s room [] dealt = sound_none s
sound_dealt s room (e ∷ J) dealt =
    let noted = after_item s e J e.item (notes s J) in
    let h = sound_item s room J e.item e (notes s J) (sound_notes s room J) in
    sound_decided s (e ∷ J) noted (take dealt (decisions_at s e J noted)) (Each-take (λ (d : Decision). d.opening.at < length (e ∷ J)) dealt (decisions_at s e J noted) (decisions_below s e J noted h)) h
