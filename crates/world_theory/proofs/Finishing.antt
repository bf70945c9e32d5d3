-- At the last End each episode that stands undecided is decided. For runs that end closed: of scripts (`script_run`'s
-- `scripts_are_runs_of_the_core`) and of threads (`span_weave`'s `weave`).
use Rattle.std.proofs.Common.{◌≡◌, ◌≤◌, ℕ, Bool, true, false, cond, not, ◌&&◌, ◌||◌, ◌==◌, List, [], ◌∷◌, ◌++◌, length, filter, flat_map, find, reverse, take, Option, Some, None, option_map, is_none, refl, ap, sym, subst, ◌∙◌, arith, append_assoc, eq-eqb}
use Rattle.std.specs.List.{list_any}
use Rattle.std.proofs.lemmas.List.{reverse-append, reverse-reverse}
use Rattle.std.proofs.lemmas.List.Elements.{filter-append}
use Rattle.otlp_types.specs.declared.arrival.Item.TheVariants.{End}
use Rattle.policy_eval.specs.Given.{are_answered}
use Rattle.journal_theory.specs.Journal.{are_each_answered, Settings, Entry, Journal, Opening, Decision, Notes, in_buffer, undecided, oversized, spans_since, policies_for, decisions_in_turn, decisions_at, decisions_now, due_at, due_now, after_item, after_decisions, notes, has_finished, have_ended}
use Rattle.world_theory.specs.Places.{buffered_spans}
use Rattle.journal_theory.proofs.ListFacts.{Each, Each-left, Each-weaker, Each-reverse, Split}
use Rattle.journal_theory.proofs.Find.{not_found, any_none, any_split}
use Rattle.journal_theory.proofs.Notes.{is_open}
use Rattle.journal_theory.proofs.Sound.{open_before}
use Rattle.world_theory.proofs.Content.{take_whole, length_in_turn}
use Rattle.world_theory.proofs.Dealing.{Split-each}

-- ---- lists

-- an element that passes stands among those that pass
split_filter : {X : Type 0} (p : X → Bool) (x : X) (xs : List X) → Split x xs → p x ≡ true → Split x (filter p xs)
split_filter p x xs k e = record {
  front = filter p k.front;
  back = filter p k.back;
  is = ap (filter p) k.is ∙ (filter-append p k.front (x ∷ k.back) ∙ ap (λ b. filter p k.front ++ cond b (x ∷ filter p k.back) (filter p k.back)) e);
}

-- an element of a list is one of its reverse
split_reverse : {X : Type 0} (x : X) (xs : List X) → Split x xs → Split x (reverse xs)
split_reverse {X} x xs k = record {
  front = reverse k.back;
  back = reverse k.front;
  is = ap (λ (z : List X). reverse z) k.is ∙ (reverse-append k.front (x ∷ k.back)
      ∙ (ap (λ (z : List X). z ++ reverse k.front) (reverse-append (x ∷ []) k.back) ∙ append_assoc (reverse k.back) (x ∷ []) (reverse k.front)));
}

-- where none passes the filter leaves nothing
none_passes : {X : Type 0} (p : X → Bool) (xs : List X) → Each (λ x. p x ≡ false) xs → filter p xs ≡ []
none_passes p [] h = refl
none_passes p (x ∷ xs) h = rw (h.0) (none_passes p xs h.1)

-- an option is none where its image is
none_of_map : {X Y : Type 0} (f : X → Y) (o : Option X) → is_none (option_map f o) ≡ true → o ≡ None
none_of_map f None e = refl
none_of_map f (Some x) e = absurd (cc e)

-- no test is both true and false
never_both : (b : Bool) → b ≡ true → b ≡ false → ⊥
never_both b e f = cc (e, f)

-- ---- decisions on all that is undecided

-- the decisions on some episodes are at their places
any_decided : (s : Settings) (past : Journal) (os : List Opening) (given : List (List Bool)) (place : ℕ) → are_each_answered s past os given ≡ true
    → list_any (λ (d : Decision). d.opening.at == place) (decisions_in_turn s past os given) ≡ list_any (λ (o : Opening). o.at == place) os
any_decided s past [] given place h = refl
any_decided s past (o ∷ os) [] place h = cc
any_decided s past (o ∷ os) (g ∷ given) place h = ap (λ b. (o.at == place) || b) (any_decided s past os given place (second (are_answered (policies_for s (spans_since past o)) g (spans_since past o)) (are_each_answered s past os given) h))
  where
    second : (a b : Bool) → (a && b) ≡ true → b ≡ true
    second true b h = h
    second false b h = cc

module _ (s : Settings) (past : Journal) (noted : Notes) (given : List (List Bool)) (answered : are_each_answered s past (undecided s noted) given ≡ true) where
  -- the decisions on all episodes that are undecided
  abbrev all_decided : List Decision
  all_decided = decisions_in_turn s past (undecided s noted) given

  -- an episode that is open yet was among those that were decided
  not_open : (o : Opening) → Split o (in_buffer s noted) → is_open (after_decisions all_decided noted) o ≡ true → ⊥
  not_open o k e = never_both (list_any (λ (d : Decision). d.opening.at == o.at) all_decided) (any_decided s past (undecided s noted) given o.at answered ∙ was_due)
      (any_none (λ (d : Decision). d.opening.at == o.at) all_decided none_decided)
    where
      place : Split o (undecided s noted)
      place = split_reverse o (filter (is_open noted) (in_buffer s noted)) (split_filter (is_open noted) o (in_buffer s noted) k (open_before noted all_decided o e))

      was_due : list_any (λ (x : Opening). x.at == o.at) (undecided s noted) ≡ true
      was_due = subst (λ (z : List Opening). list_any (λ (x : Opening). x.at == o.at) z ≡ true) (sym place.is) (any_split (λ (x : Opening). x.at == o.at) place.front place.back o (eq-eqb o.at o.at refl))

      none_found : Each (λ (d : Decision). (d.opening.at == o.at) ≡ false) (reverse all_decided ++ noted.decisions)
      none_found = not_found (λ (d : Decision). d.opening.at == o.at) (reverse all_decided ++ noted.decisions)
          (none_of_map (λ (d : Decision). d.verdict) (find (λ (d : Decision). d.opening.at == o.at) (reverse all_decided ++ noted.decisions)) e)

      none_decided : Each (λ (d : Decision). (d.opening.at == o.at) ≡ false) all_decided
      none_decided = subst (λ (z : List Decision). Each (λ (d : Decision). (d.opening.at == o.at) ≡ false) z) (reverse-reverse all_decided)
          (Each-reverse (λ (d : Decision). (d.opening.at == o.at) ≡ false) (reverse all_decided) (Each-left (λ (d : Decision). (d.opening.at == o.at) ≡ false) (reverse all_decided) noted.decisions none_found))

  -- after these decisions no episode is undecided
  none_undecided : undecided s (after_decisions all_decided noted) ≡ []
  none_undecided = ap (λ (z : List Opening). reverse z) (none_passes (is_open (after_decisions all_decided noted)) (in_buffer s noted)
      (Each-weaker (λ (o : Opening). Split o (in_buffer s noted)) (λ (o : Opening). is_open (after_decisions all_decided noted) o ≡ false) (in_buffer s noted)
      (λ o k. if_not (is_open (after_decisions all_decided noted) o) (not_open o k)) (Split-each (in_buffer s noted))))
    where
      if_not : (b : Bool) → (b ≡ true → ⊥) → b ≡ false
      if_not true f = absurd (f refl)
      if_not false f = refl

-- at most as many decisions as episodes are due
pub length_decisions : (s : Settings) (past : Journal) → length (decisions_now s past) ≤ length (due_now s past)
length_decisions s [] = omega arith
length_decisions s (e ∷ past) = length_in_turn s (e ∷ past) (due_at s e past e.item (after_item s e past e.item (notes s past))) e.answers

-- the End with which all senders have ended leaves nothing in the buffer that waits
pub nothing_buffered : (s : Settings) (sender : ℕ) (refused lost : Bool) (given : List (List Bool)) (before : Journal) → (let e : Entry = record { item = End sender; refused = refused; lost = lost; answers = given } in
    are_each_answered s (e ∷ before) (due_now s (e ∷ before)) given ≡ true → have_ended (e ∷ before) s.senders ≡ true → have_ended before s.senders ≡ false → buffered_spans s (e ∷ before) (length (due_now s (e ∷ before))) ≡ [])
nothing_buffered s sender refused lost given before answered h n = ap (λ (z : List Decision). flat_map (spans_since (e ∷ before)) (undecided s (after_decisions z (notes s before)))) (dealt ∙ due)
    ∙ ap (flat_map (spans_since (e ∷ before))) (none_undecided s (e ∷ before) (notes s before) given (ap (λ b. are_each_answered s (e ∷ before) (cond b (undecided s (notes s before)) (oversized s (e ∷ before) (notes s before))) given) (sym finished) ∙ answered))
  where
    e : Entry
    e = record { item = End sender; refused = refused; lost = lost; answers = given }

    finished : has_finished s e before ≡ true
    finished = ap (λ b. b && not (have_ended before s.senders)) h ∙ ap (λ b. true && not b) n

    dealt : take (length (due_now s (e ∷ before))) (decisions_at s e before (notes s before)) ≡ decisions_at s e before (notes s before)
    dealt = take_whole (length (due_now s (e ∷ before))) (decisions_at s e before (notes s before)) (omega (arith, length_decisions s (e ∷ before)))

    due : decisions_at s e before (notes s before) ≡ decisions_in_turn s (e ∷ before) (undecided s (notes s before)) given
    due = ap (λ b. decisions_in_turn s (e ∷ before) (cond b (undecided s (notes s before)) (oversized s (e ∷ before) (notes s before))) given) finished
