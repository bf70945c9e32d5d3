-- Two journals of the same items are the same, where each decision has its answers and none asks a limiter.
-- For the law `serve_is_replay` (items).
use Rattle.std.proofs.Common.{◌≡◌, ℕ, ◌==◌, cond, Bool, true, false, List, [], ◌∷◌, length, map, refl, sym, ap, subst, ◌∙◌, arith, eqb-true}
use Rattle.std.proofs.lemmas.Bool.{and_parts}
use Rattle.trace_buffer.specs.Buffer.{is_too_big}
use Rattle.otlp_types.specs.declared.arrival.Arrival.{Arrival}
use Rattle.policy_tree.specs.Tree.{no_more}
use Rattle.policy_eval.specs.Given.{asked_given, are_answered}
use Rattle.journal_theory.specs.Journal.{Settings, Entry, Journal, Opening, due_now, policies_for, spans_since, are_each_answered, IsAnswered}
use Rattle.journal_theory.proofs.Answering.{due-same, each-same}
use Rattle.agreement_laws.specs.Same.{as_taken, AsksNone}

-- answers to no asking
no_answers : (answers : List Bool) → (0 == length answers) ≡ true → answers ≡ []
no_answers [] e = refl
no_answers (a ∷ answers) e = let none : 0 ≡ length (a ∷ answers) = eqb-true 0 (length (a ∷ answers)) e in absurd (omega (arith, none))

module _ (s : Settings) (none : AsksNone s.policies) where
  asked_of : (answers : List Bool) (spans : List Arrival) → asked_given (policies_for s spans) answers spans ≡ []
  asked_of answers spans = go (is_too_big s.maximum_trace_size spans)
    where
      go : (b : Bool) → asked_given (cond b no_more s.policies) answers spans ≡ []
      go true = refl
      go false = none answers spans

  one_list : (answers : List Bool) (spans : List Arrival) → are_answered (policies_for s spans) answers spans ≡ true → answers ≡ []
  one_list answers spans e = no_answers answers (ap (λ (ns : List ℕ). length ns == length answers) (sym (asked_of answers spans)) ∙ e)

  -- answers to the decisions of just these episodes
  same_answers : (past : Journal) (os : List Opening) (xs ys : List (List Bool)) → are_each_answered s past os xs ≡ true → are_each_answered s past os ys ≡ true → xs ≡ ys
  same_answers past [] [] [] e f = refl
  same_answers past [] [] (y ∷ ys) e f = absurd (cc f)
  same_answers past [] (x ∷ xs) ys e f = absurd (cc e)
  same_answers past (o ∷ os) [] ys e f = absurd (cc e)
  same_answers past (o ∷ os) (x ∷ xs) [] e f = absurd (cc f)
  same_answers past (o ∷ os) (x ∷ xs) (y ∷ ys) e f =
      let spans = spans_since past o in
      let p = and_parts (are_answered (policies_for s (spans_since past o)) x (spans_since past o)) (are_each_answered s past os xs) e in
      let q = and_parts (are_answered (policies_for s (spans_since past o)) y (spans_since past o)) (are_each_answered s past os ys) f in
      ap (λ (z : List Bool). z ∷ xs) (one_list x (spans_since past o) p.0 ∙ sym (one_list y (spans_since past o) q.0)) ∙ ap (λ (zs : List (List Bool)). y ∷ zs) (same_answers past os xs ys p.1 q.1)

  -- an entry with other answers to the same decisions has the same
  same_given : (e : Entry) (before : Journal) (more : List (List Bool)) → are_each_answered s (e ∷ before) (due_now s (e ∷ before)) e.answers ≡ true
      → are_each_answered s (record e { answers = more } ∷ before) (due_now s (record e { answers = more } ∷ before)) more ≡ true → e.answers ≡ more
  same_given e before more h k = same_answers (e ∷ before) (due_now s (e ∷ before)) e.answers more h
      (sym (each-same s e before more (due_now s (e ∷ before)) more) ∙ (sym (ap (λ (os : List Opening). are_each_answered s (record e { answers = more } ∷ before) os more) (due-same s e before more)) ∙ k))

  pub same_journal : (past other : Journal) → IsAnswered s past → IsAnswered s other → map as_taken past ≡ map as_taken other → past ≡ other
  same_journal [] [] h k e = refl
  same_journal [] (f ∷ other) h k e = absurd (cc e)
  same_journal (x ∷ past) [] h k e = absurd (cc e)
  same_journal (x ∷ past) (f ∷ other) h k e =
      let first : as_taken x ≡ as_taken f = cc e in
      let rest : map as_taken past ≡ map as_taken other = cc e in
      let before : past ≡ other = same_journal past other h.1 k.1 rest in
      let with_own : record x { answers = f.answers } ≡ f = ap (λ (z : Entry). record z { answers = f.answers }) first in
      let own : are_each_answered s (record x { answers = f.answers } ∷ past) (due_now s (record x { answers = f.answers } ∷ past)) f.answers ≡ true =
      subst (λ (z : Entry). are_each_answered s (z ∷ past) (due_now s (z ∷ past)) f.answers ≡ true) (sym with_own) (subst (λ (L : Journal). are_each_answered s (f ∷ L) (due_now s (f ∷ L)) f.answers ≡ true) (sym before) k.0) in
      let given : x.answers ≡ f.answers = same_given x past f.answers h.0 own in
      let same : x ≡ f = ap (λ (z : List (List Bool)). record x { answers = z }) given ∙ with_own in
      ap (λ (z : Entry). z ∷ past) same ∙ ap (λ (L : Journal). f ∷ L) before
