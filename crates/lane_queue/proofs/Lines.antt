-- Each step of a queue keeps its rule.
-- For the contracts of `Sender`, `Outlet`, `line` and `rejoin`.
use Rattle.std.proofs.Common.{◌≡◌, ◌≢◌, ℕ, zero, suc, true, false, true≢false, List, [], ◌∷◌, ◌++◌, length, set, sym, refl, ap, ◌∙◌, subst, ⊎_elim, arith, Some}
use mathlib.Core.Option.{some, some-ne-none}
use lib.ListN.{get_elem?}
use Rattle.crossbeam_queue.specs.Fifo.{Pushes, Pops, Forks, Merges, Learns, Held}
use Rattle.crossbeam_queue.proofs.Lists.{at_set, at_snoc}
use Rattle.std.proofs.lemmas.List.{append-nil}
use Rattle.lane_queue.specs.declared.rule.EndLog.{EndLog}
use Rattle.lane_queue.specs.Histories.{QueueStep, push, pop, held_after, pushes as pushes_of, pops as pops_of, pops_from}
use Rattle.lane_queue.specs.Moments.{HadRoom, WasFull, HadFirst}
use Rattle.lane_queue.specs.Rule.{log, Fits, IsRecorded, HasPushed, HasPopped}
use Rattle.lane_queue.proofs.Steps.{held_after-push, held_after-pop, room-then}

module _ {T : Type 0} where
  pub pushes-append : (steps more : List (QueueStep T)) → pushes_of (steps ++ more) ≡ pushes_of steps ++ pushes_of more
  pushes-append [] more = refl
  pushes-append (push x ∷ steps) more = ap (λ l. x ∷ l) (pushes-append steps more)
  pushes-append (pop ∷ steps) more = pushes-append steps more

  -- a push pops nothing
  pops-push : (steps : List (QueueStep T)) (from : List T) (x : T) → pops_from (steps ++ push x ∷ []) from ≡ pops_from steps from
  pops-push [] from x = refl
  pops-push (push y ∷ steps) from x = pops-push steps (from ++ y ∷ []) x
  pops-push (pop ∷ steps) [] x = pops-push steps [] x
  pops-push (pop ∷ steps) (y ∷ from) x = ap (λ l. y ∷ l) (pops-push steps from x)

  -- a pop takes what a history leaves first
  pops-pop : (n : ℕ) (steps : List (QueueStep T)) (from : List T) (x : T) (held : List T) → held_after n steps from ≡ Some (x ∷ held) → pops_from (steps ++ pop ∷ []) from ≡ pops_from steps from ++ x ∷ []
  pops-pop n [] from x held e = let same : from ≡ x ∷ held = cc in rw same refl
  pops-pop n (push y ∷ steps) from x held e = pops-pop n steps (from ++ y ∷ []) x held (room-then _ (held_after n steps (from ++ y ∷ [])) (x ∷ held) e)
  pops-pop n (pop ∷ steps) [] x held e = absurd (cc)
  pops-pop n (pop ∷ steps) (y ∷ from) x held e = ap (λ l. y ∷ l) (pops-pop n steps from x held e)

  at_end : (l : List (EndLog T)) (a b : EndLog T) (j : ℕ) → get_elem? l j ≢ some b → get_elem? (l ++ a ∷ []) j ≡ some b → j ≡ length l
  at_end [] a b zero n e = refl
  at_end [] a b (suc j) n e = absurd (some-ne-none b (sym e))
  at_end (x ∷ xs) a b zero n e = absurd (n e)
  at_end (x ∷ xs) a b (suc j) n e = ap suc (at_end xs a b j n e)

  abbrev Every : (ℕ → EndLog T → Type 0) → List (EndLog T) → Type 0
  Every F views = (port : ℕ) (v : EndLog T) → get_elem? views port ≡ some v → F port v

  every_set : (F : ℕ → EndLog T → Type 0) (views : List (EndLog T)) (port : ℕ) (w : EndLog T) → F port w → ((j : ℕ) (u : EndLog T) → j ≢ port → get_elem? views j ≡ some u → F j u) → Every F (set views port w)
  every_set F views port w mine others j u e = ⊎_elim (λ (x : (j ≡ port) × (w ≡ u)). subst (λ (y : ℕ × EndLog T). F y.0 y.1) (λ i. (sym x.0 i, x.1 i)) mine)
      (λ (x : (j ≢ port) × (get_elem? views j ≡ some u)). others j u x.0 x.1) (at_set views port j w u e)

  pub begins : (n : ℕ) → IsRecorded n [] (log {X = T} true true [] [] ∷ [])
  begins n = (0, 0, [], refl, every_set (Fits 0 0 []) (log true true [] [] ∷ []) 0 (log true true [] []) ((λ _. (refl, refl)), λ _. (refl, refl)) (λ j u other e. absurd (other (at_end [] _ u j (λ x. some-ne-none u (sym x)) e))))

  pub pushes : (n port : ℕ) (v : EndLog T) (x : T) → v.may_push ≡ true → Pushes (IsRecorded n) n port v x (λ w. (w ≡ log v.may_push v.may_pop (v.pushed ++ x ∷ []) v.popped) × HadRoom n v.pushed)
  pushes n port v x may items views room h at =
      let w : EndLog T = log v.may_push v.may_pop (v.pushed ++ x ∷ []) v.popped in
      let mine = h.4 port v at in
      let steps = h.2 ++ push x ∷ [] in
      let sent : pushes_of steps ≡ pushes_of h.2 ++ x ∷ [] = pushes-append h.2 (push x ∷ []) in
      let got : pops_of steps ≡ pops_of h.2 = pops-push h.2 [] x in (
        w,
        (
          h.0,
          h.1,
          steps,
          held_after-push n h.2 [] items x h.3 room,
          every_set (Fits h.0 h.1 steps) views port w ((λ _. ((mine.0 may).0, ap (λ l. l ++ x ∷ []) (mine.0 may).1 ∙ sym sent)), λ p. ((mine.1 p).0, (mine.1 p).1 ∙ sym got))
              (λ j u other e. ((λ p. absurd (other (((h.4 j u e).0 p).0 ∙ sym (mine.0 may).0))), λ p. (((h.4 j u e).1 p).0, ((h.4 j u e).1 p).1 ∙ sym got))),
        ),
        (refl, (h.2, items, h.3, room, sym (mine.0 may).1)),
      )

  pub pops : (n port : ℕ) (v : EndLog T) → v.may_pop ≡ true → Pops (IsRecorded n) port v (λ x w. (w ≡ log v.may_push v.may_pop v.pushed (v.popped ++ x ∷ [])) × HadFirst n v.popped x)
  pops n port v may x items views h at =
      let w : EndLog T = log v.may_push v.may_pop v.pushed (v.popped ++ x ∷ []) in
      let mine = h.4 port v at in
      let steps = h.2 ++ pop ∷ [] in
      let sent : pushes_of steps ≡ pushes_of h.2 = pushes-append h.2 (pop ∷ []) ∙ append-nil (pushes_of h.2) in
      let got : pops_of steps ≡ pops_of h.2 ++ x ∷ [] = pops-pop n h.2 [] x items h.3 in (
        w,
        (
          h.0,
          h.1,
          steps,
          held_after-pop n h.2 [] items x h.3,
          every_set (Fits h.0 h.1 steps) views port w ((λ p. ((mine.0 p).0, (mine.0 p).1 ∙ sym sent)), λ _. ((mine.1 may).0, ap (λ l. l ++ x ∷ []) (mine.1 may).1 ∙ sym got))
              (λ j u other e. ((λ p. (((h.4 j u e).0 p).0, ((h.4 j u e).0 p).1 ∙ sym sent)), λ p. absurd (other (((h.4 j u e).1 p).0 ∙ sym (mine.1 may).0)))),
        ),
        (refl, (h.2, items, h.3, sym (mine.1 may).1)),
      )

  pub forks : (n port : ℕ) (v : EndLog T) → v.may_push ≡ true → v.may_pop ≡ true → Forks (IsRecorded n) port v (log true false v.pushed []) (log false true [] v.popped)
  forks n port v a b items views h at = let l : EndLog T = log true false v.pushed [] in let r : EndLog T = log false true [] v.popped in let mine = h.4 port v at in let vs : List (EndLog T) = set views port l in
      let Old : ℕ → EndLog T → Type 0 = λ j u. (u.may_push ≡ true → (j ≡ h.0) × (u.pushed ≡ pushes_of h.2)) × (u.may_pop ≢ true) in
      let old : Every Old vs = every_set Old views port l ((λ _. mine.0 a), λ p. true≢false (sym p)) (λ j u other e. ((h.4 j u e).0, λ p. other (((h.4 j u e).1 p).0 ∙ sym (mine.1 b).0))) in (
        h.0,
        length vs,
        h.2,
        h.3,
        λ j u e. ⊎_elim (λ x. ((old j u x).0, λ p. absurd ((old j u x).1 p)))
            (λ (is : r ≡ u). ((λ p. absurd (true≢false (sym (ap (λ (y : EndLog T). y.may_push) is ∙ p)))), λ p. (at_end vs r u j (λ x. (old j u x).1 p) e, ap (λ (y : EndLog T). y.popped) (sym is) ∙ (mine.1 b).1))) (at_snoc vs r u j e),
      )

  pub merges : (n port : ℕ) (v : EndLog T) (other : ℕ) (u : EndLog T) → v.may_push ≡ true → u.may_pop ≡ true → Merges (IsRecorded n) port v other u (log true true v.pushed u.popped) (log false false [] [])
  merges n port v other u a b items views h at two at' = let both : EndLog T = log true true v.pushed u.popped in let mine = h.4 port v at in let vs : List (EndLog T) = set views port both in
      let was : get_elem? views other ≡ some u = ⊎_elim (λ x. absurd (two x.0)) (λ x. x.1) (at_set views port other both u at') in let theirs = (h.4 other u was).1 b in
      let Now : ℕ → EndLog T → Type 0 = λ j y. j ≢ other → Fits h.0 port h.2 j y in
      let now : Every Now vs = every_set Now views port both (λ _. ((λ _. mine.0 a), λ _. (refl, theirs.1))) (λ j y _ e apart. ((h.4 j y e).0, λ p. absurd (apart (((h.4 j y e).1 p).0 ∙ sym theirs.0)))) in
      (h.0, port, h.2, h.3, every_set (Fits h.0 port h.2) vs other (log false false [] []) ((λ p. absurd (true≢false (sym p))), λ p. absurd (true≢false (sym p))) (λ j y apart e. now j y e apart))

  pub learns_pushes : (n port : ℕ) (v : EndLog T) → v.may_push ≡ true → Learns (IsRecorded n) port v (λ items. HasPushed n v.pushed items)
  learns_pushes n port v may items views h at = (h.2, h.3, sym ((h.4 port v at).0 may).1)

  pub learns_pops : (n port : ℕ) (v : EndLog T) → v.may_pop ≡ true → Learns (IsRecorded n) port v (λ items. HasPopped n v.popped items)
  learns_pops n port v may items views h at = (h.2, h.3, sym ((h.4 port v at).1 may).1)

  -- an empty list of items is no items
  no_items : (items : List T) → length items ≡ 0 → items ≡ []
  no_items [] e = refl
  no_items (x ∷ items) e = absurd (omega arith)

  pub was_full : (n : ℕ) (pushed : List T) → Held n (HasPushed n pushed) → WasFull n pushed
  was_full n pushed h = (h.2.0, h.0, h.2.1, h.1, h.2.2)
