-- How far the joining of threads is, and what was started.
-- For the contracts of `join_all`, `take_all_back` and `run_team`.
use Rattle.std.proofs.Common.{◌≡◌, List, [], ◌∷◌, ◌++◌, refl, sym, ap, ◌∙◌, append_assoc, subst, map, reverse, length, arith, true≢false}
use Rattle.std.specs.Prelude.{Result, Ok, Err, IsOk, IfOk, OnOk, MatchResult}
use Rattle.std.proofs.lemmas.List.{append-nil, map-append, reverse-append}
use Rattle.job_threads.specs.Jobs.{HaveDone}

module _ {J X : Type 0} (did : J → X → Type 0) where
  -- of all jobs the first ones left this, and these are left
  pub record Joined (jobs rest : List J) (lefts : List X) : Type 0 where
    pub done : List J
    pub all : done ++ rest ≡ jobs
    pub did_so : HaveDone did done lefts

  did_more : (done : List J) (lefts : List X) (j : J) (x : X) → HaveDone did done lefts → did j x → HaveDone did (done ++ j ∷ []) (lefts ++ x ∷ [])
  did_more [] [] j x h d = (d, tt)
  did_more [] (y ∷ lefts) j x h d = absurd h
  did_more (k ∷ done) [] j x h d = absurd h
  did_more (k ∷ done) (y ∷ lefts) j x h d = (h.0, did_more done lefts j x h.1 d)

  pub as_many : (jobs : List J) (lefts : List X) → HaveDone did jobs lefts → length lefts ≡ length jobs
  as_many [] [] h = refl
  as_many [] (x ∷ lefts) h = absurd h
  as_many (j ∷ jobs) [] h = absurd h
  as_many (j ∷ jobs) (x ∷ lefts) h = omega (arith, as_many jobs lefts h.1)

  pub joined_first : (jobs : List J) → Joined jobs jobs []
  joined_first jobs = record { done = []; all = refl; did_so = tt }

  pub joined_more : (jobs rest : List J) (lefts : List X) (j : J) (x : X) → Joined jobs (j ∷ rest) lefts → did j x → Joined jobs rest (lefts ++ x ∷ [])
  joined_more jobs rest lefts j x h d = record { done = h.done ++ j ∷ []; all = append_assoc h.done (j ∷ []) rest ∙ h.all; did_so = did_more h.done lefts j x h.did_so d }

  pub joined_all : (jobs : List J) (lefts : List X) → Joined jobs [] lefts → HaveDone did jobs lefts
  joined_all jobs lefts h = subst (λ l. HaveDone did l lefts) (sym (append-nil h.done) ∙ h.all) h.did_so

module _ {H J X : Type 0} (did : J → X → Type 0) (f : H → J) where
  last_first : (hs : List H) (h : H) → reverse (map f (hs ++ h ∷ [])) ≡ f h ∷ reverse (map f hs)
  last_first hs h = ap reverse (map-append f hs (h ∷ [])) ∙ reverse-append (map f hs) (f h ∷ [])

  pub joins_none : (all : List H) (lefts : List X) → lefts ≡ [] → Joined did (reverse (map f all)) (reverse (map f all)) lefts
  joins_none all lefts none = subst (λ l. Joined did (reverse (map f all)) (reverse (map f all)) l) (sym none) (joined_first did (reverse (map f all)))

  pub joins_one : (jobs : List J) (old hs : List H) (h : H) (lefts new : List X) (x : X) → old ≡ hs ++ h ∷ [] → new ≡ lefts ++ x ∷ [] → Joined did jobs (reverse (map f old)) lefts → did (f h) x → Joined did jobs (reverse (map f hs)) new
  joins_one jobs old hs h lefts new x is grown joined d =
      let here = subst (λ (l : List J). Joined did jobs l lefts) (ap (λ (l : List H). reverse (map f l)) is ∙ last_first hs h) joined in
      subst (λ (l : List X). Joined did jobs (reverse (map f hs)) l) (sym grown) (joined_more did jobs (reverse (map f hs)) lefts (f h) x here d)

  pub joins_all : (jobs : List J) (old : List H) (lefts : List X) → old ≡ [] → Joined did jobs (reverse (map f old)) lefts → HaveDone did jobs lefts
  joins_all jobs old lefts none joined = joined_all did jobs lefts (subst (λ (l : List H). Joined did jobs (reverse (map f l)) lefts) none joined)

  -- what is started stands before what was started
  pub starts_one : (jobs : List J) (hs new : List H) (h : H) (rest : List J) (j : J) → jobs ≡ rest ++ j ∷ [] → new ≡ hs ++ h ∷ [] → f h ≡ j → rest ++ reverse (map f new) ≡ jobs ++ reverse (map f hs)
  starts_one jobs hs new h rest j is grown same =
      ap (λ (l : List H). rest ++ reverse (map f l)) grown ∙ (ap (λ (l : List J). rest ++ l) (last_first hs h ∙ ap (λ (k : J). k ∷ reverse (map f hs)) same) ∙ (sym (append_assoc rest (j ∷ []) (reverse (map f hs))) ∙ ap (λ (l : List J). l ++ reverse (map f hs)) (sym is)))

module _ {H J : Type 0} (f : H → J) where
  last_one : (hs : List H) (h : H) → reverse (map f (hs ++ h ∷ [])) ≡ f h ∷ reverse (map f hs)
  last_one hs h = ap reverse (map-append f hs (h ∷ [])) ∙ reverse-append (map f hs) (f h ∷ [])

  -- one job comes back behind those that are there
  pub comes_back : (jobs new : List J) (old hs : List H) (h : H) (j : J) → old ≡ hs ++ h ∷ [] → new ≡ jobs ++ j ∷ [] → j ≡ f h → new ++ reverse (map f hs) ≡ jobs ++ reverse (map f old)
  comes_back jobs new old hs h j is grown same =
      ap (λ (l : List J). l ++ reverse (map f hs)) grown ∙ (append_assoc jobs (j ∷ []) (reverse (map f hs)) ∙ (ap (λ (k : J). jobs ++ k ∷ reverse (map f hs)) same ∙ ap (λ (l : List J). jobs ++ l) (sym (ap (λ (l : List H). reverse (map f l)) is ∙ last_one hs h))))

  pub all_back : (all jobs : List J) (old : List H) → old ≡ [] → jobs ++ reverse (map f old) ≡ all → jobs ≡ all
  all_back all jobs old none whole = sym (append-nil jobs) ∙ subst (λ (l : List H). jobs ++ reverse (map f l) ≡ all) none whole

module _ {H : Type 0} where
  pub is_empty : (hs : List H) → length hs ≡ 0 → hs ≡ []
  is_empty [] none = refl
  is_empty (h ∷ hs) none = absurd (omega (arith, none))

pub on_ok : {A E : Type 0} (r : Result A E) (P : Type 0) → IsOk r → OnOk r P → P
on_ok (Ok x) P is on = on
on_ok (Err e) P is on = absurd (true≢false (sym is))

-- nothing stands before those that were started
pub all_started : {J : Type 0} (left started team : List J) → left ++ started ≡ team → left ≡ [] → started ≡ team
all_started left started team whole none = subst (λ l. l ++ started ≡ team) none whole

-- the one that was started is the team's
pub one_did : {H K X : Type 0} (f : H → K) (did : K → X → Type 0) (r : Result H K) (k : K) (x : X) → IsOk r → MatchResult r (λ h. f h ≡ k) (λ j. j ≡ k) → IfOk r (λ h. did (f h) x) → did k x
one_did f did (Ok h) k x is same d = subst (λ j. did j x) same d
one_did f did (Err j) k x is same d = absurd (true≢false (sym is))
