-- One attempt more.
-- For the contract of `deliver`.
use Rattle.std.proofs.Common.{◌≡◌, ◌∙◌, ℕ, suc, ◌+◌, ◌-◌, Bool, true, false, cond, not, ◌&&◌, List, [], ◌∷◌, ◌++◌, length, Option, Some, None, refl, sym, ap, subst, append_assoc, arith}
use Rattle.std.proofs.lemmas.List.{flat_map_more, length-append}
use Rattle.std.specs.List.{list_all, flat_map}
use Rattle.batch_post.specs.declared.outcome.AttemptOutcome.{AttemptOutcome}
use Rattle.batch_post.specs.declared.outcome.BatchFate.{BatchFate}
use Rattle.batch_post.specs.declared.rule.Retry.{Retry}
use Rattle.batch_post.specs.declared.rule.RetryVerdict.{RetryVerdict}
use Rattle.batch_post.specs.declared.rule.RetryVerdict.TheVariants.{Taken, Waits, Ends}
use Rattle.batch_post.specs.Rules.{is_taken, may_try_again, next_wait, wait_behind, wait_after, is_too_late, verdict_of}
use Rattle.batch_post.specs.Deliveries.{Attempt, Retried, Course, AreRetried, Delivers, verdict_on, verdict_at_end, is_delivered, attempt_entries, retried_entries, course_entries}
use Rattle.batch_post.specs.Logs.{LogEntry, tried, told, drawn, remained, waited, Grows}

-- a batch waits only behind an attempt that may be tried again
pub verdict_again : (rule : Retry) (o : AttemptOutcome) (wait random elapsed : ℕ) (left : Option ℕ) (ms : ℕ) → Waits ms ≡ verdict_of rule o wait random elapsed left → may_try_again o ≡ true
verdict_again rule o wait random elapsed left ms h = go (is_taken o) (may_try_again o) (is_too_late rule elapsed (wait_after o wait random) left) (sym h)
  where
    go : (a b c : Bool) → cond a Taken (cond (b && not c) (Waits (wait_after o wait random)) Ends) ≡ Waits ms → b ≡ true
    go true b c h = let e : Taken ≡ Waits ms = h in cc
    go false true c h = refl
    go false false c h = let e : Ends ≡ Waits ms = h in cc

both : (b c d : Bool) → b && c ≡ true → (c ≡ true → d ≡ true) → b && d ≡ true
both true c d h k = k h
both false c d h k = h

abbrev pub again : Retried → Bool
again r = may_try_again r.attempt.outcome

pub all_again : (before : List Retried) (r : Retried) → list_all again before ≡ true → again r ≡ true → list_all again (before ++ r ∷ []) ≡ true
all_again [] r h k = ap (λ b. b && true) k
all_again (p ∷ before) r h k = both (again p) (list_all again before) (list_all again (before ++ r ∷ [])) h (λ all. all_again before r all k)

-- the rule says to wait behind one attempt more
all_retried : (rule : Retry) (began tries : ℕ) (before : List Retried) (r : Retried) → AreRetried rule began tries before → verdict_on rule began (tries + length before) r.attempt ≡ Waits r.wait
    → AreRetried rule began tries (before ++ r ∷ [])
all_retried rule began tries [] r all one = (let e : tries + 0 ≡ tries = omega arith in subst (λ n. verdict_on rule began n r.attempt ≡ Waits r.wait) e one, tt)
all_retried rule began tries (p ∷ before) r all one =
    let e : tries + suc (length before) ≡ suc tries + length before = omega arith in (
      all.0,
      all_retried rule began (suc tries) before r all.1 (subst (λ n. verdict_on rule began n r.attempt ≡ Waits r.wait) e one),
    )

pub retried_more : (rule : Retry) (began : ℕ) (before : List Retried) (r : Retried) → AreRetried rule began 0 before → verdict_on rule began (length before) r.attempt ≡ Waits r.wait → AreRetried rule began 0 (before ++ r ∷ [])
retried_more rule began before r all one =
    let e : length before ≡ 0 + length before = omega arith in
    all_retried rule began 0 before r all (subst (λ n. verdict_on rule began n r.attempt ≡ Waits r.wait) e one)

-- the wait behind the next attempt
pub wait_more : (rule : Retry) (before : List Retried) (r : Retried) (wait next : ℕ) → wait ≡ wait_behind rule (length before) → next ≡ next_wait rule wait → next ≡ wait_behind rule (length (before ++ r ∷ []))
wait_more rule before r wait next h k =
    let e : length before + 1 ≡ suc (length before) = omega arith in
    k ∙ (ap (next_wait rule) h ∙ ap (wait_behind rule) (sym (length-append before (r ∷ []) ∙ e)))

-- a known log grew twice
pub grows_on : (a b c : Option (List LogEntry)) (x y : List LogEntry) → Grows a b x → Grows b c y → Grows a c (x ++ y)
grows_on None None None x y h k = tt
grows_on None None (Some c) x y h k = absurd k
grows_on None (Some b) c x y h k = absurd h
grows_on (Some a) None c x y h k = absurd h
grows_on (Some a) (Some b) None x y h k = absurd k
grows_on (Some a) (Some b) (Some c) x y h k = k ∙ (ap (λ es. es ++ y) h ∙ append_assoc a x y)

-- what an attempt leaves in the log
pub attempted : (a b c d e f : Option (List LogEntry)) (x : List LogEntry) (batch : List ℕ) (it : Attempt) → Grows a b x → Grows b c (tried batch it.outcome ∷ []) → Grows c d (drawn it.random ∷ [])
    → Grows d e (told it.moment ∷ []) → Grows e f (remained it.left ∷ []) → Grows a f (x ++ attempt_entries batch it)
attempted a b c d e f x batch it h k l m n =
    let behind = grows_on b d f (tried batch it.outcome ∷ drawn it.random ∷ []) (told it.moment ∷ remained it.left ∷ []) (grows_on b c d (tried batch it.outcome ∷ []) (drawn it.random ∷ []) k l) (grows_on d e f (told it.moment ∷ []) (remained it.left ∷ []) m n) in
    grows_on a b f x (attempt_entries batch it) h behind

-- one attempt more, and the wait behind it
pub tried_on : (a b c : Option (List LogEntry)) (batch : List ℕ) (began : ℕ) (before : List Retried) (r : Retried) → Grows a b ((told began ∷ flat_map (retried_entries batch) before) ++ attempt_entries batch r.attempt)
    → Grows b c (waited r.wait ∷ []) → Grows a c (told began ∷ flat_map (retried_entries batch) (before ++ r ∷ []))
tried_on a b c batch began before r h k =
    let so_far = told began ∷ flat_map (retried_entries batch) before in
    subst (λ es. Grows a c es) (append_assoc so_far (attempt_entries batch r.attempt) (waited r.wait ∷ []) ∙ flat_map_more (retried_entries batch) (told began ∷ []) before r)
    (grows_on a b c (so_far ++ attempt_entries batch r.attempt) (waited r.wait ∷ []) h k)

-- how a delivery ends
pub verdict_taken : (rule : Retry) (o : AttemptOutcome) (wait random elapsed : ℕ) (left : Option ℕ) → Taken ≡ verdict_of rule o wait random elapsed left → is_taken o ≡ true
verdict_taken rule o wait random elapsed left h = go (is_taken o) (may_try_again o && not (is_too_late rule elapsed (wait_after o wait random) left)) (sym h)
  where
    go : (a b : Bool) → cond a Taken (cond b (Waits (wait_after o wait random)) Ends) ≡ Taken → a ≡ true
    go true b h = refl
    go false true h = let e : Waits (wait_after o wait random) ≡ Taken = h in cc
    go false false h = let e : Ends ≡ Taken = h in cc

pub verdict_ends : (rule : Retry) (o : AttemptOutcome) (wait random elapsed : ℕ) (left : Option ℕ) → Ends ≡ verdict_of rule o wait random elapsed left → is_taken o ≡ false
verdict_ends rule o wait random elapsed left h = go (is_taken o) (may_try_again o && not (is_too_late rule elapsed (wait_after o wait random) left)) (sym h)
  where
    go : (a b : Bool) → cond a Taken (cond b (Waits (wait_after o wait random)) Ends) ≡ Ends → a ≡ false
    go true b h = let e : Taken ≡ Ends = h in cc
    go false b h = refl

-- the rule's word on an attempt, where the wait and the time that passed are told
pub said : (rule : Retry) (began : ℕ) (before : List Retried) (it : Attempt) (wait elapsed : ℕ) (word : RetryVerdict) → wait ≡ wait_behind rule (length before) → elapsed ≡ it.moment - began
    → word ≡ verdict_of rule it.outcome wait it.random elapsed it.left → verdict_on rule began (length before) it ≡ word
said rule began before it wait elapsed word h k e =
    sym (e ∙ (ap (λ w. verdict_of rule it.outcome w it.random elapsed it.left) h ∙ ap (λ passed. verdict_of rule it.outcome (wait_behind rule (length before)) it.random passed it.left) k))

-- the last attempt, behind which the batch has this fate
pub delivered_so : (rule : Retry) (old new : Option (List LogEntry)) (batch : List ℕ) (fate : BatchFate) (c : Course) → AreRetried rule c.began 0 c.before → list_all again c.before ≡ true
    → verdict_on rule c.began (length c.before) c.last ≡ verdict_at_end fate → is_taken c.last.outcome ≡ is_delivered fate → Grows old new (course_entries batch c) → Delivers rule old new batch fate
delivered_so rule old new batch fate c waits again ends taken h = (c, record { waits = waits; ends = ends; again = again; taken = taken }, h)
