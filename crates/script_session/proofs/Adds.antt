-- A report grows by what is counted.
-- For the contracts of `pull_all` and `count_dropped`.
use Rattle.std.proofs.Common.{◌≡◌, ℕ, ◌+◌, ◌<◌, ◌≤◌, ◌^◌, List, [], ◌∷◌, ◌++◌, Option, Some, None, refl, sym, ap, subst, ◌∙◌, arith}
use Rattle.std.specs.Prelude.{slice_index}
use Rattle.std.proofs.lemmas.List.Sums.{sum_by-append, sum_by-cons}
use Rattle.span_ids.specs.declared.outcome.Reason.{Reason}
use Rattle.journal_theory.specs.Journal.{Settings}
use Rattle.drop_ledger.specs.Places.{place_of}
use Rattle.drop_ledger.specs.declared.count.Count.{Count}
use Rattle.drop_ledger.specs.declared.count.Count.TheVariants.{Received, Handed, Dropped}
use Rattle.script_run.specs.Sending.{SentBatch}
use Rattle.script_run.specs.World.{ScriptWorld}
use Rattle.script_run.specs.Counts.{number_reported, Reports, counted_for}
use Rattle.script_session.specs.Adding.{Adds, at_reasons, counted_in}

-- ---- numbers

more-still : (m n f g h : ℕ) → m ≤ n + f → h ≡ f + g → m ≤ n + h
more-still m n f g h p e = omega arith

passes-later : (m n k f g h : ℕ) → m ≤ n + g → n ≡ k + f → h ≡ f + g → m ≤ k + h
passes-later m n k f g h p q e = omega arith

sum-later : (m n k f g h : ℕ) → m ≡ n + g → n ≡ k + f → h ≡ f + g → m ≡ k + h
sum-later m n k f g h p q e = omega arith

pub plus-none : (n : ℕ) → n ≡ n + 0
plus-none n = omega arith

-- more and then more
pub plus-two : (n m k x y : ℕ) → n ≡ m + y → m ≡ k + x → n ≡ k + (x + y)
plus-two n m k x y p q = omega arith

passes-too : (m n k f : ℕ) → m ≤ n → k ≡ n + f → m ≤ k
passes-too m n k f p e = omega arith

-- ---- additions, one after the other

pub Adds-then : (a b c : Option (List ℕ)) (f g h : Count → ℕ) → ((k : Count) → h k ≡ f k + g k) → Adds a f b → Adds b g c → Adds a h c
Adds-then None b c f g h e p q = let P = λ (x : Option (List ℕ)). Adds x g c in subst P p q
Adds-then (Some r) None c f g h e p q = let P = λ (x : Option (List ℕ)). Adds (Some r) h x in
    subst P (sym q) (p.0, more-still _ (slice_index r (place_of p.0)) (f p.0) (g p.0) (h p.0) p.1 (e p.0))
Adds-then (Some r) (Some n) None f g h e p q = (q.0, passes-later _ (slice_index n (place_of q.0)) (slice_index r (place_of q.0)) (f q.0) (g q.0) (h q.0) q.1 (p.1 q.0).0 (e q.0))
Adds-then (Some r) (Some n) (Some m) f g h e p q = (
  q.0 ∙ p.0,
  λ k. (sum-later (slice_index m (place_of k)) (slice_index n (place_of k)) (slice_index r (place_of k)) (f k) (g k) (h k) (q.1 k).0 (p.1 k).0 (e k), λ l. (q.1 k).1 ((p.1 k).1 l)),
)

-- the same addition
pub Adds-same : (a b : Option (List ℕ)) (f g : Count → ℕ) → ((k : Count) → g k ≡ f k) → Adds a f b → Adds a g b
Adds-same None b f g e p = p
Adds-same (Some r) None f g e p = let P = λ (n : ℕ). 2 ^ 64 ≤ slice_index r (place_of p.0) + n in (p.0, subst P (sym (e p.0)) p.1)
Adds-same (Some r) (Some n) f g e p = (p.0, λ k. ((p.1 k).0 ∙ ap (λ x. slice_index r (place_of k) + x) (sym (e k)), (p.1 k).1))

-- a report that tells a world's numbers, and what these grow by is added
pub Reports-grow : (s : Settings) (w v : ScriptWorld) (a b : Option (List ℕ)) (f : Count → ℕ) → ((k : Count) → number_reported s v k ≡ number_reported s w k + f k) → Reports s w a → Adds a f b → Reports s v b
Reports-grow s w v None b f e p q = let P = λ (x : Option (List ℕ)). Reports s v x in
    subst P (sym q) (p.0, passes-too _ (number_reported s w p.0) (number_reported s v p.0) (f p.0) p.1 (e p.0))
Reports-grow s w v (Some r) None f e p q = let P = λ (n : ℕ). 2 ^ 64 ≤ n in (q.0, subst P (ap (λ n. n + f q.0) (p.1 q.0).0 ∙ sym (e q.0)) q.1)
Reports-grow s w v (Some r) (Some n) f e p q = (
  q.0 ∙ p.0,
  λ k.
      let B = λ (m : ℕ). m < 2 ^ 64 in
      let is = (q.1 k).0 ∙ ap (λ n. n + f k) (p.1 k).0 ∙ sym (e k) in
      (is, subst B is ((q.1 k).1 (subst B (sym (p.1 k).0) (p.1 k).1))),
)

-- ---- what is counted for batches and reasons

pub counted-append : (xs ys : List SentBatch) (k : Count) → counted_in (xs ++ ys) k ≡ counted_in xs k + counted_in ys k
counted-append xs ys k = sum_by-append (λ (sent : SentBatch). counted_for k sent.flushed) xs ys

pub counted-one : (one : SentBatch) (k : Count) → counted_in (one ∷ []) k ≡ counted_for k one.flushed
counted-one one k = sum_by-cons (λ (sent : SentBatch). counted_for k sent.flushed) one [] ∙ omega arith

pub none-dropped : (k : Count) → at_reasons (λ reason. 0) k ≡ 0
none-dropped Received = refl
none-dropped Handed = refl
none-dropped (Dropped reason) = refl

pub dropped-more : (f g : Reason → ℕ) (k : Count) → at_reasons (λ reason. f reason + g reason) k ≡ at_reasons f k + at_reasons g k
dropped-more f g Received = refl
dropped-more f g Handed = refl
dropped-more f g (Dropped reason) = refl
