-- How many spans are counted under a reason, in lists that are put together.
-- For the counts of worlds, scripts and threads in the crates above.
use Rattle.std.proofs.Common.{◌≡◌, ℕ, ◌+◌, Bool, true, false, cond, List, [], ◌∷◌, ◌++◌, length, map, filter, refl, ap, suc, arith}
use Rattle.otlp_types.specs.declared.arrival.Arrival.{Arrival}
use Rattle.span_ids.specs.declared.outcome.Reason.{Reason}
use Rattle.span_ids.specs.declared.outcome.Reason.TheVariants.{InvalidId, QueueFull, NoMemory, Evicted, NotSampled, LateNotSampled, ExporterDown}
use Rattle.journal_theory.specs.Fate.{DroppedSpan, counts, is_same_reason, under}

pub same_reason : (r : Reason) → is_same_reason r r ≡ true
same_reason InvalidId = refl
same_reason QueueFull = refl
same_reason NoMemory = refl
same_reason Evicted = refl
same_reason NotSampled = refl
same_reason LateNotSampled = refl
same_reason ExporterDown = refl

-- what is counted under a reason in two lists
pub under_append : (reason : Reason) (xs ys : List DroppedSpan) → length (under reason (xs ++ ys)) ≡ length (under reason xs) + length (under reason ys)
under_append reason [] ys = omega arith
under_append reason (x ∷ xs) ys = go (is_same_reason x.reason reason) (under_append reason xs ys)
  where
    go : (b : Bool) → length (under reason (xs ++ ys)) ≡ length (under reason xs) + length (under reason ys)
        → length (map (λ (n : DroppedSpan). n.key) (cond b (x ∷ filter (λ (n : DroppedSpan). is_same_reason n.reason reason) (xs ++ ys)) (filter (λ (n : DroppedSpan). is_same_reason n.reason reason) (xs ++ ys))))
        ≡ length (map (λ (n : DroppedSpan). n.key) (cond b (x ∷ filter (λ (n : DroppedSpan). is_same_reason n.reason reason) xs) (filter (λ (n : DroppedSpan). is_same_reason n.reason reason) xs))) + length (under reason ys)
    go true h = omega (arith, h)
    go false h = h

-- spans that are counted stand under their reason alone
under_counts_go : (reason r : Reason) (b : Bool) → is_same_reason r reason ≡ b → (spans : List Arrival) → length (under reason (counts r spans)) ≡ cond b (length spans) 0
under_counts_go reason r true h [] = refl
under_counts_go reason r false h [] = refl
under_counts_go reason r true h (a ∷ spans) = rw h (ap suc (under_counts_go reason r true h spans))
under_counts_go reason r false h (a ∷ spans) = rw h (under_counts_go reason r false h spans)

-- the same, for reasons that are not compared yet
pub under_counts : (reason r : Reason) (spans : List Arrival) → length (under reason (counts r spans)) ≡ cond {A = ℕ} (is_same_reason r reason) (length spans) 0
under_counts reason r spans = under_counts_go reason r (is_same_reason r reason) refl spans
