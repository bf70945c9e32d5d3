-- Each undecided episode in the buffer holds a span.
-- Serves the invariant of `Shard`, on which the condition `spans` of `evaluate` stands in `Shard::decide`.
use Rattle.std.proofs.Common.{◌≡◌, ℕ, ◌<◌, ◌==◌, nat_lt, Bool, true, false, ◌&&◌, ◌||◌, cond, List, [], ◌∷◌, ◌++◌, length, drop, Option, Some, None, Result, Ok, Err, refl, sym, subst, arith}
use Rattle.std.specs.List.{find}
use Rattle.std.specs.Option.{is_none, is_some}
use Rattle.std.proofs.lemmas.Bool.Decides.{nat_tests}
use Rattle.std.proofs.lemmas.Bool.{and_parts}
use Rattle.span_ids.specs.Same.{same_trace}
use Rattle.span_ids.specs.declared.ids.TraceId.{TraceId}
use Rattle.span_ids.specs.declared.outcome.Verdict.{Verdict}
use Rattle.otlp_types.specs.declared.arrival.Arrival.{Arrival}
use Rattle.trace_buffer.specs.Buffer.{Episode, Buffer, append_first, with_span, after_opening, opening_episode, settle_first, settled, is_due_at, with_settled, AppendedTo}
use Rattle.shard_core.specs.Forgotten.{have_spans}

abbrev has_spans : Episode → Bool
has_spans e = is_some e.verdict || nat_lt 0 (length e.spans)

or-yes : (b : Bool) → (b || true) ≡ true
or-yes true = refl
or-yes false = refl

pushed : (a : Arrival) (spans : List Arrival) → nat_lt 0 (length (spans ++ a ∷ [])) ≡ true
pushed a [] = refl
pushed a (x ∷ spans) = grind (arith, nat_tests)

with-one : (k : ℕ) (a : Arrival) (e : Episode) → has_spans (with_span k a e) ≡ true
with-one k a e = rw (pushed a e.spans) (or-yes (is_some e.verdict))

appended : (t : TraceId) (k : ℕ) (a : Arrival) (es : List Episode) → have_spans es ≡ true → have_spans (append_first t k a es) ≡ true
appended t k a [] h = refl
appended t k a (e ∷ es) h = go (same_trace e.trace t) (appended t k a es (and_parts (has_spans e) (have_spans es) h).1)
  where
    go : (b : Bool) → have_spans (append_first t k a es) ≡ true → have_spans (cond b (with_span k a e ∷ es) (e ∷ append_first t k a es)) ≡ true
    go true f = rw (with-one k a e) (and_parts (has_spans e) (have_spans es) h).1
    go false f = rw (and_parts (has_spans e) (have_spans es) h).0 f

pub append_spans : (clock : ℕ) (old new : Buffer) (a : Arrival) (t : TraceId) {E : Type 0} (r : Result (Unit {0}) (Arrival × E)) → AppendedTo old a clock t r new → have_spans old.episodes ≡ true → have_spans new.episodes ≡ true
append_spans clock old new a t (Ok u) e h = let P = λ (b : Buffer). have_spans b.episodes ≡ true in subst P (sym e) (appended t clock a old.episodes h)
append_spans clock old new a t (Err back) e h = let P = λ (b : Buffer). have_spans b.episodes ≡ true in subst P (sym e.1) h

settled-spans : (m w r : ℕ) (v : Verdict) (es : List Episode) → have_spans es ≡ true → have_spans (settle_first m w r v es) ≡ true
settled-spans m w r v [] h = refl
settled-spans m w r v (e ∷ es) h = go (is_due_at m w r e) (settled-spans m w r v es (and_parts (has_spans e) (have_spans es) h).1)
  where
    go : (b : Bool) → have_spans (settle_first m w r v es) ≡ true → have_spans (cond b (settled v e ∷ es) (e ∷ settle_first m w r v es)) ≡ true
    go true f = (and_parts (has_spans e) (have_spans es) h).1
    go false f = rw (and_parts (has_spans e) (have_spans es) h).0 f

pub settle_spans : (m w r : ℕ) (v : Verdict) (old new : Buffer) → new ≡ with_settled m w r v old → have_spans old.episodes ≡ true → have_spans new.episodes ≡ true
settle_spans m w r v old new e h = let P = λ (b : Buffer). have_spans b.episodes ≡ true in subst P (sym e) (settled-spans m w r v old.episodes h)

dropped : (es : List Episode) → have_spans es ≡ true → have_spans (drop 1 es) ≡ true
dropped [] h = refl
dropped (e ∷ es) h = (and_parts (has_spans e) (have_spans es) h).1

opened : (t : TraceId) (a : Arrival) (c m : ℕ) (es : List Episode) → have_spans es ≡ true → have_spans (es ++ opening_episode t a c m ∷ []) ≡ true
opened t a c m [] h = refl
opened t a c m (e ∷ es) h = rw (and_parts (has_spans e) (have_spans es) h).0 (opened t a c m es (and_parts (has_spans e) (have_spans es) h).1)

pub open_spans : (t : TraceId) (a : Arrival) (c m : ℕ) (old new : Buffer) → new ≡ after_opening old (opening_episode t a c m) → have_spans old.episodes ≡ true → have_spans new.episodes ≡ true
open_spans t a c m old new e h = let P = λ (b : Buffer). have_spans b.episodes ≡ true in subst P (sym e) (go (length old.episodes == old.num_traces))
  where
    go : (b : Bool) → have_spans (cond b (drop 1 old.episodes) old.episodes ++ opening_episode t a c m ∷ []) ≡ true
    go true = opened t a c m (drop 1 old.episodes) (dropped old.episodes h)
    go false = opened t a c m old.episodes h

-- what is due has a span
some-span : (v : Option Verdict) (b : Bool) (n : ℕ) → (is_none v && b) ≡ true → (is_some v || nat_lt 0 n) ≡ true → 0 < n
some-span None b n d h = grind (arith, nat_tests, h)
some-span (Some v) b n d h = cc

pub due_spans : (m w r : ℕ) (es : List Episode) (y : Episode) → have_spans es ≡ true → find (is_due_at m w r) es ≡ Some y → 0 < length y.spans
due_spans m w r [] y h f = cc
due_spans m w r (e ∷ es) y h f = go (is_due_at m w r e) refl f (due_spans m w r es y (and_parts (has_spans e) (have_spans es) h).1)
  where
    go : (b : Bool) → is_due_at m w r e ≡ b → cond b (Some e) (find (is_due_at m w r) es) ≡ Some y → (find (is_due_at m w r) es ≡ Some y → 0 < length y.spans) → 0 < length y.spans
    go true k f more =
        let same : e ≡ y = cc in
        let P = λ (x : Episode). 0 < length x.spans in
        subst P same (some-span e.verdict _ (length e.spans) k (and_parts (has_spans e) (have_spans es) h).0)
    go false k f more = more f
