-- The spans on their way stand in received order.
-- For the laws of the headline, `headline` and each of its parts.
use Rattle.std.proofs.Common.{◌≡◌, ℕ, zero, suc, Bool, true, false, ◌==◌, List, [], ◌∷◌, ◌++◌, slice_get, slice_set, Option, Some, None, ◌⊎◌, inl, inr, refl, ap, sym, subst, ◌∙◌, arith, append_assoc, ne_eqb, eqb-true}
use Rattle.std.proofs.lemmas.List.{append-nil}
use Rattle.std.proofs.lemmas.Bool.{and_parts}
use Rattle.std.proofs.lemmas.Slice.Eq.{bytes_eq-Decides}
use Rattle.span_ids.proofs.SameTraces.{same_trace-right}
use Rattle.span_ids.specs.Same.{same_trace}
use Rattle.journal_theory.specs.Journal.{Settings, ids_have_trace, is_of_trace, Decision, notes_dealt}
use Rattle.journal_theory.specs.Fate.{DroppedSpan, effect_of_verdict, effect_of_decision}
use Rattle.otlp_types.specs.declared.span.Ids.{Ids}
use Rattle.span_ids.specs.declared.ids.TraceId.{TraceId}
use Rattle.otlp_types.specs.declared.arrival.Arrival.{Arrival}
use Rattle.span_ids.specs.declared.outcome.Verdict.{Verdict}
use Rattle.span_ids.specs.declared.outcome.Verdict.TheVariants.{Sampled, NotSampled}
use Rattle.span_ids.specs.declared.outcome.Reason.TheVariants.{NotSampled as DecidedAgainst}
use Rattle.span_ids.specs.Route.{shard_of}
use Rattle.world_theory.specs.World.{CoreLane, CoreShard, goes_to, ids_go_to, is_same_conn}
use Rattle.world_theory.specs.Headline.{ComesFirst, have_same_trace}
use Rattle.journal_theory.proofs.ListFacts.{Each, Each-append, Each-weaker, Pairs, Across, Pairs-append, Pairs-right}
use Rattle.world_theory.proofs.Content.{content, IsOther, Taking, kept, late, dropped}
use Rattle.world_theory.proofs.Dealing.{Dealing}
use Rattle.world_theory.proofs.Keeps.{Keeps, keeps_same, keeps_then, keeps_none, keeps_swap, keeps_after, keeps_before, keeps_back, Across-both}

-- ---- spans that may stand in any order

unless_same : (a b : Arrival) → have_same_trace a.rec.span.ids b.rec.span.ids ≡ false → ComesFirst a b
unless_same a b e h = absurd (both (have_same_trace a.rec.span.ids b.rec.span.ids) (and_parts (is_same_conn a.key.conn b.key.conn) (have_same_trace a.rec.span.ids b.rec.span.ids) h).1 e)
  where
    both : (b : Bool) → b ≡ true → b ≡ false → ⊥
    both b p q = cc (p, q)

other_traces : (t : TraceId) (x y : Option Ids) → ids_have_trace t x ≡ true → ids_have_trace t y ≡ false → have_same_trace x y ≡ false
other_traces t None y h k = refl
other_traces t (Some i) None h k = refl
other_traces t (Some i) (Some j) h k = go (same_trace i.trace j.trace) refl
  where
    go : (b : Bool) → same_trace i.trace j.trace ≡ b → b ≡ false
    go true e = absurd (cc (same_trace-right t i.trace j.trace e, h, k))
    go false e = refl

pub other_trace_first : (t : TraceId) (a b : Arrival) → is_of_trace t a ≡ true → is_of_trace t b ≡ false → ComesFirst a b
other_trace_first t a b h k = unless_same a b (other_traces t a.rec.span.ids b.rec.span.ids h k)

other_routes : (n i : ℕ) (x y : Option Ids) → ids_go_to n i x ≡ true → ids_go_to n i y ≡ false → have_same_trace x y ≡ false
other_routes n i None y h k = refl
other_routes n i (Some u) None h k = refl
other_routes n i (Some u) (Some v) h k = go (same_trace u.trace v.trace) refl
  where
    go : (b : Bool) → same_trace u.trace v.trace ≡ b → b ≡ false
    go true e = let q : (shard_of u.trace n == i) ≡ (shard_of v.trace n == i) = ap (λ z. shard_of z n == i) ((bytes_eq-Decides u.trace v.trace).0 e) in absurd (cc (q, h, k))
    go false e = refl

pub other_route_first : (n i : ℕ) (a b : Arrival) → goes_to n i a ≡ true → goes_to n i b ≡ false → ComesFirst a b
other_route_first n i a b h k = unless_same a b (other_routes n i a.rec.span.ids b.rec.span.ids h k)

goes_elsewhere : (n i j : ℕ) (x : Option Ids) → (j ≡ i → ⊥) → ids_go_to n j x ≡ true → ids_go_to n i x ≡ false
goes_elsewhere n i j None d h = refl
goes_elsewhere n i j (Some u) d h = ne_eqb (shard_of u.trace n) i (λ e. d (sym (eqb-true (shard_of u.trace n) j h) ∙ e))

pub other_shard_first : (n i j : ℕ) (a b : Arrival) → (j ≡ i → ⊥) → goes_to n i a ≡ true → goes_to n j b ≡ true → ComesFirst a b
other_shard_first n i j a b d h k = other_route_first n i a b h (goes_elsewhere n i j b.rec.span.ids d k)

pub other_lane_first : (a b : Arrival) → (a.key.conn.lane ≡ b.key.conn.lane → ⊥) → ComesFirst a b
other_lane_first a b d h = absurd (d (eqb-true a.key.conn.lane b.key.conn.lane
    (and_parts (a.key.conn.lane == b.key.conn.lane) (a.key.conn.ordinal == b.key.conn.ordinal) (and_parts (is_same_conn a.key.conn b.key.conn) (have_same_trace a.rec.span.ids b.rec.span.ids) h).0).0))

-- ---- a shard's line

abbrev pub line_of : List Arrival → List Arrival → List Arrival → List Arrival
line_of sent waits queue = sent ++ (waits ++ queue)

pub line_taken : (a : Arrival) (t : TraceId) (sent before after released rest : List Arrival) (counted : List DroppedSpan) → is_of_trace t a ≡ true → Taking a t before after released counted
    → Keeps ComesFirst (line_of sent before (a ∷ rest)) (line_of (sent ++ released) after rest)
line_taken a t sent before after released rest counted own (kept gone x y b f r n o) =
    keeps_then ComesFirst (line_of sent before (a ∷ rest)) (sent ++ (x ++ ((y ++ a ∷ []) ++ rest))) (line_of (sent ++ released) after rest)
    (keeps_then ComesFirst (line_of sent before (a ∷ rest)) (sent ++ (gone ++ (x ++ ((y ++ a ∷ []) ++ rest)))) (sent ++ (x ++ ((y ++ a ∷ []) ++ rest)))
    (keeps_same ComesFirst (line_of sent before (a ∷ rest)) (sent ++ (gone ++ (x ++ ((y ++ a ∷ []) ++ rest)))) (ap (λ z. sent ++ (z ++ a ∷ rest)) b ∙ (simp append_assoc)))
    (keeps_after ComesFirst sent (gone ++ (x ++ ((y ++ a ∷ []) ++ rest))) (x ++ ((y ++ a ∷ []) ++ rest)) (keeps_back ComesFirst gone (x ++ ((y ++ a ∷ []) ++ rest)))))
    (keeps_then ComesFirst (sent ++ (x ++ ((y ++ a ∷ []) ++ rest))) (sent ++ (x ++ ((a ∷ y) ++ rest))) (line_of (sent ++ released) after rest)
    (keeps_after ComesFirst sent (x ++ ((y ++ a ∷ []) ++ rest)) (x ++ ((a ∷ y) ++ rest)) (keeps_after ComesFirst x ((y ++ a ∷ []) ++ rest) ((a ∷ y) ++ rest) (keeps_before ComesFirst (y ++ a ∷ []) (a ∷ y) rest
    (keeps_swap ComesFirst y (a ∷ []) (Each-weaker (IsOther t) (ComesFirst a) y (λ z q. other_trace_first t a z own q) o, tt)))))
    (keeps_same ComesFirst (sent ++ (x ++ ((a ∷ y) ++ rest))) (line_of (sent ++ released) after rest) (sym (ap (λ z. line_of (sent ++ z) after rest) r ∙ ap (λ z. line_of (sent ++ []) z rest) f ∙ ap (λ z. z ++ ((x ++ a ∷ y) ++ rest)) (append-nil sent) ∙ ap (λ z. sent ++ z) (append_assoc x (a ∷ y) rest)))))
line_taken a t sent before after released rest counted own (late f r n o) =
    keeps_then ComesFirst (line_of sent before (a ∷ rest)) (sent ++ ((a ∷ before) ++ rest)) (line_of (sent ++ released) after rest)
    (keeps_then ComesFirst (line_of sent before (a ∷ rest)) (sent ++ ((before ++ a ∷ []) ++ rest)) (sent ++ ((a ∷ before) ++ rest))
    (keeps_same ComesFirst (line_of sent before (a ∷ rest)) (sent ++ ((before ++ a ∷ []) ++ rest)) (ap (λ z. sent ++ z) (sym (append_assoc before (a ∷ []) rest))))
    (keeps_after ComesFirst sent ((before ++ a ∷ []) ++ rest) ((a ∷ before) ++ rest) (keeps_before ComesFirst (before ++ a ∷ []) (a ∷ before) rest
    (keeps_swap ComesFirst before (a ∷ []) (Each-weaker (IsOther t) (ComesFirst a) before (λ z q. other_trace_first t a z own q) o, tt)))))
    (keeps_same ComesFirst (sent ++ ((a ∷ before) ++ rest)) (line_of (sent ++ released) after rest) (sym (ap (λ z. line_of (sent ++ z) after rest) r ∙ ap (λ z. line_of (sent ++ a ∷ []) z rest) f ∙ append_assoc sent (a ∷ []) (before ++ rest))))
line_taken a t sent before after released rest counted own (dropped reason f r n) =
    keeps_then ComesFirst (line_of sent before (a ∷ rest)) (sent ++ (before ++ rest)) (line_of (sent ++ released) after rest)
    (keeps_after ComesFirst sent (before ++ a ∷ rest) (before ++ rest) (keeps_after ComesFirst before (a ∷ rest) rest (keeps_back ComesFirst (a ∷ []) rest)))
    (keeps_same ComesFirst (sent ++ (before ++ rest)) (line_of (sent ++ released) after rest) (sym (ap (λ z. line_of (sent ++ z) after rest) r ∙ ap (λ z. line_of (sent ++ []) z rest) f ∙ ap (λ z. z ++ (before ++ rest)) (append-nil sent))))

pub line_dealt : (d : Decision) (sent before after queue : List Arrival) → Dealing d before after → Keeps ComesFirst (line_of sent before queue) (line_of (sent ++ (effect_of_decision d).released) after queue)
line_dealt d sent before after queue h = by_verdict d.verdict
  where
    rest : List Arrival
    rest = h.newer ++ queue

    opened : line_of sent before queue ≡ sent ++ ((h.older ++ d.spans) ++ rest)
    opened = ap (λ z. line_of sent z queue) h.was ∙ (simp append_assoc)

    closed : line_of sent after queue ≡ sent ++ (h.older ++ rest)
    closed = ap (λ z. line_of sent z queue) h.becomes ∙ ap (λ z. sent ++ z) (append_assoc h.older h.newer queue)

    by_verdict : (v : Verdict) → Keeps ComesFirst (line_of sent before queue) (line_of (sent ++ (effect_of_verdict DecidedAgainst d.spans v).released) after queue)
    by_verdict Sampled =
        keeps_then ComesFirst (line_of sent before queue) (sent ++ ((h.older ++ d.spans) ++ rest)) (line_of (sent ++ d.spans) after queue) (keeps_same ComesFirst (line_of sent before queue) (sent ++ ((h.older ++ d.spans) ++ rest)) opened)
        (keeps_then ComesFirst (sent ++ ((h.older ++ d.spans) ++ rest)) (sent ++ ((d.spans ++ h.older) ++ rest)) (line_of (sent ++ d.spans) after queue)
        (keeps_after ComesFirst sent ((h.older ++ d.spans) ++ rest) ((d.spans ++ h.older) ++ rest) (keeps_before ComesFirst (h.older ++ d.spans) (d.spans ++ h.older) rest
        (keeps_swap ComesFirst h.older d.spans (Across-both ComesFirst (λ (a : Arrival). is_of_trace d.opening.trace a ≡ true) (IsOther d.opening.trace) d.spans h.older (λ x y p q. other_trace_first d.opening.trace x y p q) h.members h.others))))
        (keeps_same ComesFirst (sent ++ ((d.spans ++ h.older) ++ rest)) (line_of (sent ++ d.spans) after queue) (sym (ap (λ z. line_of (sent ++ d.spans) z queue) h.becomes ∙ (simp append_assoc)))))
    by_verdict NotSampled =
        keeps_then ComesFirst (line_of sent before queue) (sent ++ ((h.older ++ d.spans) ++ rest)) (line_of (sent ++ []) after queue) (keeps_same ComesFirst (line_of sent before queue) (sent ++ ((h.older ++ d.spans) ++ rest)) opened)
        (keeps_then ComesFirst (sent ++ ((h.older ++ d.spans) ++ rest)) (sent ++ (h.older ++ rest)) (line_of (sent ++ []) after queue)
        (keeps_after ComesFirst sent ((h.older ++ d.spans) ++ rest) (h.older ++ rest) (keeps_before ComesFirst (h.older ++ d.spans) h.older rest
        (keeps_then ComesFirst (h.older ++ d.spans) (h.older ++ []) h.older (keeps_after ComesFirst h.older d.spans [] (keeps_none ComesFirst d.spans)) (keeps_same ComesFirst (h.older ++ []) h.older (append-nil h.older)))))
        (keeps_same ComesFirst (sent ++ (h.older ++ rest)) (line_of (sent ++ []) after queue) (sym (ap (λ z. z ++ (after ++ queue)) (append-nil sent) ∙ closed))))

-- ---- the whole

abbrev pub line : Settings → CoreShard → List Arrival
line s sh = line_of sh.unshipped (content s sh.journal (notes_dealt s sh.journal sh.dealt)) sh.queue

-- of a lane
abbrev pub IsOnLane : ℕ → Arrival → Type 0
IsOnLane j a = a.key.conn.lane ≡ j

abbrev pub GoesTo : ℕ → ℕ → Arrival → Type 0
GoesTo n i a = goes_to n i a ≡ true

pub record Lined (s : Settings) (n : ℕ) (behind : List Arrival) (lanes : List CoreLane) (shards : List CoreShard) : Type 0 where
  pub back : Pairs ComesFirst behind
  pub in_line : (i : ℕ) (sh : CoreShard) → slice_get shards i ≡ Some sh → Pairs ComesFirst (line s sh)
  pub back_line : (i : ℕ) (sh : CoreShard) → slice_get shards i ≡ Some sh → Across ComesFirst behind (line s sh)
  pub routes : (i : ℕ) (sh : CoreShard) → slice_get shards i ≡ Some sh → Each (GoesTo n i) (line s sh)
  pub in_lane : (j : ℕ) (l : CoreLane) → slice_get lanes j ≡ Some l → Pairs ComesFirst l.unrouted
  pub back_lane : (j : ℕ) (l : CoreLane) → slice_get lanes j ≡ Some l → Across ComesFirst behind l.unrouted
  pub own : (j : ℕ) (l : CoreLane) → slice_get lanes j ≡ Some l → Each (IsOnLane j) l.unrouted
  pub between : (i : ℕ) (sh : CoreShard) (j : ℕ) (l : CoreLane) → slice_get shards i ≡ Some sh → slice_get lanes j ≡ Some l → Across ComesFirst (line s sh) l.unrouted

-- what stands at a place after a write
pub set_cases : {X : Type 0} (xs : List X) (i j : ℕ) (y z : X) → slice_get (slice_set xs i y) j ≡ Some z → ((j ≡ i) × (y ≡ z)) ⊎ ((j ≡ i → ⊥) × (slice_get xs j ≡ Some z))
set_cases [] i j y z e = absurd (cc e)
set_cases (x ∷ xs) zero zero y z e = inl (refl, cc e)
set_cases (x ∷ xs) zero (suc j) y z e = inr ((λ q. absurd (omega arith)), e)
set_cases (x ∷ xs) (suc i) zero y z e = inr ((λ q. absurd (omega arith)), e)
set_cases (x ∷ xs) (suc i) (suc j) y z e = go (set_cases xs i j y z e)
  where
    go : ((j ≡ i) × (y ≡ z)) ⊎ ((j ≡ i → ⊥) × (slice_get xs j ≡ Some z)) → ((suc j ≡ suc i) × (y ≡ z)) ⊎ ((suc j ≡ suc i → ⊥) × (slice_get xs j ≡ Some z))
    go (inl p) = inl (ap suc p.0, p.1)
    go (inr p) = inr ((λ q. p.0 (omega arith)), p.1)

-- a fact of each place, after a write
pub at_each : {X : Type 0} (P : ℕ → X → Type 0) (xs : List X) (i : ℕ) (y : X) → P i y → ((j : ℕ) (x : X) → slice_get xs j ≡ Some x → P j x) → (j : ℕ) (z : X) → slice_get (slice_set xs i y) j ≡ Some z → P j z
at_each {X} P xs i y new old j z e = go (set_cases xs i j y z e)
  where
    go : ((j ≡ i) × (y ≡ z)) ⊎ ((j ≡ i → ⊥) × (slice_get xs j ≡ Some z)) → P j z
    go (inl p) = subst (λ (k : ℕ). P k z) (sym p.0) (subst (λ (x : X). P i x) p.1 new)
    go (inr p) = old j z p.1

pub at_each_other : {X : Type 0} (P : ℕ → X → Type 0) (xs : List X) (i : ℕ) (y : X) → P i y → ((j : ℕ) (x : X) → (j ≡ i → ⊥) → slice_get xs j ≡ Some x → P j x) → (j : ℕ) (z : X) → slice_get (slice_set xs i y) j ≡ Some z → P j z
at_each_other {X} P xs i y new old j z e = go (set_cases xs i j y z e)
  where
    go : ((j ≡ i) × (y ≡ z)) ⊎ ((j ≡ i → ⊥) × (slice_get xs j ≡ Some z)) → P j z
    go (inl p) = subst (λ (k : ℕ). P k z) (sym p.0) (subst (λ (x : X). P i x) p.1 new)
    go (inr p) = old j z p.0 p.1

across_after : (xs ys zs : List Arrival) → Keeps ComesFirst ys zs → Across ComesFirst xs ys → Across ComesFirst xs zs
across_after xs ys zs k h = Each-weaker (λ x. Each (ComesFirst x) ys) (λ x. Each (ComesFirst x) zs) xs (λ x p. k.each (ComesFirst x) p) h

across_before : (xs ys zs : List Arrival) → Keeps ComesFirst xs ys → Across ComesFirst xs zs → Across ComesFirst ys zs
across_before xs ys zs k h = k.each (λ x. Each (ComesFirst x) zs) h

module _ (s : Settings) (n : ℕ) (behind : List Arrival) (lanes : List CoreLane) (shards : List CoreShard) (h : Lined s n behind lanes shards) where
  pub back_keeps : (behind' : List Arrival) → Keeps ComesFirst behind behind' → Lined s n behind' lanes shards
  back_keeps behind' k = record {
    back = k.pairs h.back;
    in_line = h.in_line;
    back_line = λ i sh e. across_before behind behind' (line s sh) k (h.back_line i sh e);
    routes = h.routes;
    in_lane = h.in_lane;
    back_lane = λ j l e. across_before behind behind' l.unrouted k (h.back_lane j l e);
    own = h.own;
    between = h.between;
  }

  pub line_keeps : (i : ℕ) (sh sh' : CoreShard) → slice_get shards i ≡ Some sh → Keeps ComesFirst (line s sh) (line s sh') → Lined s n behind lanes (slice_set shards i sh')
  line_keeps i sh sh' g k = record {
    back = h.back;
    in_line = at_each (λ i sh. Pairs ComesFirst (line s sh)) shards i sh' (k.pairs (h.in_line i sh g)) h.in_line;
    back_line = at_each (λ i sh. Across ComesFirst behind (line s sh)) shards i sh' (across_after behind (line s sh) (line s sh') k (h.back_line i sh g)) h.back_line;
    routes = at_each (λ i sh. Each (GoesTo n i) (line s sh)) shards i sh' (k.each (GoesTo n i) (h.routes i sh g)) h.routes;
    in_lane = h.in_lane;
    back_lane = h.back_lane;
    own = h.own;
    between = λ i' sh2 j l e f. at_each (λ i sh. Across ComesFirst (line s sh) l.unrouted) shards i sh' (across_before (line s sh) (line s sh') l.unrouted k (h.between i sh j l g f)) (λ i sh e. h.between i sh j l e f) i' sh2 e;
  }

  pub lane_keeps : (j : ℕ) (l l' : CoreLane) → slice_get lanes j ≡ Some l → Keeps ComesFirst l.unrouted l'.unrouted → Lined s n behind (slice_set lanes j l') shards
  lane_keeps j l l' g k = record {
    back = h.back;
    in_line = h.in_line;
    back_line = h.back_line;
    routes = h.routes;
    in_lane = at_each (λ j (l : CoreLane). Pairs ComesFirst l.unrouted) lanes j l' (k.pairs (h.in_lane j l g)) h.in_lane;
    back_lane = at_each (λ j (l : CoreLane). Across ComesFirst behind l.unrouted) lanes j l' (across_after behind l.unrouted l'.unrouted k (h.back_lane j l g)) h.back_lane;
    own = at_each (λ j (l : CoreLane). Each (IsOnLane j) l.unrouted) lanes j l' (k.each (IsOnLane j) (h.own j l g)) h.own;
    between = λ i sh j' l2 e f. at_each (λ j (l : CoreLane). Across ComesFirst (line s sh) l.unrouted) lanes j l' (across_after (line s sh) l.unrouted l'.unrouted k (h.between i sh j l e g)) (λ j l f. h.between i sh j l e f) j' l2 f;
  }

  -- a lane receives spans that come after all that are on their way
  pub lane_grows : (j : ℕ) (l l' : CoreLane) (new : List Arrival) → slice_get lanes j ≡ Some l → l'.unrouted ≡ l.unrouted ++ new → Pairs ComesFirst new → Each (IsOnLane j) new
      → Across ComesFirst behind new → Across ComesFirst l.unrouted new → ((i : ℕ) (sh : CoreShard) → slice_get shards i ≡ Some sh → Across ComesFirst (line s sh) new)
      → Lined s n behind (slice_set lanes j l') shards
  lane_grows j l l' new g q p o b u f = record {
    back = h.back;
    in_line = h.in_line;
    back_line = h.back_line;
    routes = h.routes;
    in_lane = at_each (λ j (l : CoreLane). Pairs ComesFirst l.unrouted) lanes j l' (subst (λ z. Pairs ComesFirst z) (sym q) (Pairs-append ComesFirst l.unrouted new (h.in_lane j l g) p u)) h.in_lane;
    back_lane = at_each (λ j (l : CoreLane). Across ComesFirst behind l.unrouted) lanes j l' (grown behind (h.back_lane j l g) b) h.back_lane;
    own = at_each (λ j (l : CoreLane). Each (IsOnLane j) l.unrouted) lanes j l' (subst (λ z. Each (IsOnLane j) z) (sym q) (Each-append (IsOnLane j) l.unrouted new (h.own j l g) o)) h.own;
    between = λ i sh j' l2 e f'. at_each (λ j (l : CoreLane). Across ComesFirst (line s sh) l.unrouted) lanes j l' (grown (line s sh) (h.between i sh j l e g) (f i sh e)) (λ j l f. h.between i sh j l e f) j' l2 f';
  }
    where
      joined : (xs : List Arrival) → Across ComesFirst xs l.unrouted → Across ComesFirst xs new → Across ComesFirst xs (l.unrouted ++ new)
      joined [] a b = tt
      joined (x ∷ xs) a b = (Each-append (ComesFirst x) l.unrouted new a.0 b.0, joined xs a.1 b.1)

      grown : (xs : List Arrival) → Across ComesFirst xs l.unrouted → Across ComesFirst xs new → Across ComesFirst xs l'.unrouted
      grown xs a b = subst (λ z. Across ComesFirst xs z) (sym q) (joined xs a b)

  -- a shard's first unsent span goes behind
  pub ships : (i : ℕ) (sh sh' : CoreShard) (a : Arrival) (behind' : List Arrival) → slice_get shards i ≡ Some sh → line s sh ≡ a ∷ line s sh' → behind' ≡ behind ++ a ∷ [] → Lined s n behind' lanes (slice_set shards i sh')
  ships i sh sh' a behind' g q r = subst (λ z. Lined s n z lanes (slice_set shards i sh')) (sym r) (record {
    back = Pairs-append ComesFirst behind (a ∷ []) h.back (tt, tt) (Each-weaker (λ x. Each (ComesFirst x) (a ∷ line s sh')) (λ x. Each (ComesFirst x) (a ∷ [])) behind (λ x p. (p.0, tt)) across);
    in_line = at_each (λ i sh. Pairs ComesFirst (line s sh)) shards i sh' pairs.1 h.in_line;
    back_line = at_each_other (λ i sh. Across ComesFirst (behind ++ a ∷ []) (line s sh)) shards i sh'
        (more_behind (line s sh') (Each-weaker (λ x. Each (ComesFirst x) (a ∷ line s sh')) (λ x. Each (ComesFirst x) (line s sh')) behind (λ x p. p.1) across) pairs.0)
        (λ i' sh2 d e. more_behind (line s sh2) (h.back_line i' sh2 e) (Each-weaker (GoesTo n i') (ComesFirst a) (line s sh2) (λ y p. other_shard_first n i i' a y d goes.0 p) (h.routes i' sh2 e)));
    routes = at_each (λ i sh. Each (GoesTo n i) (line s sh)) shards i sh' goes.1 h.routes;
    in_lane = h.in_lane;
    back_lane = λ j l e. more_behind l.unrouted (h.back_lane j l e) (before_lane j l e).0;
    own = h.own;
    between = λ i' sh2 j l e f. at_each (λ i sh. Across ComesFirst (line s sh) l.unrouted) shards i sh' (before_lane j l f).1 (λ i sh e. h.between i sh j l e f) i' sh2 e;
  })
    where
      pairs : Pairs ComesFirst (a ∷ line s sh')
      pairs = subst (λ z. Pairs ComesFirst z) q (h.in_line i sh g)

      across : Across ComesFirst behind (a ∷ line s sh')
      across = subst (λ z. Across ComesFirst behind z) q (h.back_line i sh g)

      goes : Each (GoesTo n i) (a ∷ line s sh')
      goes = subst (λ z. Each (GoesTo n i) z) q (h.routes i sh g)

      before_lane : (j : ℕ) (l : CoreLane) → slice_get lanes j ≡ Some l → Across ComesFirst (a ∷ line s sh') l.unrouted
      before_lane j l e = subst (λ z. Across ComesFirst z l.unrouted) q (h.between i sh j l g e)

      more_behind : (xs : List Arrival) → Across ComesFirst behind xs → Each (ComesFirst a) xs → Across ComesFirst (behind ++ a ∷ []) xs
      more_behind xs b c = Each-append (λ x. Each (ComesFirst x) xs) behind (a ∷ []) b (c, tt)

  -- a lane's first span for a shard goes into that shard's queue
  pub routes_one : (j i : ℕ) (l l' : CoreLane) (sh sh' : CoreShard) (a : Arrival) (front rest : List Arrival) → slice_get lanes j ≡ Some l → slice_get shards i ≡ Some sh
      → l.unrouted ≡ front ++ a ∷ rest → l'.unrouted ≡ front ++ rest → line s sh' ≡ line s sh ++ a ∷ [] → goes_to n i a ≡ true → Each (λ x. goes_to n i x ≡ false) front
      → Lined s n behind (slice_set lanes j l') (slice_set shards i sh')
  routes_one j i l l' sh sh' a front rest gl gs was becomes grows goes others = record {
    back = h.back;
    in_line = at_each (λ i sh. Pairs ComesFirst (line s sh)) shards i sh' (subst (λ z. Pairs ComesFirst z) (sym grows) (Pairs-append ComesFirst (line s sh) (a ∷ []) (h.in_line i sh gs) (tt, tt) line_first)) h.in_line;
    back_line = at_each (λ i sh. Across ComesFirst behind (line s sh)) shards i sh' (subst (λ z. Across ComesFirst behind z) (sym grows) (joined behind (line s sh) (h.back_line i sh gs) back_first)) h.back_line;
    routes = at_each (λ i sh. Each (GoesTo n i) (line s sh)) shards i sh' (subst (λ z. Each (GoesTo n i) z) (sym grows) (Each-append (GoesTo n i) (line s sh) (a ∷ []) (h.routes i sh gs) (goes, tt))) h.routes;
    in_lane = at_each (λ j (l : CoreLane). Pairs ComesFirst l.unrouted) lanes j l' (lane_rest.pairs (h.in_lane j l gl)) h.in_lane;
    back_lane = at_each (λ j (l : CoreLane). Across ComesFirst behind l.unrouted) lanes j l' (across_after behind l.unrouted l'.unrouted lane_rest (h.back_lane j l gl)) h.back_lane;
    own = at_each (λ j (l : CoreLane). Each (IsOnLane j) l.unrouted) lanes j l' (lane_rest.each (IsOnLane j) (h.own j l gl)) h.own;
    between = λ i' sh2 j' l2 e f. at_each (λ i sh. Across ComesFirst (line s sh) l2.unrouted) shards i sh'
        (at_each_other (λ j (l : CoreLane). Across ComesFirst (line s sh') l.unrouted) lanes j l'
        (subst (λ z. Across ComesFirst z l'.unrouted) (sym grows) (Each-append (λ x. Each (ComesFirst x) l'.unrouted) (line s sh) (a ∷ []) (across_after (line s sh) l.unrouted l'.unrouted lane_rest (h.between i sh j l gs gl)) (a_first, tt)))
        (λ j2 l3 d q. subst (λ z. Across ComesFirst z l3.unrouted) (sym grows) (Each-append (λ x. Each (ComesFirst x) l3.unrouted) (line s sh) (a ∷ []) (h.between i sh j2 l3 gs q)
        (Each-weaker (IsOnLane j2) (ComesFirst a) l3.unrouted (λ y p. other_lane_first a y (λ r. d (sym p ∙ sym r ∙ a_lane))) (h.own j2 l3 q), tt)))
        j' l2 f)
        (λ i3 sh3 e3. at_each (λ j (l : CoreLane). Across ComesFirst (line s sh3) l.unrouted) lanes j l' (across_after (line s sh3) l.unrouted l'.unrouted lane_rest (h.between i3 sh3 j l e3 gl)) (λ j2 l3 q. h.between i3 sh3 j2 l3 e3 q) j' l2 f)
        i' sh2 e;
  }
    where
      lane_rest : Keeps ComesFirst l.unrouted l'.unrouted
      lane_rest = keeps_then ComesFirst l.unrouted (front ++ a ∷ rest) l'.unrouted (keeps_same ComesFirst l.unrouted (front ++ a ∷ rest) was)
          (keeps_then ComesFirst (front ++ a ∷ rest) (front ++ rest) l'.unrouted (keeps_after ComesFirst front (a ∷ rest) rest (keeps_back ComesFirst (a ∷ []) rest)) (keeps_same ComesFirst (front ++ rest) l'.unrouted (sym becomes)))

      only : Keeps ComesFirst l.unrouted (a ∷ [])
      only = keeps_then ComesFirst l.unrouted (front ++ a ∷ rest) (a ∷ []) (keeps_same ComesFirst l.unrouted (front ++ a ∷ rest) was)
          (keeps_then ComesFirst (front ++ a ∷ rest) (a ∷ rest) (a ∷ []) (keeps_back ComesFirst front (a ∷ rest)) (keeps_after ComesFirst (a ∷ []) rest [] (keeps_none ComesFirst rest)))

      line_first : Across ComesFirst (line s sh) (a ∷ [])
      line_first = across_after (line s sh) l.unrouted (a ∷ []) only (h.between i sh j l gs gl)

      back_first : Across ComesFirst behind (a ∷ [])
      back_first = across_after behind l.unrouted (a ∷ []) only (h.back_lane j l gl)

      joined : (xs ys : List Arrival) → Across ComesFirst xs ys → Across ComesFirst xs (a ∷ []) → Across ComesFirst xs (ys ++ a ∷ [])
      joined [] ys p q = tt
      joined (x ∷ xs) ys p q = (Each-append (ComesFirst x) ys (a ∷ []) p.0 q.0, joined xs ys p.1 q.1)

      a_lane : IsOnLane j a
      a_lane = (only.each (IsOnLane j) (h.own j l gl)).0

      a_rest : Each (ComesFirst a) rest
      a_rest = (Pairs-right ComesFirst front (a ∷ rest) (subst (λ z. Pairs ComesFirst z) was (h.in_lane j l gl))).0

      a_first : Each (ComesFirst a) l'.unrouted
      a_first = subst (λ z. Each (ComesFirst a) z) (sym becomes) (Each-append (ComesFirst a) front rest (Each-weaker (λ x. goes_to n i x ≡ false) (ComesFirst a) front (λ y p. other_route_first n i a y goes p) others) a_rest)
