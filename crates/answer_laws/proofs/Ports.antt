-- What a lane's ports have after some pushes: what they had, and of the spans pushed nothing else.
-- For the law `answers_bind`.
use Rattle.std.proofs.Common.{◌≡◌, ℕ, ◌+◌, Bool, true, false, cond, List, [], ◌∷◌, ◌++◌, length, filter, slice_get, slice_set, Option, Some, None, inl, inr, refl, sym, ap, subst, ◌∙◌, arith, append_assoc}
use Rattle.std.specs.Prelude.{Contains, ◌⊎◌}
use Rattle.std.proofs.lemmas.List.Elements.{Contains-append_left, Contains-append_right, Contains-push, Contains-push_cases}
use native.Mathlib.Decide.{ℕ_discrete}
use Rattle.otlp_types.specs.declared.arrival.Arrival.{Arrival}
use Rattle.otlp_types.specs.declared.arrival.Item.{Item}
use Rattle.otlp_types.specs.declared.arrival.Item.TheVariants.{Span}
use Rattle.otlp_types.specs.declared.span.Ids.{Ids}
use Rattle.span_ids.specs.Route.{shard_of}
use Rattle.lane_queue.specs.Ends.{EndState, TakesItem, IsRefused}
use Rattle.lane_seq.specs.Pushes.{PushesOne, PushesAll}
use Rattle.journal_theory.proofs.ListFacts.{length-slice_set}
use Rattle.world_theory.proofs.Released.{get_set, get_set_other}

abbrev pub Ports : Type 0
Ports = List (EndState Item)

-- the span was pushed at the port of this shard
abbrev pub Has : Ports → (shard : ℕ) → Arrival → Type 0
Has ports shard a = (p : EndState Item) × (slice_get ports shard ≡ Some p) × Contains p.items (Span a)

-- the ports of so many shards have what they had, and else of these spans alone
pub record Grew (old : Ports) (came : List Arrival) (new : Ports) : Type 0 where
  pub same_length : length new ≡ length old
  pub kept : (shard : ℕ) (a : Arrival) → Has old shard a → Has new shard a
  pub only : (shard : ℕ) (a : Arrival) → Has new shard a → Has old shard a ⊎ Contains came a

pub grew_none : (ports : Ports) → Grew ports [] ports
grew_none ports = record { same_length = refl; kept = λ k a h. h; only = λ k a h. inl h }

pub grew_then : (old mid new : Ports) (xs ys : List Arrival) → Grew old xs mid → Grew mid ys new → Grew old (xs ++ ys) new
grew_then old mid new xs ys f g = record {
  same_length = g.same_length ∙ f.same_length;
  kept = λ k a h. g.kept k a (f.kept k a h);
  only = λ k a h. late k a (g.only k a h);
}
  where
    first : (k : ℕ) (a : Arrival) → Has old k a ⊎ Contains xs a → Has old k a ⊎ Contains (xs ++ ys) a
    first k a (inl h) = inl h
    first k a (inr c) = inr (Contains-append_left xs ys a c)

    late : (k : ℕ) (a : Arrival) → Has mid k a ⊎ Contains ys a → Has old k a ⊎ Contains (xs ++ ys) a
    late k a (inl h) = first k a (f.only k a h)
    late k a (inr c) = inr (Contains-append_right xs ys a c)

-- ---- one push

same_port : (o : Option (EndState Item)) (p q : EndState Item) → o ≡ Some p → o ≡ Some q → p ≡ q
same_port o p q e f = let both : Some p ≡ Some q = sym e ∙ f in cc both

same_span : (a b : Arrival) → Span a ≡ Span b → a ≡ b
same_span a b e = cc e

-- the port of a shard with another list of items
module _ (old : Ports) (s : ℕ) (before after : EndState Item) (there : slice_get old s ≡ Some before) where
  has_here : (x : Arrival) → Has (slice_set old s after) s x → Contains after.items (Span x)
  has_here x h = subst (λ (p : EndState Item). Contains p.items (Span x)) (same_port (slice_get (slice_set old s after) s) h.0 after h.1 (get_set old s before after there)) h.2

  had_here : (x : Arrival) → Has old s x → Contains before.items (Span x)
  had_here x h = subst (λ (p : EndState Item). Contains p.items (Span x)) (same_port (slice_get old s) h.0 before h.1 there) h.2

  pub set_grew : (came : List Arrival) → ((x : Arrival) → Contains before.items (Span x) → Contains after.items (Span x)) → ((x : Arrival) → Contains after.items (Span x) → Contains before.items (Span x) ⊎ Contains came x)
      → Grew old came (slice_set old s after)
  set_grew came keeps only = record {
    same_length = length-slice_set old s after;
    kept = λ k x h. kept k x h (ℕ_discrete k s);
    only = λ k x h. only_there k x h (ℕ_discrete k s);
  }
    where
      kept : (k : ℕ) (x : Arrival) → Has old k x → Dec (k ≡ s) → Has (slice_set old s after) k x
      kept k x h (yes e) = subst (λ (i : ℕ). Has (slice_set old s after) i x) (sym e) (after, get_set old s before after there, keeps x (had_here x (subst (λ (i : ℕ). Has old i x) e h)))
      kept k x h (no n) = (h.0, get_set_other old s k after n ∙ h.1, h.2)

      here : (x : Arrival) → Contains before.items (Span x) ⊎ Contains came x → Has old s x ⊎ Contains came x
      here x (inl c) = inl (before, there, c)
      here x (inr c) = inr c

      only_there : (k : ℕ) (x : Arrival) → Has (slice_set old s after) k x → Dec (k ≡ s) → Has old k x ⊎ Contains came x
      only_there k x h (yes e) = subst (λ (i : ℕ). Has old i x ⊎ Contains came x) (sym e) (here x (only x (has_here x (subst (λ (i : ℕ). Has (slice_set old s after) i x) e h))))
      only_there k x h (no n) = inl (h.0, sym (get_set_other old s k after n) ∙ h.1, h.2)

module _ (capacity : ℕ) where
  -- the port of this shard took the span
  abbrev Took : (shard : ℕ) → Arrival → (old new : Ports) → Type 0
  Took shard a old new = (before : EndState Item) × (after : EndState Item) × (slice_get old shard ≡ Some before) × TakesItem capacity before (Span a) after × (new ≡ slice_set old shard after)

  -- it refused
  abbrev Refused : (shard : ℕ) → (old new : Ports) → Type 0
  Refused shard old new = (before : EndState Item) × (after : EndState Item) × (slice_get old shard ≡ Some before) × IsRefused capacity before after × (new ≡ slice_set old shard after)

  took_grew : (shard : ℕ) (a : Arrival) (old new : Ports) → Took shard a old new → Grew old (a ∷ []) new
  took_grew shard a old new t =
      let more : t.1.items ≡ t.0.items ++ Span a ∷ [] = ap (λ (e : EndState Item). e.items) t.3.1 in
      subst (λ (z : Ports). Grew old (a ∷ []) z) (sym t.4) (set_grew old shard t.0 t.1 t.2 (a ∷ [])
      (λ x c. subst (λ (z : List Item). Contains z (Span x)) (sym more) (Contains-append_left t.0.items (Span a ∷ []) (Span x) c))
      (λ x c. cases x (Contains-push_cases t.0.items (Span a) (Span x) (subst (λ (z : List Item). Contains z (Span x)) more c))))
    where
      cases : (x : Arrival) → Contains t.0.items (Span x) ⊎ (Span a ≡ Span x) → Contains t.0.items (Span x) ⊎ Contains (a ∷ []) x
      cases x (inl c) = inl c
      cases x (inr e) = inr (subst (λ (y : Arrival). Contains (a ∷ []) y) (same_span a x e) (Contains-push [] a))

  took_has : (shard : ℕ) (a : Arrival) (old new : Ports) → Took shard a old new → Has new shard a
  took_has shard a old new t =
      let more : t.1.items ≡ t.0.items ++ Span a ∷ [] = ap (λ (e : EndState Item). e.items) t.3.1 in
      subst (λ (z : Ports). Has z shard a) (sym t.4) (t.1, get_set old shard t.0 t.1 t.2, subst (λ (z : List Item). Contains z (Span a)) (sym more) (Contains-push t.0.items (Span a)))

  refused_grew : (shard : ℕ) (old new : Ports) → Refused shard old new → Grew old [] new
  refused_grew shard old new t =
      let same : t.1.items ≡ t.0.items = ap (λ (e : EndState Item). e.items) t.3.1 in
      subst (λ (z : Ports). Grew old [] z) (sym t.4) (set_grew old shard t.0 t.1 t.2 []
      (λ x c. subst (λ (z : List Item). Contains z (Span x)) (sym same) c)
      (λ x c. inl (subst (λ (z : List Item). Contains z (Span x)) same c)))

  -- of these spans more
  widened : (old new : Ports) (a : Arrival) → Grew old [] new → Grew old (a ∷ []) new
  widened old new a g = record { same_length = g.same_length; kept = g.kept; only = λ k x h. wider k x (g.only k x h) }
    where
      wider : (k : ℕ) (x : Arrival) → Has old k x ⊎ Contains [] x → Has old k x ⊎ Contains (a ∷ []) x
      wider k x (inl h) = inl h
      wider k x (inr c) = absurd (omega (arith, c.1))

  abbrev Pushes : List Arrival → (old : Ports) → (refused : ℕ) → (new : Ports) → Type 0
  Pushes = PushesAll (TakesItem capacity) (IsRefused capacity)

  abbrev PushesSpan : Option Ids → Arrival → (old : Ports) → (refused : ℕ) → (new : Ports) → Type 0
  PushesSpan ids a = PushesOne (TakesItem capacity) (IsRefused capacity) ids (Span a)

  one_grew : (a : Arrival) (ids : Option Ids) (old : Ports) (refused : ℕ) (new : Ports) → PushesSpan ids a old refused new → Grew old (a ∷ []) new
  one_grew a None old refused new h = subst (λ (z : Ports). Grew old (a ∷ []) z) (sym h.1) (widened old old a (grew_none old))
  one_grew a (Some ids) old refused new (inl h) = took_grew (shard_of ids.trace (length old)) a old new h.1
  one_grew a (Some ids) old refused new (inr h) = widened old new a (refused_grew (shard_of ids.trace (length old)) old new h.1)

  pub pushes_grew : (xs : List Arrival) (old : Ports) (refused : ℕ) (new : Ports) → Pushes xs old refused new → Grew old xs new
  pushes_grew [] old refused new h = subst (λ (z : Ports). Grew old [] z) (sym h.1) (grew_none old)
  pushes_grew (a ∷ rest) old refused new h = grew_then old h.2 new (a ∷ []) rest (one_grew a a.rec.span.ids old h.0 h.2 h.4) (pushes_grew rest h.2 h.1 new h.5)

  -- ---- how many of a request's spans were refused

  -- Of spans that came once each, from new ports to last ones: `full` tells of each span whether it has valid ids and
  -- is not at the last port of its shard.
  pub record Tells (first last : Ports) (received : List Arrival) (full : Arrival → Bool) : Type 0 where
    pub none_at_first : (shard : ℕ) (a : Arrival) → Has first shard a → ⊥
    pub once : (before later : List Arrival) (a : Arrival) → received ≡ before ++ a ∷ later → (Contains before a → ⊥) × (Contains later a → ⊥)
    pub invalid : (a : Arrival) → Contains received a → a.rec.span.ids ≡ None → full a ≡ false
    pub found : (a : Arrival) (ids : Ids) → Contains received a → a.rec.span.ids ≡ Some ids → Has last (shard_of ids.trace (length first)) a → full a ≡ false
    pub absent : (a : Arrival) (ids : Ids) → Contains received a → a.rec.span.ids ≡ Some ids → (Has last (shard_of ids.trace (length first)) a → ⊥) → full a ≡ true

  module _ (first last : Ports) (received : List Arrival) (full : Arrival → Bool) (tells : Tells first last received full) where
    -- whether a span was refused is told
    one_counts : (before later : List Arrival) (a : Arrival) (old new : Ports) (refused : ℕ) (ids : Option Ids) → a.rec.span.ids ≡ ids → received ≡ before ++ a ∷ later → Grew first before old → PushesSpan ids a old refused new → Grew new later last
        → refused ≡ cond (full a) 1 0
    one_counts before later a old new refused None e is g h f = h.0 ∙ sym (ap (λ (b : Bool). cond {A = ℕ} b 1 0) (tells.invalid a (subst (λ (z : List Arrival). Contains z a) (sym is) (Contains-append_right before (a ∷ later) a (Contains-append_left (a ∷ []) later a (Contains-push [] a)))) e))
    one_counts before later a old new refused (Some ids) e is g (inl h) f =
        let within = subst (λ (z : List Arrival). Contains z a) (sym is) (Contains-append_right before (a ∷ later) a (Contains-append_left (a ∷ []) later a (Contains-push [] a))) in
        let there = f.kept (shard_of ids.trace (length old)) a (took_has (shard_of ids.trace (length old)) a old new h.1) in
        h.0 ∙ sym (ap (λ (b : Bool). cond {A = ℕ} b 1 0) (tells.found a ids within e (subst (λ (n : ℕ). Has last (shard_of ids.trace n) a) g.same_length there)))
    one_counts before later a old new refused (Some ids) e is g (inr h) f =
        let within = subst (λ (z : List Arrival). Contains z a) (sym is) (Contains-append_right before (a ∷ later) a (Contains-append_left (a ∷ []) later a (Contains-push [] a))) in
        h.0 ∙ sym (ap (λ (b : Bool). cond {A = ℕ} b 1 0) (tells.absent a ids within e (λ there. never (f.only (shard_of ids.trace (length first)) a there))))
      where
        apart : (Contains before a → ⊥) × (Contains later a → ⊥)
        apart = tells.once before later a is

        not_first : Has first (shard_of ids.trace (length first)) a ⊎ Contains before a → ⊥
        not_first (inl k) = tells.none_at_first (shard_of ids.trace (length first)) a k
        not_first (inr k) = apart.0 k

        not_before : Has old (shard_of ids.trace (length first)) a ⊎ Contains [] a → ⊥
        not_before (inl k) = not_first (g.only (shard_of ids.trace (length first)) a k)
        not_before (inr k) = absurd (omega (arith, k.1))

        never : Has new (shard_of ids.trace (length first)) a ⊎ Contains later a → ⊥
        never (inl k) = not_before ((refused_grew (shard_of ids.trace (length old)) old new h.1).only (shard_of ids.trace (length first)) a k)
        never (inr k) = apart.1 k

    pub counts_refused : (before xs later : List Arrival) (old new : Ports) (refused : ℕ) → received ≡ before ++ xs ++ later → Grew first before old → Pushes xs old refused new → Grew new later last
        → refused ≡ length (filter full xs)
    counts_refused before [] later old new refused is g h f = h.0
    counts_refused before (a ∷ rest) later old new refused is g h f =
        let tail = pushes_grew rest h.2 h.1 new h.5 in
        let here : received ≡ before ++ a ∷ (rest ++ later) = is ∙ append_assoc before (a ∷ rest) later in
        let next : received ≡ (before ++ a ∷ []) ++ rest ++ later = here ∙ sym (append_assoc (before ++ a ∷ []) rest later ∙ append_assoc before (a ∷ []) (rest ++ later)) in
        let one = one_counts before (rest ++ later) a old h.2 h.0 a.rec.span.ids refl here g h.4 (grew_then h.2 new last rest later tail f) in
        let others = counts_refused (before ++ a ∷ []) rest later h.2 new h.1 next (grew_then first old h.2 before (a ∷ []) g (one_grew a a.rec.span.ids old h.0 h.2 h.4)) h.5 f in
        h.3 ∙ (ap (λ (n : ℕ). n + h.1) one ∙ step (full a) others)
      where
        step : (b : Bool) → h.1 ≡ length (filter full rest) → cond b 1 0 + h.1 ≡ length (cond b (a ∷ filter full rest) (filter full rest))
        step true e = omega (arith, e)
        step false e = omega (arith, e)
