-- What pushes leave in the queues.
-- For the contract of `receive`.
use Rattle.std.proofs.Common.{◌≡◌, ℕ, zero, suc, Bool, true, false, cond, ◌&&◌, List, [], ◌∷◌, ◌++◌, map, Option, Some, None, refl, sym, ap, subst, ◌∙◌, inl, inr}
use Rattle.std.specs.List.{AllByRecursion, list_all, slice_get, slice_set}
use Rattle.std.specs.Prelude.{is_some}
use Rattle.lane_queue.specs.Queues.{QueueState, TakesLast, IsFull}
use Rattle.lane_seq.specs.Pushes.{PushesOne, PushesAll, TakesAt, RefusesAt}
use Rattle.lane_seq.specs.Replies.{IsReplyTo}
use Rattle.lane_seq.specs.declared.reply.Reply.{Reply}
use Rattle.lane_seq.specs.declared.reply.Reply.TheVariants.{Done, Partial, BadData, Busy}
use Rattle.otlp_types.specs.declared.span.Ids.{Ids}
use Rattle.otlp_types.specs.declared.arrival.Arrival.{Arrival}
use Rattle.otlp_types.specs.declared.arrival.Item.{Item}
use Rattle.otlp_types.specs.declared.arrival.Item.TheVariants.{Span}
use Rattle.script_run.specs.Connections.{Contacts}
use Rattle.script_run.specs.World.{empty_queues}
use Rattle.lane_seq.specs.Replies.{is_received}
use Rattle.script_session.specs.Submitting.{Submits}
use Rattle.script_session.specs.Pulling.{is_queued, emptied, HoldsQueued}

-- ---- one place of a list

same-map : {X Y : Type 0} (f : X → Y) (xs : List X) (i : ℕ) (x y : X) → slice_get xs i ≡ Some x → f y ≡ f x → map f (slice_set xs i y) ≡ map f xs
same-map f [] i x y g e = refl
same-map f (z ∷ xs) zero x y g e = let is : z ≡ x = cc g in ap (λ q. q ∷ map f xs) (e ∙ ap f (sym is))
same-map f (z ∷ xs) (suc i) x y g e = ap (λ qs. f z ∷ qs) (same-map f xs i x y g e)

all-set : {X : Type 0} (P : X → Type 0) (xs : List X) (i : ℕ) (y : X) → AllByRecursion P xs → P y → AllByRecursion P (slice_set xs i y)
all-set P [] i y all p = all
all-set P (x ∷ xs) zero y all p = (p, all.1)
all-set P (x ∷ xs) (suc i) y all p = (all.0, all-set P xs i y all.1 p)

all-get : {X : Type 0} (P : X → Type 0) (xs : List X) (i : ℕ) (x : X) → AllByRecursion P xs → slice_get xs i ≡ Some x → P x
all-get P [] i x all g = absurd (cc g)
all-get P (z ∷ xs) zero x all g = let is : z ≡ x = cc g in subst P is all.0
all-get P (z ∷ xs) (suc i) x all g = all-get P xs i x all.1 g

all-more : (items : List Item) (item : Item) → list_all is_queued items ≡ true → is_queued item ≡ true → list_all is_queued (items ++ item ∷ []) ≡ true
all-more [] item h k = rw k refl
all-more (x ∷ items) item h k = go (is_queued x) h (all-more items item)
  where
    go : (b : Bool) → (b && list_all is_queued items) ≡ true → (list_all is_queued items ≡ true → is_queued item ≡ true → list_all is_queued (items ++ item ∷ []) ≡ true) → (b && list_all is_queued (items ++ item ∷ [])) ≡ true
    go true e f = f e k
    go false e f = absurd (cc e)

-- ---- pushes

-- each queue holds spans with valid ids alone, and is what it was but for its items
abbrev Kept : (old new : List (QueueState Item)) → Type 0
Kept old new = (AllByRecursion HoldsQueued old → AllByRecursion HoldsQueued new) × (map emptied new ≡ map emptied old)

one-kept : (a : Arrival) (ids : Ids) (old new : List (QueueState Item)) (n i : ℕ) → a.rec.span.ids ≡ Some ids → TakesAt TakesLast IsFull i (Span a) old new → Kept old new
one-kept a ids old new n i h t =
    let P = λ (qs : List (QueueState Item)). AllByRecursion HoldsQueued qs in
    let is_span : is_queued (Span a) ≡ true = ap is_some h in
    let Q = λ (q : QueueState Item). HoldsQueued q in (
      λ all. subst P (sym t.4) (all-set HoldsQueued old i t.1 all (subst Q (sym t.3.1) (all-more t.0.items (Span a) (all-get HoldsQueued old i t.0 all t.2) is_span))),
      ap (map emptied) t.4 ∙ same-map emptied old i t.0 t.1 t.2 (ap emptied t.3.1),
    )

full-kept : (old new : List (QueueState Item)) (i : ℕ) → RefusesAt TakesLast IsFull i old new → Kept old new
full-kept old new i t =
    let P = λ (qs : List (QueueState Item)). AllByRecursion HoldsQueued qs in
    let Q = λ (q : QueueState Item). HoldsQueued q in (
      λ all. subst P (sym t.4) (all-set HoldsQueued old i t.1 all (subst Q (sym t.3.1) (all-get HoldsQueued old i t.0 all t.2))),
      ap (map emptied) t.4 ∙ same-map emptied old i t.0 t.1 t.2 (ap emptied t.3.1),
    )

push-kept : (a : Arrival) (old new : List (QueueState Item)) (n : ℕ) (o : Option Ids) → a.rec.span.ids ≡ o → PushesOne TakesLast IsFull o (Span a) old n new → Kept old new
push-kept a old new n None h p = let P = λ (qs : List (QueueState Item)). AllByRecursion HoldsQueued qs in (λ all. subst P (sym p.1) all, ap (map emptied) p.1)
push-kept a old new n (Some ids) h (inl p) = one-kept a ids old new n _ h p.1
push-kept a old new n (Some ids) h (inr p) = full-kept old new _ p.1

all-kept : (arrivals : List Arrival) (old new : List (QueueState Item)) (n : ℕ) → PushesAll TakesLast IsFull arrivals old n new → Kept old new
all-kept [] old new n p = let P = λ (qs : List (QueueState Item)). AllByRecursion HoldsQueued qs in (λ all. subst P (sym p.1) all, ap (map emptied) p.1)
all-kept (a ∷ rest) old new n p =
    let one = push-kept a old p.2 p.0 a.rec.span.ids refl p.4 in
    let more = all-kept rest p.2 new p.1 p.5 in
    (λ all. more.0 (one.0 all), more.1 ∙ one.1)

pub submits-kept : (keeps : Bool) (old new : Contacts) (number moment : ℕ) (body : List ℕ) (before after : List (QueueState Item)) (reply : Reply) → Submits keeps old number moment body before reply after new
    → (AllByRecursion HoldsQueued before → AllByRecursion HoldsQueued after) × (map emptied after ≡ map emptied before)
submits-kept keeps old new number moment body before after reply (inl s) = let P = λ (qs : List (QueueState Item)). AllByRecursion HoldsQueued qs in (λ all. subst P (sym s.2) all, ap (map emptied) s.2)
submits-kept keeps old new number moment body before after reply (inr (inl s)) = let P = λ (qs : List (QueueState Item)). AllByRecursion HoldsQueued qs in (λ all. subst P (sym s.1) all, ap (map emptied) s.1)
submits-kept keeps old new number moment body before after reply (inr (inr s)) = all-kept _ before after s.2.refused s.2.pushed

-- ---- empty queues

pub empty-queued : (capacity shards : ℕ) → AllByRecursion HoldsQueued (empty_queues capacity shards)
empty-queued capacity zero = tt
empty-queued capacity (suc n) = (refl, empty-queued capacity n)

pub empty-emptied : (capacity shards : ℕ) → map emptied (empty_queues capacity shards) ≡ empty_queues capacity shards
empty-emptied capacity zero = refl
empty-emptied capacity (suc n) = ap (λ qs. record { items = []; capacity = capacity } ∷ qs) (empty-emptied capacity n)

-- what a request leaves of empty queues, once the shards took what was received
pub queues-left : (keeps : Bool) (old new : Contacts) (number moment : ℕ) (body : List ℕ) (before after : List (QueueState Item)) (reply : Reply) (capacity shards : ℕ) (b : Bool) → Submits keeps old number moment body before reply after new
    → b ≡ is_received reply → before ≡ empty_queues capacity shards → cond b (map emptied after) after ≡ empty_queues capacity shards
queues-left keeps old new number moment body before after reply capacity shards true submits e is =
    (submits-kept keeps old new number moment body before after reply submits).1 ∙ ap (map emptied) is ∙ empty-emptied capacity shards
queues-left keeps old new number moment body before after reply capacity shards false submits e is = not_read submits ∙ is
  where
    was_read : (spans invalid full : ℕ) (r : Reply) → IsReplyTo spans invalid full r → false ≡ is_received r → ⊥
    was_read spans invalid full (Done n) t f = cc f
    was_read spans invalid full (Partial n i g) t f = cc f
    was_read spans invalid full (BadData cause) t f = t
    was_read spans invalid full Busy t f = t

    not_read : Submits keeps old number moment body before reply after new → after ≡ before
    not_read (inl s) = s.2
    not_read (inr (inl s)) = s.1
    not_read (inr (inr s)) = absurd (was_read _ _ s.2.refused reply s.2.replied e)
