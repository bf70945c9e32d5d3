-- What pushes to queues in one thread do, by induction over the arrivals.
-- For the contract of `list_pushes_are_determined`.
use Rattle.std.proofs.Common.{◌≡◌, ℕ, ◌+◌, nat_lt, cond, List, [], ◌∷◌, length, Option, Some, None, sym, ap, subst, ◌∙◌, arith, inl, inr}
use Rattle.std.specs.Prelude.{slice_get, slice_set, unwrap_or}
use Rattle.std.proofs.lemmas.Bool.{lt-ltb, cond-true}
use Rattle.std.proofs.lemmas.Grind.{common_steps}
use Rattle.std.proofs.lemmas.List.{set-get_or}
use Rattle.std.proofs.lemmas.Option.{unwrap_or-slice_get}
use Rattle.span_ids.specs.Route.{shard_of}
use Rattle.otlp_types.specs.declared.span.Ids.{Ids}
use Rattle.otlp_types.specs.declared.arrival.Item.{Item}
use Rattle.otlp_types.specs.declared.arrival.Item.TheVariants.{Span}
use Rattle.lane_queue.specs.Queues.{QueueState, with_last, TakesLast, IsFull}
use Rattle.lane_seq.specs.Pushes.{PushesOne}
use Rattle.lane_seq.specs.Lists.{with_offered, after_one, refused_by, refused_one, queues_after, number_refused, ListPushesAreDetermined}

-- an element put where it stands changes nothing
set_same : {X : Type 0} → (xs : List X) (i : ℕ) (x : X) → slice_get xs i ≡ Some x → slice_set xs i x ≡ xs
set_same {X} xs i x at =
    let there : slice_set xs i x ≡ xs = subst (λ (y : X). slice_set xs i y ≡ xs) (sym (unwrap_or-slice_get xs i x) ∙ ap (λ o. unwrap_or o x) at) (set-get_or xs i x) in there

full_test : {Y : Type 0} (m n : ℕ) (a b : Y) → m ≡ n → cond (nat_lt m n) a b ≡ b
full_test m n a b e = grind (arith, common_steps)

abbrev Determined : (ids : Option Ids) → Item → (old : List (QueueState Item)) → ℕ → (new : List (QueueState Item)) → Type 0
Determined ids item old refused new = (refused ≡ refused_one ids old) × (new ≡ after_one ids item old)

one : (ids : Option Ids) (item : Item) (old new : List (QueueState Item)) (refused : ℕ) → PushesOne TakesLast IsFull ids item old refused new → Determined ids item old refused new
one None item old new refused pushed = pushed
one (Some ids) item old new refused (inl (none, taken)) =
    let shard = shard_of ids.trace (length old) in
    let test = lt-ltb (length taken.0.items) taken.0.capacity taken.3.0 in (
      none ∙ sym (ap refused_by taken.2 ∙ cond-true (nat_lt (length taken.0.items) taken.0.capacity) 0 1 test),
      taken.4 ∙ ap (slice_set old shard) taken.3.1 ∙ sym (ap (λ o. with_offered shard item o old) taken.2
          ∙ cond-true (nat_lt (length taken.0.items) taken.0.capacity) (slice_set old shard (with_last taken.0 item)) old test),
    )
one (Some ids) item old new refused (inr (one_more, full)) =
    let shard = shard_of ids.trace (length old) in (
      one_more ∙ sym (ap refused_by full.2 ∙ full_test (length full.0.items) full.0.capacity 0 1 full.3.0),
      full.4 ∙ ap (slice_set old shard) full.3.1 ∙ set_same old shard full.0 full.2 ∙ sym (ap (λ o. with_offered shard item o old) full.2
          ∙ full_test (length full.0.items) full.0.capacity (slice_set old shard (with_last full.0 item)) old full.3.0),
    )

pub list_pushes_are_determined : ListPushesAreDetermined
list_pushes_are_determined [] old new refused all = all
list_pushes_are_determined (a ∷ rest) old new refused all =
    let first = one a.rec.span.ids (Span a) old all.2 all.0 all.4 in
    let others = list_pushes_are_determined rest all.2 new all.1 all.5 in
    let more : all.1 ≡ number_refused rest (after_one a.rec.span.ids (Span a) old) = others.0 ∙ ap (number_refused rest) first.1 in
    (all.3 ∙ ap (λ n. n + all.1) first.0 ∙ ap (λ n. refused_one a.rec.span.ids old + n) more, others.1 ∙ ap (queues_after rest) first.1)
