-- What waits in a shard has a bound.
-- For the law `waiting_is_bounded`.
use Rattle.std.proofs.Common.{◌≡◌, ℕ, ◌*◌, ◌≤◌, Bool, true, false, cond, List, [], ◌∷◌, length, take, filter, Option, Some, refl, ap, arith}
use Rattle.std.specs.List.{sum_by}
use Rattle.std.proofs.lemmas.List.{length-reverse, length-take}
use Rattle.std.proofs.lemmas.List.Sums.{sum_by-cons}
use Rattle.std.proofs.Math.Nat.{mul-le-mul_left}
use Rattle.span_size.specs.Size.{size_of}
use Rattle.journal_theory.specs.Journal.{Settings, Opening, Notes, last_of, in_buffer, undecided, notes, notes_dealt, spans_since}
use Rattle.world_theory.specs.World.{settings}
use Rattle.world_theory.specs.Headline.{OfEachRun}
use Rattle.journal_theory.proofs.Notes.{is_open}
use Rattle.journal_theory.proofs.ListFacts.{Each, Split, Split-cons}
use Rattle.world_theory.proofs.Single.{split_contains}
use Rattle.decision_times.proofs.Stopping.{never_too_late}
use Rattle.core_laws.specs.Bounds.{WaitingTracesAreFew, WaitingBytesAreFew}

-- a filter leaves no more
fewer : {X : Type 0} (p : X → Bool) (xs : List X) → length (filter p xs) ≤ length xs
fewer p [] = omega arith
fewer {X} p (x ∷ xs) = go (p x) (fewer p xs)
  where
    go : (b : Bool) → length (filter p xs) ≤ length xs → length (cond b (x ∷ filter p xs) (filter p xs)) ≤ length (x ∷ xs)
    go true h = omega arith
    go false h = omega arith

few : (s : Settings) (noted : Notes) (n : ℕ) → s.num_traces ≡ Some n → length (undecided s noted) ≤ n
few s noted n e =
    let front : length (in_buffer s noted) ≡ length (take n noted.openings) = ap (λ (o : Option ℕ). length (last_of o noted.openings)) e in
    omega (arith, length-reverse (filter (is_open noted) (in_buffer s noted)), fewer (is_open noted) (in_buffer s noted), front, length-take n noted.openings)

pub waiting_traces_are_few : OfEachRun WaitingTracesAreFew
waiting_traces_are_few c lanes shards steps w room run n e shard sh g = few (settings c w) (notes_dealt (settings c w) sh.journal sh.dealt) n e

-- where each is at most so much, the sum is at most so many times that
sum_few : {X : Type 0} (f : X → ℕ) (most : ℕ) (xs : List X) → Each (λ x. f x ≤ most) xs → sum_by f xs ≤ length xs * most
sum_few f most [] h = omega arith
sum_few f most (x ∷ xs) h = omega (arith, sum_by-cons f x xs, h.0, sum_few f most xs h.1)

-- each element is one of the list
each_within : {X : Type 0} (P : X → Type 0) (xs : List X) → ((x : X) → Split x xs → P x) → Each P xs
each_within P [] f = tt
each_within P (x ∷ xs) f = (f x (record { front = []; back = xs; is = refl }), each_within P xs (λ y k. f y (Split-cons y x xs k)))

pub waiting_bytes_are_few : OfEachRun WaitingBytesAreFew
waiting_bytes_are_few c lanes shards steps w room run n e on wait shard sh g none =
    let os = undecided (settings c w) (notes (settings c w) sh.journal) in
    let each = each_within (λ (o : Opening). size_of (spans_since sh.journal o) ≤ c.shard.maximum_trace_size) (undecided (settings c w) (notes (settings c w) sh.journal))
    (λ o k. (never_too_late c lanes shards steps w room run wait shard sh g none o (split_contains o (undecided (settings c w) (notes (settings c w) sh.journal)) k)).1.size on) in
    let sum = sum_few (λ (o : Opening). size_of (spans_since sh.journal o)) c.shard.maximum_trace_size (undecided (settings c w) (notes (settings c w) sh.journal)) each in
    let many = mul-le-mul_left c.shard.maximum_trace_size (few (settings c w) (notes (settings c w) sh.journal) n e) in
    omega (arith, sum, many)
