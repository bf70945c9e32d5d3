-- Additions of several parts, one after the other.
-- For the contracts of what counts with a `Tally`.
use Rattle.std.proofs.Common.{◌≡◌, ◌⊎◌, ℕ, ◌+◌, ◌^◌, ◌≤◌, Bool, true, false, List, [], ◌∷◌, ◌++◌, refl, sym, ap, ◌∙◌, arith, cond, inl, inr, eq-eqb}
use Rattle.std.proofs.lemmas.Grind.{common_steps}
use Rattle.std.proofs.lemmas.List.Sums.{sum_by-cons, sum_by-append}
use Rattle.std.specs.Prelude.{◌==◌, if◌then◌else◌, slice_index, slice_set}
use Rattle.drop_ledger.specs.declared.count.Count.{Count}
use Rattle.drop_ledger.specs.Places.{place_of, with_added, Addition, after_adding, added_to, Gains, Passes, TallyState, Tallies}

after_append : (xs ys : List Addition) (numbers : List ℕ) → after_adding (xs ++ ys) numbers ≡ after_adding ys (after_adding xs numbers)
after_append [] ys numbers = refl
after_append (x ∷ xs) ys numbers = after_append xs ys (with_added x.count x.spans numbers)

added_append : (count : Count) (xs ys : List Addition) → added_to count (xs ++ ys) ≡ added_to count xs + added_to count ys
added_append count xs ys = sum_by-append (λ (a : Addition). if place_of a.count == place_of count then a.spans else 0) xs ys

pub gains_none : (gained : Count → ℕ) (numbers : List ℕ) → ((count : Count) → gained count ≡ 0) → Gains gained numbers numbers
gains_none gained numbers none = ([], refl, λ count. sym (none count))

-- one part, and then another
pub gains_both : (first second both : Count → ℕ) (old mid new : List ℕ) → ((count : Count) → both count ≡ first count + second count) → Gains first old mid → Gains second mid new → Gains both old new
gains_both first second both old mid new sum a b = (
  a.0 ++ b.0,
  b.1 ∙ ap (λ n. after_adding b.0 n) a.1 ∙ sym (after_append a.0 b.0 old),
  λ count. omega (arith, added_append count a.0 b.0, a.2 count, b.2 count, sum count),
)

-- one addition
pub gains_one : (count : Count) (n : ℕ) (gained : Count → ℕ) (old new : List ℕ) → ((other : Count) → gained other ≡ cond (place_of count == place_of other) n 0) → new ≡ with_added count n old → Gains gained old new
gains_one count n gained old new is added = (
  record { count = count; spans = n } ∷ [],
  added,
  λ other. omega (arith, sum_by-cons (λ (a : Addition). if place_of a.count == place_of other then a.spans else 0) (record { count = count; spans = n }) [], is other),
)

-- ---- tallies, and the causes of full ones

-- a number grows by no more than what is added to it
one_at_most : (numbers : List ℕ) (i j n : ℕ) → slice_index (slice_set numbers i (slice_index numbers i + n)) j ≤ slice_index numbers j + (if i == j then n else 0)
one_at_most numbers i j n = grind (arith, common_steps)

at_most : (additions : List Addition) (numbers : List ℕ) (count : Count) → slice_index (after_adding additions numbers) (place_of count) ≤ slice_index numbers (place_of count) + added_to count additions
at_most [] numbers count = omega arith
at_most (a ∷ rest) numbers count = omega (
  arith,
  at_most rest (with_added a.count a.spans numbers) count,
  one_at_most numbers (place_of a.count) (place_of count) a.spans,
  sum_by-cons (λ (b : Addition). if place_of b.count == place_of count then b.spans else 0) a rest,
)

pub gains_at_most : (gained : Count → ℕ) (old new : List ℕ) (count : Count) → Gains gained old new → slice_index new (place_of count) ≤ slice_index old (place_of count) + gained count
gains_at_most gained old new count g = omega (arith, at_most g.0 old count, ap (λ (z : List ℕ). slice_index z (place_of count)) g.1, g.2 count)

pub tallies_none : (gained : Count → ℕ) (tally : TallyState) → ((count : Count) → gained count ≡ 0) → Tallies gained tally tally
tallies_none gained tally none = record { counted = λ some. (some, gains_none gained tally.numbers none); full = λ full. inl full }

pub tallies_both : (first second both : Count → ℕ) (old mid new : TallyState) → ((count : Count) → both count ≡ first count + second count) → Tallies first old mid → Tallies second mid new → Tallies both old new
tallies_both first second both old mid new sum a b = record {
  counted = λ some. let y = b.counted some in let x = a.counted y.0 in (x.0, gains_both first second both old.numbers mid.numbers new.numbers sum x.1 y.1);
  full = λ full. cause (b.full full);
}
  where
    longer : (old.is_full ≡ true) ⊎ Passes first old.numbers → (old.is_full ≡ true) ⊎ Passes both old.numbers
    longer (inl full) = inl full
    longer (inr passes) = inr (passes.0, omega (arith, passes.1, sum passes.0))

    later : (count : Count) → 2 ^ 64 ≤ slice_index mid.numbers (place_of count) + second count → (is_full : Bool) → mid.is_full ≡ is_full → (old.is_full ≡ true) ⊎ Passes both old.numbers
    later count passes true is = longer (a.full is)
    later count passes false is = inr (count, omega (arith, passes, sum count, gains_at_most first old.numbers mid.numbers count (a.counted is).1))

    cause : (mid.is_full ≡ true) ⊎ Passes second mid.numbers → (old.is_full ≡ true) ⊎ Passes both old.numbers
    cause (inl full) = longer (a.full full)
    cause (inr passes) = later passes.0 passes.1 mid.is_full refl

-- what is counted under the one count
of_itself : (count : Count) (n : ℕ) → cond (place_of count == place_of count) n 0 ≡ n
of_itself count n = ap (λ (b : Bool). cond b n 0) (eq-eqb (place_of count) (place_of count) refl)

pub tallies_one : (count : Count) (n : ℕ) (gained : Count → ℕ) (old new : TallyState) → ((other : Count) → gained other ≡ cond (place_of count == place_of other) n 0)
    → (new.is_full ≡ false → (old.is_full ≡ false) × (new.numbers ≡ with_added count n old.numbers))
    → (new.is_full ≡ true → (old.is_full ≡ true) ⊎ (2 ^ 64 ≤ slice_index old.numbers (place_of count) + n)) → Tallies gained old new
tallies_one count n gained old new is counted cause = record {
  counted = λ some. let x = counted some in (x.0, gains_one count n gained old.numbers new.numbers is x.1);
  full = λ full. passes (cause full);
}
  where
    passes : (old.is_full ≡ true) ⊎ (2 ^ 64 ≤ slice_index old.numbers (place_of count) + n) → (old.is_full ≡ true) ⊎ Passes gained old.numbers
    passes (inl full) = inl full
    passes (inr more) = inr (count, omega (arith, more, is count, of_itself count n))

-- the same spans, in other words
pub tallies_same : (gained others : Count → ℕ) (old new : TallyState) → ((count : Count) → others count ≡ gained count) → Tallies gained old new → Tallies others old new
tallies_same gained others old new same t = record {
  counted = λ some. let h = t.counted some in (h.0, (h.1.0, h.1.1, λ count. h.1.2 count ∙ sym (same count)));
  full = λ full. passes (t.full full);
}
  where
    passes : (old.is_full ≡ true) ⊎ Passes gained old.numbers → (old.is_full ≡ true) ⊎ Passes others old.numbers
    passes (inl f) = inl f
    passes (inr p) = inr (p.0, omega (arith, p.1, same p.0))
