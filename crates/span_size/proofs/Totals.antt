-- The sum of the sizes of spans, and the laws on it.
-- For `size_of`, `sizes_add` and `spans_have_size`.
use Rattle.std.proofs.Common.{◌≡◌, ℕ, ◌+◌, ◌<◌, get_or, take, length, List, [], ◌∷◌, ◌++◌, refl, ap, arith}
use Rattle.std.proofs.lemmas.List.{take_more}
use Rattle.json.specs.Print.{print_from}
use Rattle.otlp_types.specs.declared.span.Span.{Span}
use Rattle.otlp_types.specs.declared.arrival.Arrival.{Arrival}
use Rattle.span_size.specs.Size.{span_text, total, size_of, SpansHaveSize, SizesAdd}

total-append : (xs ys : List Arrival) → total (xs ++ ys) ≡ total xs + total ys
total-append [] ys = omega arith
total-append (x ∷ xs) ys = let more = total-append xs ys in omega (arith, more)

-- one span more
pub total-more : (xs : List Arrival) (i : ℕ) (x : Arrival) → i < length xs → x ≡ get_or xs i x → total (take (i + 1) xs) ≡ total (take i xs) + length (span_text x.rec.span)
total-more xs i x within is =
    let more = ap total (take_more xs i x within) in
    let parts = total-append (take i xs) (get_or xs i x ∷ []) in
    let same = ap (λ (y : Arrival). total (y ∷ [])) is in
    omega (arith, more, parts, same)

-- a span's text has its brace
text-begins : (s : Span) → 0 < length (span_text s)
unfolding print_from
text-begins s = omega arith

pub some-size : SpansHaveSize
unfolding size_of
some-size [] some = absurd (some refl)
some-size (a ∷ rest) some = let begins = text-begins a.rec.span in omega (arith, begins)

pub one-adds : SizesAdd
unfolding size_of
one-adds spans a = let parts = total-append spans (a ∷ []) in omega (arith, parts)
