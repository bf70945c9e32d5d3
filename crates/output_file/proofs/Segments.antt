-- The bytes of an output's files, as they grow and as one is left.
-- For the contracts of `write`, `turn` and `open_anew` (bytes, keeps), and for the invariant of `OutputFile`.
use Rattle.std.proofs.Common.{◌≡◌, ◌∙◌, ℕ, ◌-◌, suc, nat_eq, Bool, true, List, [], ◌∷◌, ◌++◌, length, Option, Some, None, refl, sym, ap, subst, append-nil, arith}
use Rattle.std.specs.List.{slice_get, concat}
use Rattle.std.proofs.lemmas.List.Folds.{concat-append}
use Rattle.std.specs.Io.KnownBytes.{Appends, Keeps}
use Rattle.output_file.specs.Segments.{is_whole, line_end_after, leaves, joined, AreSegments, IsFresh, EndsAtLineEnd}

last_whole : (bytes : List ℕ) (byte : ℕ) → Some byte ≡ slice_get bytes (length bytes - 1) → nat_eq byte 10 ≡ is_whole bytes
last_whole [] byte h = cc
last_whole (b ∷ []) byte h = let e : Some byte ≡ Some b = h in cc
last_whole (b ∷ c ∷ rest) byte h =
    let e : length (b ∷ c ∷ rest) - 1 ≡ suc (length (c ∷ rest) - 1) = omega arith in
    last_whole (c ∷ rest) byte (subst (λ i. Some byte ≡ slice_get (b ∷ c ∷ rest) i) e h)

-- the last byte says whether the file is at the end of a line
pub last_ends : (before : Bool) (bytes : List ℕ) (byte : ℕ) → Some byte ≡ slice_get bytes (length bytes - 1) → nat_eq byte 10 ≡ line_end_after before bytes
last_ends before [] byte h = cc
last_ends before (b ∷ rest) byte h = last_whole (b ∷ rest) byte h

whole_more : (xs : List ℕ) (y : ℕ) (ys : List ℕ) → is_whole (xs ++ y ∷ ys) ≡ is_whole (y ∷ ys)
whole_more [] y ys = refl
whole_more (x ∷ []) y ys = refl
whole_more (x ∷ x' ∷ xs) y ys = whole_more (x' ∷ xs) y ys

ends_more : (before : Bool) (bytes taken : List ℕ) → (before ≡ true → EndsAtLineEnd bytes) → line_end_after before taken ≡ true → EndsAtLineEnd (bytes ++ taken)
ends_more before bytes [] so_far ends = subst EndsAtLineEnd (sym (append-nil bytes)) (so_far ends)
ends_more before bytes (t ∷ taken) so_far ends = whole_more bytes t taken ∙ ends

-- the open file took bytes
pub segments_grow : (left : Option (List (List ℕ))) (old new : Option (List ℕ)) (before : Bool) (taken : List ℕ) → AreSegments left old before → Appends old new taken → AreSegments left new (line_end_after before taken)
segments_grow None old new before taken are grows = tt
segments_grow (Some segments) None new before taken are grows = absurd are
segments_grow (Some segments) (Some bytes) None before taken are grows = absurd grows
segments_grow (Some segments) (Some bytes) (Some more) before taken are grows =
    (are.0, λ ends. subst EndsAtLineEnd (sym grows) (ends_more before bytes taken are.1 ends))

-- another file is open
pub joined_turns : (left : Option (List (List ℕ))) (old new : Option (List ℕ)) (before : Bool) → AreSegments left old before → IsFresh left new → Keeps (joined left old) (joined (leaves left old) new)
joined_turns None old new before are fresh = tt
joined_turns (Some segments) None new before are fresh = absurd are
joined_turns (Some segments) (Some bytes) None before are fresh = let e : None ≡ Some [] = fresh in cc
joined_turns (Some segments) (Some bytes) (Some more) before are fresh =
    let none : more ≡ [] = cc in
    ap (λ l. concat (segments ++ bytes ∷ []) ++ l) none ∙ append-nil (concat (segments ++ bytes ∷ [])) ∙ concat-append segments (bytes ∷ []) ∙ ap (λ l. concat segments ++ l) (append-nil bytes)

-- the open file is left at a place
pub place_turns : (left opened after : Option (List (List ℕ))) (old given new : Option (List ℕ)) (before : Bool)
    → AreSegments left old before → opened ≡ left → IsFresh left new → given ≡ old → after ≡ leaves opened given → Keeps (joined left old) (joined after new)
place_turns left opened after old given new before are same fresh is left_is =
    subst (λ l. Keeps (joined left old) (joined l new)) (sym (left_is ∙ ap (λ l. leaves l given) same ∙ ap (leaves left) is)) (joined_turns left old new before are fresh)
