-- A condition that parses prints as text that parses to the same.
-- For the law of laws::prints_as_itself.
use Rattle.std.proofs.Common.{◌≡◌, ℕ, suc, ◌+◌, ◌-◌, ◌≤◌, Bool, true, false, ◌&&◌, nat_lt, nat_le, List, [], length, Ok, refl, sym, ap, ◌∙◌, subst, arith, append-nil}
use Rattle.std.proofs.lemmas.Bool.Decides.{nat_tests}
use Rattle.ottl_text.specs.declared.expression.Context.{Context}
use Rattle.ottl_text.specs.Syntax.{Term, is_condition}
use Rattle.ottl_text.specs.Tokens.{end, next_piece, piece_at}
use Rattle.ottl_text.specs.Grammar.{most_levels, is_end, next_at, expression, condition_of}
use Rattle.ottl_print.specs.Printing.{size, text, is_sparing, printed}
use Rattle.ottl_print.proofs.Parts.{bind_ok, if_ok, same_ok}
use Rattle.ottl_print.proofs.Steps.{stops_ok}
use Rattle.ottl_print.proofs.ReadsBack.{Fine, row_levels, tight_some, end_of, ends_here}
use Rattle.ottl_print.proofs.ReadsTree.{tree_reads}
use Rattle.ottl_print.proofs.FromText.{from_text}

last_is : (behind : ℕ) → next_at behind [] ≡ Ok (end, [])
unfolding next_at next_piece piece_at
last_is behind = refl

whole_reads : (sparing : Bool) (c : Context) (behind : ℕ) (t : Term) → Fine c t → (size sparing t).levels ≤ 200 → expression behind c 200 1 (text sparing c t) ≡ Ok (t, [])
whole_reads sparing c behind t fine few =
    let m = 198 - (size sparing t).row in
    let n : 199 ≡ suc m + (size sparing t).row = omega (arith, few, row_levels sparing t) in
    tree_reads sparing c behind t fine 199 (suc m) 1 (text sparing c t) [] n few (tight_some t) (ends_here (end_of t)) (ap next_piece (sym (append-nil (text sparing c t))))
    ∙ stops_ok behind c m 1 t [] (ends_here 1)

condition_reads : (sparing : Bool) (c : Context) (t : Term) → Fine c t → is_condition t ≡ true → (size sparing t).levels ≤ 200 → condition_of c (text sparing c t) ≡ Ok t
unfolding condition_of
condition_reads sparing c t fine condition few =
    let behind = length (text sparing c t) + 1 in rw (whole_reads sparing c behind t fine few, last_is behind, condition) refl

fits_either : (t : Term) → (size true t).levels ≤ 200 → (size (is_sparing t) t).levels ≤ 200
fits_either t few = go (nat_lt 200 (size false t).levels) refl
  where
    go : (b : Bool) → nat_lt 200 (size false t).levels ≡ b → (size (b && nat_le (size true t).levels 200) t).levels ≤ 200
    go true is = let test : nat_le (size true t).levels 200 ≡ true = grind (arith, nat_tests, few) in rw test few
    go false is = grind (arith, nat_tests, is)

-- what is known of a tree that was read
pub tree_fine : (c : Context) (s : List ℕ) (t : Term) → condition_of c s ≡ Ok t → Fine c t × (is_condition t ≡ true) × ((size true t).levels ≤ 200)
unfolding condition_of
tree_fine c s t e =
    let behind = length s + 1 in
    let h = bind_ok (expression behind c most_levels 1 s) _ t e in
    let last = bind_ok (next_at behind h.0.1) _ t h.2 in
    let ended = if_ok (is_end last.0.0) _ _ t last.2 in
    let condition = if_ok (is_condition h.0.0) (Ok h.0.0) _ t ended.1 in
    let same : h.0.0 ≡ t = same_ok h.0.0 t condition.1 in
    let g = from_text behind c 200 1 s h.0 h.1 in
    (subst (Fine c) same g.0, subst (λ t. is_condition t ≡ true) same condition.0, subst (λ t. (size true t).levels ≤ 200) same g.1)

pub law : (c : Context) (s : List ℕ) (t : Term) → condition_of c s ≡ Ok t → condition_of c (printed c t) ≡ Ok t
unfolding printed
law c s t e = let h = tree_fine c s t e in condition_reads (is_sparing t) c t h.0 h.1 (fits_either t h.2)
