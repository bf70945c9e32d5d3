-- A condition that parses is a tree at most 600 deep.
-- For the law of laws::is_not_deep.
use Rattle.std.proofs.Common.{◌≡◌, ℕ, ◌+◌, ◌≤◌, max, Bool, true, false, nat_le, List, Ok, refl, arith}
use Rattle.std.proofs.lemmas.Bool.Decides.{nat_tests}
use Rattle.ottl_text.specs.declared.expression.Context.{Context}
use Rattle.ottl_text.specs.declared.expression.Unary.{Unary}
use Rattle.ottl_text.specs.declared.expression.Binary.{Binary}
use Rattle.ottl_text.specs.Syntax.{Term, literal, path, is_root_span, unary, binary, is_match, substring, cased, concat, depth}
use Rattle.ottl_text.specs.Grammar.{condition_of}
use Rattle.ottl_print.specs.Names.{is_operator}
use Rattle.ottl_print.specs.Printing.{argument, operand_of_one, levels_of_one, is_like, size}
use Rattle.ottl_print.proofs.Steps.{IsShallow}
use Rattle.ottl_print.proofs.ReadsBack.{Fine, FineValue, FineValues, levels_at_least}
use Rattle.ottl_print.proofs.Law.{tree_fine}

one_level : (u : Unary) → 1 ≤ levels_of_one u
one_level u = go (is_like u)
  where
    go : (b : Bool) → 1 ≤ Rattle.std.proofs.Common.cond b 2 1
    go true = omega arith
    go false = omega arith

-- at most 400 deeper than the levels of the text
abbrev IsBounded : Term → Type 0
IsBounded t = depth t ≤ 400 + (size true t).levels

binary_bounded : (b : Binary) (x y : Term) → IsBounded x → IsBounded y → (is_operator b ≡ true → IsShallow b x y) → IsBounded (binary b x y)
binary_bounded b x y deep_x deep_y shallow = go (is_operator b) refl
  where
    go : (o : Bool) → is_operator b ≡ o → IsBounded (binary b x y)
    go true o = let test = shallow o in let few : depth (binary b x y) ≤ 400 = grind (arith, nat_tests, test) in omega (arith, few)
    go false o = rw o (omega (arith, deep_x, deep_y, levels_at_least argument x (size true x).levels, levels_at_least argument y (size true y).levels))

mutual
  bounded : (c : Context) (t : Term) → Fine c t → IsBounded t
  bounded c (literal l) fine = omega arith
  bounded c (path p) fine = omega arith
  bounded c is_root_span fine = omega arith
  bounded c (unary u x) fine = omega (arith, bounded c x fine.1, levels_at_least (operand_of_one u) x (size true x).levels, one_level u)
  bounded c (binary b x y) fine = binary_bounded b x y (bounded c x fine.2) (bounded c y fine.3) fine.4
  bounded c (is_match x p) fine = omega (arith, bounded c x fine.2, levels_at_least argument x (size true x).levels)
  bounded c (substring x y z) fine =
      omega
      (arith, bounded c x fine.3, bounded c y fine.4, bounded c z fine.5, levels_at_least argument x (size true x).levels, levels_at_least argument y (size true y).levels, levels_at_least argument z (size true z).levels)
  bounded c (cased k x) fine = omega (arith, bounded c x fine.1, levels_at_least argument x (size true x).levels)
  bounded c (concat x d y) fine = omega (arith, value_bounded c x fine.1, values_bounded c d y fine.2)

  -- a value of `Concat` takes two levels of its own
  value_bounded : (c : Context) (t : Term) → FineValue c t → depth t + 1 ≤ 400 + (size true t).levels
  value_bounded c (unary u x) fine = rw fine.0 (omega (arith, bounded c x fine.2, levels_at_least argument x (size true x).levels))
  value_bounded c (literal l) fine = absurd fine
  value_bounded c (path p) fine = absurd fine
  value_bounded c is_root_span fine = absurd fine
  value_bounded c (binary b x z) fine = absurd fine
  value_bounded c (is_match x p) fine = absurd fine
  value_bounded c (substring x w z) fine = absurd fine
  value_bounded c (cased k x) fine = absurd fine
  value_bounded c (concat x w z) fine = absurd fine

  values_bounded : (c : Context) (d : List ℕ) (t : Term) → FineValues c d t → IsBounded t
  values_bounded c d (unary u x) fine = rw fine.0 (omega (arith, bounded c x fine.2, levels_at_least argument x (size true x).levels))
  values_bounded c d (concat x e y) fine = omega (arith, value_bounded c x fine.1, values_bounded c d y fine.2)
  values_bounded c d (literal l) fine = absurd fine
  values_bounded c d (path p) fine = absurd fine
  values_bounded c d is_root_span fine = absurd fine
  values_bounded c d (binary b x z) fine = absurd fine
  values_bounded c d (is_match x p) fine = absurd fine
  values_bounded c d (substring x w z) fine = absurd fine
  values_bounded c d (cased k x) fine = absurd fine

pub not_deep : (c : Context) (s : List ℕ) (t : Term) → condition_of c s ≡ Ok t → depth t ≤ 600
not_deep c s t e = let h = tree_fine c s t e in omega (arith, bounded c t h.0, h.2)
