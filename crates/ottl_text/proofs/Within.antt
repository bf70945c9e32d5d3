-- Depths of trees, by those of their parts.
-- For depths::is_within and depths::both_within.
use Rattle.std.proofs.Common.{◌≡◌, ℕ, ◌+◌, ◌-◌, ◌<◌, max, false, ◌&&◌, nat_le, arith}
use Rattle.std.proofs.lemmas.Bool.Decides.{nat_tests}
use Rattle.ottl_text.specs.Syntax.{Term, literal, path, is_root_span, unary, binary, is_match, substring, cased, concat, depth}

some_depth : (t : Term) → 0 < depth t
some_depth (literal l) = omega arith
some_depth (path p) = omega arith
some_depth is_root_span = omega arith
some_depth (unary u t) = omega arith
some_depth (binary b x y) = omega arith
some_depth (is_match t pattern) = omega arith
some_depth (substring x y z) = omega arith
some_depth (cased k t) = omega arith
some_depth (concat x delimiter y) = omega arith

pub none_within : (t : Term) (most : ℕ) → most ≡ 0 → false ≡ nat_le (depth t) most
none_within t most none = let some = some_depth t in grind (arith, nat_tests, some, none)

pub one_within : (a most : ℕ) → 0 < most → nat_le (a + 1) most ≡ nat_le a (most - 1)
one_within a most some = grind (arith, nat_tests, some)

pub two_within : (a b most : ℕ) → 0 < most → nat_le (max a b + 1) most ≡ nat_le a (most - 1) && nat_le b (most - 1)
two_within a b most some = grind (arith, nat_tests, some)

pub three_within : (a b c most : ℕ) → 0 < most → nat_le (max a (max b c) + 1) most ≡ nat_le a (most - 1) && (nat_le b (most - 1) && nat_le c (most - 1))
three_within a b c most some = grind (arith, nat_tests, some)
