-- Lists of policies, with and without their names.
-- For the contract of `has_empty_list`.
use Rattle.std.proofs.Common.{◌≡◌, suc, false, ◌==◌, List, [], ◌∷◌, length, refl, sym, arith}
use Rattle.std.proofs.lemmas.Bool.Decides.{nat_tests}
use Rattle.policy_tree.specs.Tree.{is_empty}
use Rattle.policy_tree.specs.Meaning.{meaning}
use Rattle.policy_tree.specs.declared.policy.Policy.{Policy}

-- a list has no policy where its length is 0
pub list_is_empty : (ps : List Policy) → is_empty (meaning ps) ≡ (length ps == 0)
list_is_empty [] = refl
list_is_empty (p ∷ ps) = let e : (suc (length ps) == 0) ≡ false = grind (arith, nat_tests) in sym e
