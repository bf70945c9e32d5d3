-- The limiter nodes of policies are those of their walk.
-- For the contract of `limiters_are_of_the_walk`.
use Rattle.std.proofs.Common.{◌≡◌, ℕ, ◌+◌, List, [], ◌∷◌, ◌++◌, length, refl, ap, sym, ◌∙◌, arith, append_assoc}
use Rattle.std.proofs.lemmas.List.{length-append}
use Rattle.policy_tree.specs.declared.limiter_node.LimiterNode.{LimiterNode}
use Rattle.policy_tree.specs.Tree.{Policy, Policies, leaf, limiting, joined, no_more, one_more, nodes, nodes_in, limits, limits_in}
use Rattle.policy_tree.specs.Walk.{walk_of, walk, limiter_at, limiters_from, LimitersAreOfTheWalk}

mutual
  -- a walk meets each node once
  long_of : (p : Policy) → nodes p ≡ length (walk_of p)
  long_of (leaf l) = refl
  long_of (limiting limit) = refl
  long_of (joined join parts) = let e = long parts in omega (arith, e)

  long : (ps : Policies) → nodes_in ps ≡ length (walk ps)
  long no_more = refl
  long (one_more p rest) = let e = long_of p in let f = long rest in omega (arith, e, f, length-append (walk_of p) (walk rest))

-- the limiter nodes of one list behind another
split : (node : ℕ) (ps qs : List Policy) → limiters_from node (ps ++ qs) ≡ limiters_from node ps ++ limiters_from (node + length ps) qs
split node [] qs = let e : node ≡ node + 0 = omega arith in ap (λ (n : ℕ). limiters_from n qs) e
split node (p ∷ ps) qs =
    let e : (node + 1) + length ps ≡ node + length (p ∷ ps) = omega arith in
    ap (λ (more : List LimiterNode). limiter_at node p ++ more) (split (node + 1) ps qs ∙ ap (λ (n : ℕ). limiters_from (node + 1) ps ++ limiters_from n qs) e)
    ∙ sym (append_assoc (limiter_at node p) (limiters_from (node + 1) ps) (limiters_from (node + length (p ∷ ps)) qs))

mutual
  same_of : (p : Policy) (node : ℕ) → limits p node ≡ limiters_from node (walk_of p)
  same_of (leaf l) node = refl
  same_of (limiting limit) node = refl
  same_of (joined join parts) node = same parts (node + 1)

  same : (ps : Policies) (node : ℕ) → limits_in ps node ≡ limiters_from node (walk ps)
  same no_more node = refl
  same (one_more p rest) node =
      ap (λ (ls : List LimiterNode). ls ++ limits_in rest (node + nodes p)) (same_of p node)
      ∙ ap (λ (ls : List LimiterNode). limiters_from node (walk_of p) ++ ls) (same rest (node + nodes p) ∙ ap (λ (n : ℕ). limiters_from (node + n) (walk rest)) (long_of p))
      ∙ sym (split node (walk_of p) (walk rest))

pub limiters_are_of_the_walk : LimitersAreOfTheWalk
limiters_are_of_the_walk policies = (same policies 0, long policies)
