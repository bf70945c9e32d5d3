-- Node numbers that rise.
use Rattle.std.proofs.Common.{ℕ, ◌+◌, ◌≤◌, List, [], ◌∷◌, ◌++◌, map, sym, subst, arith}
use Rattle.std.proofs.lemmas.List.{map-append}
use Rattle.policy_tree.specs.declared.limiter_node.LimiterNode.{LimiterNode}
use Rattle.policy_tree.specs.Tree.{Policy, leaf, limiting, joined, Policies, no_more, one_more, nodes, nodes_in, limits, limits_in}

-- the numbers rise, from the first bound on and below the second
abbrev pub Rises : (first behind : ℕ) → List ℕ → Type 0
Rises first behind [] = first ≤ behind
Rises first behind (n ∷ ns) = (first ≤ n) × Rises (n + 1) behind ns

-- they rise from a lesser bound on, too
pub rises-lower : (a b c : ℕ) (ns : List ℕ) → a ≤ b → Rises b c ns → Rises a c ns
rises-lower a b c [] h r = omega arith
rises-lower a b c (n ∷ ns) h r = (omega (arith, r.0), r.1)

-- one list behind the other
pub rises-append : (a b c : ℕ) (ms ns : List ℕ) → Rises a b ms → Rises b c ns → Rises a c (ms ++ ns)
rises-append a b c [] ns h r = rises-lower a b c ns h r
rises-append a b c (m ∷ ms) ns h r = (h.0, rises-append (m + 1) b c ms ns h.1 r)

-- they rise up to a greater bound, too
pub rises-upper : (a b c : ℕ) (ns : List ℕ) → b ≤ c → Rises a b ns → Rises a c ns
rises-upper a b c [] h r = omega arith
rises-upper a b c (n ∷ ns) h r = (r.0, rises-upper (n + 1) b c ns h r.1)

-- the numbers of limiter nodes
abbrev pub numbers : List LimiterNode → List ℕ
numbers nodes = map (λ (l : LimiterNode). l.node) nodes

mutual
  -- the limiter nodes of a policy rise
  pub limits-rise : (p : Policy) (node : ℕ) → Rises node (node + nodes p) (numbers (limits p node))
  limits-rise (leaf l) node = omega arith
  limits-rise (limiting limit) node = (omega arith, omega arith)
  limits-rise (joined join parts) node =
      let up : Rises (node + 1) (node + 1 + nodes_in parts) (numbers (limits_in parts (node + 1))) = limits_in-rise parts (node + 1) in
      let low = rises-lower node (node + 1) (node + 1 + nodes_in parts) (numbers (limits_in parts (node + 1))) (omega arith) up in
      rises-upper node (node + 1 + nodes_in parts) (node + (nodes_in parts + 1)) (numbers (limits_in parts (node + 1))) (omega arith) low

  -- and so do those of a list
  pub limits_in-rise : (ps : Policies) (node : ℕ) → Rises node (node + nodes_in ps) (numbers (limits_in ps node))
  limits_in-rise no_more node = omega arith
  limits_in-rise (one_more p rest) node =
      let first = limits-rise p node in
      let others = limits_in-rise rest (node + nodes p) in
      let all = rises-append node (node + nodes p) (node + nodes p + nodes_in rest) (numbers (limits p node)) (numbers (limits_in rest (node + nodes p))) first others in
      let P = λ (ns : List ℕ). Rises node (node + (nodes p + nodes_in rest)) ns in
      subst P (sym (map-append (λ (l : LimiterNode). l.node) (limits p node) (limits_in rest (node + nodes p))))
      (rises-upper node (node + nodes p + nodes_in rest) (node + (nodes p + nodes_in rest)) (numbers (limits p node) ++ numbers (limits_in rest (node + nodes p))) (omega arith) all)
