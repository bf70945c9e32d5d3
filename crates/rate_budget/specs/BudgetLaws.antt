-- The counts are what their nodes' askings make of them.
use Rattle.std.proofs.Common.{◌≡◌, ℕ, ◌+◌, ◌-◌, ◌*◌, ◌<◌, ◌≤◌, ◌==◌, min, max, Bool, true, false, ◌&&◌, ◌||◌, nat_le, cond, List, [], ◌∷◌, map, refl, sym, ap, subst, ◌∙◌, arith}
use Rattle.std.proofs.lemmas.Bool.Decides.{nat_tests}
use Rattle.policy_tree.specs.declared.limit.Limit.{Limit}
use Rattle.policy_tree.specs.declared.limit.Limit.TheVariants.{Spans, Bytes}
use Rattle.policy_tree.specs.declared.limiter_node.LimiterNode.{LimiterNode}
use Rattle.policy_tree.specs.Tree.{Policies, nodes_in, limiters}
use Rattle.rate_budget.specs.Grant.{Asking, latest_second, granted_in, missing_in, taken, capacity, spent, grants, askings_of, granted_among, granted_after}
use Rattle.rate_budget.specs.Rising.{Rises, rises-lower, numbers, limits_in-rise}
use Rattle.rate_budget.specs.declared.count.LimiterCount.{LimiterCount}
use Rattle.rate_budget.specs.Budget.{count_of, limiter_count, limiter_counts, still_spent, spent_in, grants_of, asked_count, limiter_of, has_node, grants_at, after, AsksBudgets}

-- ---- one count

-- a lesser number is another one
not-same : (m n : ℕ) → m < n → (m == n) ≡ false
not-same m n h = grind (arith, nat_tests)

-- a conjunction with false is false
and-none : (b : Bool) → (b && false) ≡ false
and-none true = refl
and-none false = refl

-- an asking that doesn't count in a second adds nothing there
none-step : (b : Bool) (n rest : ℕ) → rest ≡ 0 → cond (b && false) n 0 + rest ≡ 0
none-step b n rest h = rw (and-none b, h)

-- nothing is granted in a second behind the greatest one asked
none-granted : (own : List Asking) (second : ℕ) → latest_second own < second → granted_in second own ≡ 0
none-granted [] second h = refl
none-granted (a ∷ own) second h = rw (not-same (max a.second (latest_second own)) second h) (none-step a.granted a.amount (granted_in second own) (none-granted own second (omega arith)))

-- the spans spent, by whether the second is behind the greatest one asked
spent-by : (own : List Asking) (second : ℕ) (b : Bool) → (second - latest_second own == 0) ≡ b → cond b (granted_in (latest_second own) own) 0 ≡ granted_in (max second (latest_second own)) own
spent-by own second true h = let e : max second (latest_second own) ≡ latest_second own = grind (arith, nat_tests) in ap (λ s. granted_in s own) (sym e)
spent-by own second false h = let lt : latest_second own < second = grind (arith, nat_tests) in let e : max second (latest_second own) ≡ second = omega arith in sym (none-granted own second lt) ∙ ap (λ s. granted_in s own) (sym e)

-- a bucket gets back as much in two stretches of seconds as in both
back-twice : (missing per_second first both more : ℕ) → both ≡ first + more → (missing - per_second * first) - per_second * more ≡ missing - per_second * both
back-twice missing per_second first both more e = let d : per_second * both ≡ per_second * (first + more) = ap (λ k. per_second * k) e in omega (arith, d)

-- what is missing in a bucket at the greatest second asked, and some seconds later
missing-later : (per_second : ℕ) (own : List Asking) (second seconds : ℕ) → latest_second own ≤ second → missing_in per_second second own - per_second * seconds ≡ missing_in per_second (second + seconds) own
missing-later per_second [] second seconds h = omega arith
missing-later per_second (a ∷ own) second seconds h =
    let counted = latest_second (a ∷ own) in back-twice (missing_in per_second counted own + taken a) per_second (second - counted) (second + seconds - counted) seconds (omega (arith, h))

-- what is spent is that of the second in which the asking counts
spent-is : (node : ℕ) (limit : Limit) (own : List Asking) (second : ℕ) → spent_in second (count_of node limit own) ≡ spent limit (max second (latest_second own)) own
spent-is node (Spans per_second) own second = spent-by own second (second - latest_second own == 0) refl
spent-is node (Bytes per_second burst) own second =
    let e : latest_second own + (second - latest_second own) ≡ max second (latest_second own) = omega arith in
    missing-later per_second own (latest_second own) (second - latest_second own) (omega arith) ∙ ap (λ s. missing_in per_second s own) e

-- an asking is granted as the askings before it say
pub grants-law : (node : ℕ) (limit : Limit) (own : List Asking) (second n : ℕ) → grants_of second n (count_of node limit own) ≡ grants limit own second n
grants-law node limit own second n = ap (λ s. nat_le (s + n) (capacity limit)) (spent-is node limit own second)

-- a number is itself
same-eqb : (n : ℕ) → (n == n) ≡ true
same-eqb n = grind (arith, nat_tests)

-- a granted asking adds its spans
granted-more : (b : Bool) (n spent : ℕ) → cond b (spent + n) spent ≡ cond (b && true) n 0 + spent
granted-more true n spent = omega arith
granted-more false n spent = omega arith

-- a granted asking takes its bytes
taken-more : (b : Bool) (n missing nothing : ℕ) → nothing ≡ 0 → cond b (missing + n) missing ≡ (missing + cond b n 0) - nothing
taken-more true n missing nothing e = omega (arith, e)
taken-more false n missing nothing e = omega (arith, e)

-- what is spent with one asking more, which counts in the greatest second
spent-more : (limit : Limit) (own : List Asking) (a : Asking) → let m = latest_second (a ∷ own) in cond a.granted (spent limit m own + a.amount) (spent limit m own) ≡ spent limit m (a ∷ own)
spent-more (Spans per_second) own a =
    let m = latest_second (a ∷ own) in
    granted-more a.granted a.amount (granted_in m own) ∙ ap (λ b. cond (a.granted && b) a.amount 0 + granted_in m own) (sym (same-eqb m))
spent-more (Bytes per_second burst) own a =
    let m = latest_second (a ∷ own) in
    let none : m - m ≡ 0 = omega arith in
    taken-more a.granted a.amount (missing_in per_second m own) (per_second * (m - m)) (let d : per_second * (m - m) ≡ per_second * 0 = ap (λ k. per_second * k) none in omega (arith, d))

-- and leaves the count of all askings
pub after-law : (node : ℕ) (limit : Limit) (own : List Asking) (second n : ℕ) → let a : Asking = record { node = node; second = second; amount = n; granted = grants limit own second n } in
    asked_count second n (count_of node limit own) ≡ count_of node limit (a ∷ own)
after-law node limit own second n =
    let c = count_of node limit own in
    let m = max second (latest_second own) in
    let a : Asking = record { node = node; second = second; amount = n; granted = grants limit own second n } in
    let g : cond (grants_of second n c) (spent_in second c + n) (spent_in second c) ≡ spent limit m (a ∷ own)
    = ap (λ b. cond b (spent_in second c + n) (spent_in second c)) (grants-law node limit own second n) ∙ ap (λ s. cond (grants limit own second n) (s + n) s) (spent-is node limit own second)
    ∙ spent-more limit own a in
    ap (λ k. let x : LimiterCount = record { node = node; limit = limit; second = m; spent = k } in x) g

-- ---- a bucket

-- it fills with the seconds
pub fills-law : (per_second burst second seconds : ℕ) (askings : List Asking) → missing_in per_second second askings ≤ burst → latest_second askings ≤ second →
    burst - missing_in per_second (second + seconds) askings ≡ min burst ((burst - missing_in per_second second askings) + per_second * seconds)
fills-law per_second burst second seconds askings within h =
    let later = missing-later per_second askings second seconds h in omega (arith, within, later)

-- ---- one node of several

-- what is equal to a number is other than others
eqb-along : (a b m : ℕ) → (a == b) ≡ true → (b == m) ≡ false → (a == m) ≡ false
eqb-along a b m h k = grind (arith, nat_tests)

-- numbers that compare as equal are equal
eqb-is : (a b : ℕ) → (a == b) ≡ true → a ≡ b
eqb-is a b h = grind (arith, nat_tests)

-- other numbers are so in either order
eqb-sym : (a b : ℕ) → (a == b) ≡ false → (b == a) ≡ false
eqb-sym a b h = grind (arith, nat_tests)

-- an asking changes nothing at another node
pub others-law : (cs : List LimiterCount) (node second n m k j : ℕ) → (node == m) ≡ false → grants_at (after cs node second n) m k j ≡ grants_at cs m k j
others-law [] node second n m k j h = refl
others-law (c ∷ cs) node second n m k j h = (elim (c.node == node) as (λ b. (c.node == node) ≡ b → grants_at (cond b (asked_count second n c ∷ cs) (c ∷ after cs node second n)) m k j ≡ grants_at (c ∷ cs) m k j) [
  | true ↦ λ e. rw (eqb-along c.node node m e h)
  | false ↦ λ e. ap (λ b. cond (c.node == m) (grants_of k j c) b) (others-law cs node second n m k j h)
]) refl

-- an asking leaves the nodes
pub keeps-law : (cs : List LimiterCount) (node second n m : ℕ) → has_node (after cs node second n) m ≡ has_node cs m
keeps-law [] node second n m = refl
keeps-law (c ∷ cs) node second n m = (elim (c.node == node) as (λ b. has_node (cond b (asked_count second n c ∷ cs) (c ∷ after cs node second n)) m ≡ has_node (c ∷ cs) m) [
  | true ↦ refl
  | false ↦ ap (λ b. (c.node == m) || b) (keeps-law cs node second n m)
])

-- and so does one with an answer
pub budgets-keep : (old new : List LimiterCount) (node second n : ℕ) (answer : Bool) (m : ℕ) → AsksBudgets old node second n answer new → has_node new m ≡ has_node old m
budgets-keep old new node second n answer m h = ap (λ (cs : List LimiterCount). has_node cs m) h.1 ∙ keeps-law old node second n m

-- an asking leaves each node with its limit
pub limits-law : (cs : List LimiterCount) (node second n : ℕ) → map limiter_of (after cs node second n) ≡ map limiter_of cs
limits-law [] node second n = refl
limits-law (c ∷ cs) node second n = (elim (c.node == node) as (λ b. map limiter_of (cond b (asked_count second n c ∷ cs) (c ∷ after cs node second n)) ≡ map limiter_of (c ∷ cs)) [
  | true ↦ refl
  | false ↦ ap (λ (xs : List LimiterNode). limiter_of c ∷ xs) (limits-law cs node second n)
])

-- the counts of policies are of their limiter nodes
pub limits-of-counts : (ls : List LimiterNode) (askings : List Asking) → map limiter_of (map (limiter_count askings) ls) ≡ ls
limits-of-counts [] askings = refl
limits-of-counts (l ∷ ls) askings = ap (λ (xs : List LimiterNode). l ∷ xs) (limits-of-counts ls askings)

-- ---- all nodes

-- what the counts grant is what their askings say
pub grants-among : (ls : List LimiterNode) (askings : List Asking) (node second n : ℕ) → grants_at (map (limiter_count askings) ls) node second n ≡ granted_among ls askings second n node
grants-among [] askings node second n = refl
grants-among (l ∷ ls) askings node second n = (elim (l.node == node) as (λ b. (l.node == node) ≡ b → cond b (grants_of second n (limiter_count askings l)) (grants_at (map (limiter_count askings) ls) node second n) ≡ granted_among (l ∷ ls) askings second n node) [
  | true ↦ λ e. grants-law l.node l.limit (askings_of l.node askings) second n ∙ ap (λ m. grants l.limit (askings_of m askings) second n) (eqb-is l.node node e) ∙ rw e
  | false ↦ λ e. grants-among ls askings node second n ∙ rw e
]) refl

-- another node's asking leaves the count
count-other : (a : Asking) (askings : List Asking) (l : LimiterNode) → (a.node == l.node) ≡ false → limiter_count askings l ≡ limiter_count (a ∷ askings) l
count-other a askings l h = rw h

-- the counts of nodes behind the asked one stay
counts-behind : (a : Asking) (askings : List Asking) (behind : ℕ) (ls : List LimiterNode) → Rises (a.node + 1) behind (numbers ls) → map (limiter_count askings) ls ≡ map (limiter_count (a ∷ askings)) ls
counts-behind a askings behind [] r = refl
counts-behind a askings behind (l ∷ ls) r =
    let first = count-other a askings l (not-same a.node l.node (omega (arith, r.0))) in
    let others = counts-behind a askings behind ls (rises-lower (a.node + 1) (l.node + 1) behind (numbers ls) (omega (arith, r.0)) r.1) in
    cc

-- the asked count is that of all its node's askings
count-asked : (a : Asking) (askings : List Asking) (l : LimiterNode) → (l.node == a.node) ≡ true → a.granted ≡ grants l.limit (askings_of a.node askings) a.second a.amount →
    asked_count a.second a.amount (limiter_count askings l) ≡ limiter_count (a ∷ askings) l
count-asked a askings l h g =
    let same : l.node ≡ a.node = eqb-is l.node a.node h in
    let own = askings_of l.node askings in
    let b : Asking = record { node = l.node; second = a.second; amount = a.amount; granted = grants l.limit own a.second a.amount } in
    let granted : b.granted ≡ a.granted = ap (λ m. grants l.limit (askings_of m askings) a.second a.amount) same ∙ sym g in
    let is : b ≡ a = ap (λ (p : ℕ). let x : Asking = record { node = p; second = a.second; amount = a.amount; granted = b.granted } in x) same ∙ ap (λ (p : Bool). let x : Asking = record { node = a.node; second = a.second; amount = a.amount; granted = p } in x) granted in
    let here : (a.node == l.node) ≡ true = ap (λ m. a.node == m) same ∙ same-eqb a.node in
    let mine : a ∷ own ≡ askings_of l.node (a ∷ askings) = rw here in
    after-law l.node l.limit own a.second a.amount
    ∙ ap (λ (x : Asking). count_of l.node l.limit (x ∷ own)) is
    ∙ ap (count_of l.node l.limit) mine

-- an asking leaves the counts of all askings
pub after-among : (ls : List LimiterNode) (a : Asking) (askings : List Asking) (first behind : ℕ) → Rises first behind (numbers ls) → a.granted ≡ granted_among ls askings a.second a.amount a.node →
    after (map (limiter_count askings) ls) a.node a.second a.amount ≡ map (limiter_count (a ∷ askings)) ls
after-among [] a askings first behind r g = refl
after-among (l ∷ ls) a askings first behind r g = (elim (l.node == a.node) as (λ b. (l.node == a.node) ≡ b → cond b (asked_count a.second a.amount (limiter_count askings l) ∷ map (limiter_count askings) ls) (limiter_count askings l ∷ after (map (limiter_count askings) ls) a.node a.second a.amount) ≡ limiter_count (a ∷ askings) l ∷ map (limiter_count (a ∷ askings)) ls) [
  | true ↦ λ e.
      let within : granted_among (l ∷ ls) askings a.second a.amount a.node ≡ grants l.limit (askings_of a.node askings) a.second a.amount = rw e in
      let head = count-asked a askings l e (g ∙ within) in
      let P = λ (m : ℕ). Rises (m + 1) behind (numbers ls) in
      let tail = counts-behind a askings behind ls (subst P (eqb-is l.node a.node e) r.1) in
      cc
  | false ↦ λ e.
      let within : granted_among (l ∷ ls) askings a.second a.amount a.node ≡ granted_among ls askings a.second a.amount a.node = rw e in
      let head = count-other a askings l (eqb-sym l.node a.node e) in
      let tail = after-among ls a askings (l.node + 1) behind r.1 (g ∙ within) in
      cc
]) refl

-- ---- the counts of policies

-- what the counts of policies grant is what the askings say
pub counts-grant : (policies : Policies) (askings : List Asking) (node second n : ℕ) → grants_at (limiter_counts policies askings) node second n ≡ granted_after policies askings second n node
counts-grant policies askings node second n = grants-among (limiters policies) askings node second n

-- after an asking the counts are those of all askings
pub counts-after : (policies : Policies) (a : Asking) (askings : List Asking) → a.granted ≡ granted_after policies askings a.second a.amount a.node →
    after (limiter_counts policies askings) a.node a.second a.amount ≡ limiter_counts policies (a ∷ askings)
counts-after policies a askings g = after-among (limiters policies) a askings 0 (0 + nodes_in policies) (limits_in-rise policies 0) g
