-- Answers in turn, and answers by the node: a limiter that answers by the node gives a list of answers, and such a list
-- is some such limiter's.
use Rattle.std.proofs.Common.{◌≡◌, ℕ, ◌+◌, ◌≤◌, ◌<◌, ◌==◌, Bool, true, false, cond, List, [], ◌∷◌, ◌++◌, map, length, drop, refl, sym, ap, subst, ◌∙◌, arith, append-nil, append_assoc, length-append}
use Rattle.std.proofs.lemmas.Bool.Decides.{nat_tests}
use Rattle.std.proofs.lemmas.List.{map-append, drop-drop, length-map}
use Rattle.policy_tree.specs.declared.policy.Join.{Join}
use Rattle.policy_tree.specs.Tree.{Policy, leaf, limiting, joined, Policies, no_more, one_more, nodes, nodes_in}
use Rattle.rate_budget.specs.Rising.{Rises, rises-lower, rises-upper, rises-append}
use Rattle.otlp_types.specs.declared.arrival.Arrival.{Arrival}
use Rattle.policy_eval.specs.Policies as spec
use Rattle.policy_eval.specs.Given.{next_answer, later_answers, answer_given, part_answers_given, left_by, left_by_parts, nodes_asked, nodes_asked_in_turn, answers_given, nodes_asked_at_top, verdict_given, asked_given, are_answered}

-- ---- how many answers a policy takes

later-drop : (bs : List Bool) → later_answers bs ≡ drop 1 bs
later-drop [] = refl
later-drop (b ∷ bs) = refl

mutual
  -- the answers that are left are those behind the policy's own
  pub left-drops : (p : Policy) (node : ℕ) (bs : List Bool) (spans : List Arrival) → left_by p bs spans ≡ drop (length (nodes_asked p node bs spans)) bs
  left-drops (leaf l) node bs spans = refl
  left-drops (limiting limit) node bs spans = later-drop bs
  left-drops (joined join parts) node bs spans = parts-drop join parts (node + 1) bs spans

  parts-drop : (join : Join) (ps : Policies) (node : ℕ) (bs : List Bool) (spans : List Arrival) → left_by_parts join ps bs spans ≡ drop (length (nodes_asked_in_turn join ps node bs spans)) bs
  parts-drop join no_more node bs spans = refl
  parts-drop join (one_more p rest) node bs spans =
      let ns = nodes_asked p node bs spans in
      let more = nodes_asked_in_turn join rest (node + nodes p) (left_by p bs spans) spans in
      let first = left-drops p node bs spans in
      let others = parts-drop join rest (node + nodes p) (left_by p bs spans) spans in
      (elim (spec.ends join (answer_given p bs spans)) as (λ b. cond b (left_by p bs spans) (left_by_parts join rest (left_by p bs spans) spans) ≡ drop (length (ns ++ cond b [] more)) bs) [
        | true ↦ first ∙ ap (λ ms. drop (length ms) bs) (sym (append-nil ns))
        | false ↦ others ∙ ap (drop (length more)) first ∙ drop-drop (length more) (length ns) bs ∙ ap (λ k. drop k bs) (sym (length-append ns more))
      ])

mutual
  -- a policy asks no more limiter nodes than it has nodes
  pub asks-few : (p : Policy) (node : ℕ) (bs : List Bool) (spans : List Arrival) → length (nodes_asked p node bs spans) ≤ nodes p
  asks-few (leaf l) node bs spans = omega arith
  asks-few (limiting limit) node bs spans = omega arith
  asks-few (joined join parts) node bs spans = let k = parts-few join parts (node + 1) bs spans in omega (arith, k)

  parts-few : (join : Join) (ps : Policies) (node : ℕ) (bs : List Bool) (spans : List Arrival) → length (nodes_asked_in_turn join ps node bs spans) ≤ nodes_in ps
  parts-few join no_more node bs spans = omega arith
  parts-few join (one_more p rest) node bs spans =
      let ns = nodes_asked p node bs spans in
      let more = nodes_asked_in_turn join rest (node + nodes p) (left_by p bs spans) spans in
      let first = asks-few p node bs spans in
      let others = parts-few join rest (node + nodes p) (left_by p bs spans) spans in
      (elim (spec.ends join (answer_given p bs spans)) as (λ b. length (ns ++ cond b [] more) ≤ nodes p + nodes_in rest) [
        | true ↦ let e = ap length (append-nil ns) in omega (arith, e, first)
        | false ↦ let e = length-append ns more in omega (arith, e, first, others)
      ])

-- ---- the nodes that are asked rise, so that each is asked at most once

-- none, or these
rises-unless : (b : Bool) (a c : ℕ) (ns : List ℕ) → a ≤ c → Rises a c ns → Rises a c (cond b [] ns)
rises-unless true a c ns h r = h
rises-unless false a c ns h r = r

mutual
  -- the nodes that a policy asks rise
  asked-rise : (p : Policy) (node : ℕ) (bs : List Bool) (spans : List Arrival) → Rises node (node + nodes p) (nodes_asked p node bs spans)
  asked-rise (leaf l) node bs spans = omega arith
  asked-rise (limiting limit) node bs spans = (omega arith, omega arith)
  asked-rise (joined join parts) node bs spans =
      let ns = nodes_asked_in_turn join parts (node + 1) bs spans in
      let low = rises-lower node (node + 1) (node + 1 + nodes_in parts) ns (omega arith) (parts-rise join parts (node + 1) bs spans) in
      rises-upper node (node + 1 + nodes_in parts) (node + (nodes_in parts + 1)) ns (omega arith) low

  -- and so do those that its parts ask
  parts-rise : (join : Join) (ps : Policies) (node : ℕ) (bs : List Bool) (spans : List Arrival) → Rises node (node + nodes_in ps) (nodes_asked_in_turn join ps node bs spans)
  parts-rise join no_more node bs spans = omega arith
  parts-rise join (one_more p rest) node bs spans =
      let left = left_by p bs spans in
      let ns = nodes_asked_in_turn join rest (node + nodes p) left spans in
      let b = spec.ends join (answer_given p bs spans) in
      let others = rises-unless b (node + nodes p) (node + nodes p + nodes_in rest) ns (omega arith) (parts-rise join rest (node + nodes p) left spans) in
      let all = rises-append node (node + nodes p) (node + nodes p + nodes_in rest) (nodes_asked p node bs spans) (cond b [] ns) (asked-rise p node bs spans) others in
      rises-upper node (node + nodes p + nodes_in rest) (node + (nodes p + nodes_in rest)) (nodes_asked p node bs spans ++ cond b [] ns) (omega arith) all

-- and so do those that the top policies ask
pub top-rise : (ps : Policies) (node : ℕ) (bs : List Bool) (spans : List Arrival) → Rises node (node + nodes_in ps) (nodes_asked_at_top ps node bs spans)
top-rise no_more node bs spans = omega arith
top-rise (one_more p rest) node bs spans =
    let left = left_by p bs spans in
    let ns = nodes_asked_at_top rest (node + nodes p) left spans in
    let all = rises-append node (node + nodes p) (node + nodes p + nodes_in rest) (nodes_asked p node bs spans) ns (asked-rise p node bs spans) (top-rise rest (node + nodes p) left spans) in
    rises-upper node (node + nodes p + nodes_in rest) (node + (nodes p + nodes_in rest)) (nodes_asked p node bs spans ++ ns) (omega arith) all

-- ---- a limiter that answers by the node

-- its answers are those of the list, at the nodes that are asked
abbrev pub Gives : (granted : ℕ → Bool) → (bs : List Bool) → (ns : List ℕ) → (left : List Bool) → Type 0
Gives granted bs ns left = bs ≡ map granted ns ++ left

drop-map : (granted : ℕ → Bool) (ns : List ℕ) (left : List Bool) → drop (length ns) (map granted ns ++ left) ≡ left
drop-map granted [] left = refl
drop-map granted (n ∷ ns) left = drop-map granted ns left

map-split : (granted : ℕ → Bool) (ns more : List ℕ) (left : List Bool) → map granted (ns ++ more) ++ left ≡ map granted ns ++ (map granted more ++ left)
map-split granted ns more left = ap (λ bs. bs ++ left) (map-append granted ns more) ∙ append_assoc (map granted ns) (map granted more) left

-- behind the limiter's answers to the askings of a policy stands what is left by it
rest-left : (p : Policy) (node : ℕ) (granted : ℕ → Bool) (bs : List Bool) (spans : List Arrival) (tail : List Bool) → bs ≡ map granted (nodes_asked p node bs spans) ++ tail → left_by p bs spans ≡ tail
rest-left p node granted bs spans tail split =
    let ns = nodes_asked p node bs spans in
    left-drops p node bs spans ∙ ap (drop (length ns)) split ∙ drop-map granted ns tail

gives-mine : (p : Policy) (node : ℕ) (granted : ℕ → Bool) (bs : List Bool) (spans : List Arrival) (tail : List Bool) → bs ≡ map granted (nodes_asked p node bs spans) ++ tail → Gives granted bs (nodes_asked p node bs spans) (left_by p bs spans)
gives-mine p node granted bs spans tail split = split ∙ ap (λ xs. map granted (nodes_asked p node bs spans) ++ xs) (sym (rest-left p node granted bs spans tail split))

mutual
  -- the policy answers as with that limiter, and asks the same nodes
  pub answers-as : (p : Policy) (node : ℕ) (granted : ℕ → Bool) (bs : List Bool) (spans : List Arrival) → Gives granted bs (nodes_asked p node bs spans) (left_by p bs spans) →
      (answer_given p bs spans ≡ spec.answer p node granted spans) × (nodes_asked p node bs spans ≡ spec.asked p node granted spans)
  answers-as (leaf l) node granted bs spans h = (refl, refl)
  answers-as (limiting limit) node granted bs spans h = (ap (λ xs. spec.plain (next_answer xs)) h, refl)
  answers-as (joined join parts) node granted bs spans h = let k = parts-as join parts (node + 1) granted bs spans h in (ap (spec.joined_answer join) k.0, k.1)

  parts-as : (join : Join) (ps : Policies) (node : ℕ) (granted : ℕ → Bool) (bs : List Bool) (spans : List Arrival) → Gives granted bs (nodes_asked_in_turn join ps node bs spans) (left_by_parts join ps bs spans) →
      (part_answers_given join ps bs spans ≡ spec.part_answers join ps node granted spans) × (nodes_asked_in_turn join ps node bs spans ≡ spec.asked_in_turn join ps node granted spans)
  parts-as join no_more node granted bs spans h = (refl, refl)
  parts-as join (one_more p rest) node granted bs spans h =
      let ns = nodes_asked p node bs spans in
      let left = left_by p bs spans in
      let more = nodes_asked_in_turn join rest (node + nodes p) left spans in
      let last = left_by_parts join rest left spans in
      let mine = spec.ends join (answer_given p bs spans) in
      let tail = map granted (cond mine [] more) ++ cond mine left last in
      let split : bs ≡ map granted ns ++ tail = h ∙ map-split granted ns (cond mine [] more) (cond mine left last) in
      let is : left ≡ tail = rest-left p node granted bs spans tail split in
      let first = answers-as p node granted bs spans (gives-mine p node granted bs spans tail split) in
      let same : mine ≡ spec.ends join (spec.answer p node granted spans) = ap (spec.ends join) first.0 in
      (elim mine as (λ b. mine ≡ b → ((answer_given p bs spans ∷ cond b [] (part_answers_given join rest left spans)) ≡ (spec.answer p node granted spans ∷ cond (spec.ends join (spec.answer p node granted spans)) [] (spec.part_answers join rest (node + nodes p) granted spans)))
      × (ns ++ cond b [] more ≡ spec.asked p node granted spans ++ cond (spec.ends join (spec.answer p node granted spans)) [] (spec.asked_in_turn join rest (node + nodes p) granted spans))) [
        | true ↦ λ e.
            let yes : spec.ends join (spec.answer p node granted spans) ≡ true = sym same ∙ e in
            (rw (yes, first.0), rw (yes, first.1))
        | false ↦ λ e.
            let here : left ≡ map granted more ++ last = is ∙ (let x : tail ≡ map granted more ++ last = rw e in x) in
            let others = parts-as join rest (node + nodes p) granted left spans here in
            let no : spec.ends join (spec.answer p node granted spans) ≡ false = sym same ∙ e in
            (rw (no, first.0, others.0), rw (no, first.1, others.1))
      ]) refl

-- and so do the top policies
pub top-as : (ps : Policies) (node : ℕ) (granted : ℕ → Bool) (bs : List Bool) (spans : List Arrival) → bs ≡ map granted (nodes_asked_at_top ps node bs spans) →
    (answers_given ps bs spans ≡ spec.answers ps node granted spans) × (nodes_asked_at_top ps node bs spans ≡ spec.asked_at_top ps node granted spans)
top-as no_more node granted bs spans h = (refl, refl)
top-as (one_more p rest) node granted bs spans h =
    let tail = map granted (nodes_asked_at_top rest (node + nodes p) (left_by p bs spans) spans) in
    let split : bs ≡ map granted (nodes_asked p node bs spans) ++ tail = h ∙ map-append granted (nodes_asked p node bs spans) (nodes_asked_at_top rest (node + nodes p) (left_by p bs spans) spans) in
    let first = answers-as p node granted bs spans (gives-mine p node granted bs spans tail split) in
    let others = top-as rest (node + nodes p) granted (left_by p bs spans) spans (rest-left p node granted bs spans tail split) in
    (rw (first.0, others.0), rw (first.1, others.1))

-- a list with a limiter's answers to just its askings decides as the limiter does
pub decides-as : (ps : Policies) (granted : ℕ → Bool) (bs : List Bool) (spans : List Arrival) → bs ≡ map granted (asked_given ps bs spans) →
    (verdict_given ps bs spans ≡ spec.verdict ps granted spans) × (asked_given ps bs spans ≡ spec.asked_nodes ps granted spans)
decides-as ps granted bs spans h = let k = top-as ps 0 granted bs spans h in (ap spec.verdict_of_answers k.0, k.1)

-- ---- the list of a limiter's answers

mutual
  -- with them the policy answers as with the limiter, takes just its own, and asks the same nodes
  answers-by : (p : Policy) (node : ℕ) (granted : ℕ → Bool) (spans : List Arrival) (later : List Bool) → let bs = map granted (spec.asked p node granted spans) ++ later in
      (answer_given p bs spans ≡ spec.answer p node granted spans) × (left_by p bs spans ≡ later) × (nodes_asked p node bs spans ≡ spec.asked p node granted spans)
  answers-by (leaf l) node granted spans later = (refl, refl, refl)
  answers-by (limiting limit) node granted spans later = (refl, refl, refl)
  answers-by (joined join parts) node granted spans later = let k = parts-by join parts (node + 1) granted spans later in (ap (spec.joined_answer join) k.0, k.1, k.2)

  parts-by : (join : Join) (ps : Policies) (node : ℕ) (granted : ℕ → Bool) (spans : List Arrival) (later : List Bool) → let bs = map granted (spec.asked_in_turn join ps node granted spans) ++ later in
      (part_answers_given join ps bs spans ≡ spec.part_answers join ps node granted spans) × (left_by_parts join ps bs spans ≡ later) × (nodes_asked_in_turn join ps node bs spans ≡ spec.asked_in_turn join ps node granted spans)
  parts-by join no_more node granted spans later = (refl, refl, refl)
  parts-by join (one_more p rest) node granted spans later =
      let ns = spec.asked p node granted spans in
      let mine = spec.ends join (spec.answer p node granted spans) in
      let more = spec.asked_in_turn join rest (node + nodes p) granted spans in
      let tail = map granted (cond mine [] more) ++ later in
      let bs = map granted ns ++ tail in
      let first = answers-by p node granted spans tail in
      let others = parts-by join rest (node + nodes p) granted spans later in
      let P = λ (xs : List Bool). (part_answers_given join (one_more p rest) xs spans ≡ spec.part_answers join (one_more p rest) node granted spans) × (left_by_parts join (one_more p rest) xs spans ≡ later)
      × (nodes_asked_in_turn join (one_more p rest) node xs spans ≡ spec.asked_in_turn join (one_more p rest) node granted spans) in
      subst P (sym (map-split granted ns (cond mine [] more) later))
      ((elim mine as (λ b. mine ≡ b → P bs) [
        | true ↦ λ e.
            let here : tail ≡ later = rw e in
            let yes : spec.ends join (answer_given p bs spans) ≡ true = ap (spec.ends join) first.0 ∙ e in
            (rw (yes, first.0, e), rw yes (first.1 ∙ here), rw (yes, first.2, e))
        | false ↦ λ e.
            let here : tail ≡ map granted more ++ later = rw e in
            let no : spec.ends join (answer_given p bs spans) ≡ false = ap (spec.ends join) first.0 ∙ e in
            let left : left_by p bs spans ≡ map granted more ++ later = first.1 ∙ here in
            (rw (no, left, first.0, e, others.0), rw (no, left) others.1, rw (no, left, first.2, e) (ap (λ xs. ns ++ xs) others.2))
      ]) refl)

-- and so with the top policies
top-by : (ps : Policies) (node : ℕ) (granted : ℕ → Bool) (spans : List Arrival) → let bs = map granted (spec.asked_at_top ps node granted spans) in
    (answers_given ps bs spans ≡ spec.answers ps node granted spans) × (nodes_asked_at_top ps node bs spans ≡ spec.asked_at_top ps node granted spans)
top-by no_more node granted spans = (refl, refl)
top-by (one_more p rest) node granted spans =
    let ns = spec.asked p node granted spans in
    let more = map granted (spec.asked_at_top rest (node + nodes p) granted spans) in
    let bs = map granted ns ++ more in
    let first = answers-by p node granted spans more in
    let others = top-by rest (node + nodes p) granted spans in
    let P = λ (xs : List Bool). (answers_given (one_more p rest) xs spans ≡ spec.answers (one_more p rest) node granted spans)
    × (nodes_asked_at_top (one_more p rest) node xs spans ≡ spec.asked_at_top (one_more p rest) node granted spans) in
    subst P (sym (map-append granted ns (spec.asked_at_top rest (node + nodes p) granted spans))) (rw (first.0, first.1, others.0), rw (first.1, first.2, others.1))

same-eqb : (m n : ℕ) → m ≡ n → (m == n) ≡ true
same-eqb m n h = grind (arith, nat_tests)

-- a limiter's answers to the askings decide as it does, and are as many as are asked
pub given-by : (ps : Policies) (granted : ℕ → Bool) (spans : List Arrival) → let bs = map granted (spec.asked_nodes ps granted spans) in
    (verdict_given ps bs spans ≡ spec.verdict ps granted spans) × (asked_given ps bs spans ≡ spec.asked_nodes ps granted spans) × (are_answered ps bs spans ≡ true)
given-by ps granted spans =
    let k = top-by ps 0 granted spans in
    let bs = map granted (spec.asked_nodes ps granted spans) in
    (ap spec.verdict_of_answers k.0, k.1, same-eqb (length (asked_given ps bs spans)) (length bs) (ap length k.1 ∙ sym (length-map (spec.asked_nodes ps granted spans) granted)))

-- ---- a limiter with these answers

-- the answer that stands beside the node
given_at : List ℕ → List Bool → (node : ℕ) → Bool
given_at [] bs node = false
given_at (n ∷ ns) [] node = false
given_at (n ∷ ns) (b ∷ bs) node = cond (n == node) b (given_at ns bs node)

other-eqb : (m n : ℕ) → m < n → (m == n) ≡ false
other-eqb m n h = grind (arith, nat_tests)

-- where the nodes from a number on are answered alike, so are those that rise from there
pub map-rise : (f g : ℕ → Bool) (first behind : ℕ) (ns : List ℕ) → Rises first behind ns → ((m : ℕ) → first ≤ m → f m ≡ g m) → map f ns ≡ map g ns
map-rise f g first behind [] r h = refl
map-rise f g first behind (n ∷ ns) r h = let others = map-rise f g (n + 1) behind ns r.1 (λ m k. h m (omega (arith, r.0, k))) in let here = h n r.0 in cc

given-back : (first behind : ℕ) (ns : List ℕ) (bs : List Bool) → Rises first behind ns → length ns ≡ length bs → bs ≡ map (given_at ns bs) ns
unfolding given_at
given-back first behind [] [] r e = refl
given-back first behind [] (b ∷ bs) r e = absurd (omega (arith, e))
given-back first behind (n ∷ ns) [] r e = absurd (omega (arith, e))
given-back first behind (n ∷ ns) (b ∷ bs) r e =
    let others = given-back (n + 1) behind ns bs r.1 (omega (arith, e)) in
    let same : map (given_at ns bs) ns ≡ map (given_at (n ∷ ns) (b ∷ bs)) ns = map-rise (given_at ns bs) (given_at (n ∷ ns) (b ∷ bs)) (n + 1) behind ns r.1 (λ m k. rw (other-eqb n m (omega (arith, k)))) in
    let head : b ≡ given_at (n ∷ ns) (b ∷ bs) n = rw (same-eqb n n refl) in
    cc

-- as many answers as are asked are those of a limiter
pub given-to : (ps : Policies) (bs : List Bool) (spans : List Arrival) → are_answered ps bs spans ≡ true → (granted : ℕ → Bool) × (bs ≡ map granted (asked_given ps bs spans))
given-to ps bs spans h =
    let ns = asked_given ps bs spans in
    let e : length ns ≡ length bs = grind (arith, nat_tests) in
    (given_at ns bs, given-back 0 (0 + nodes_in ps) ns bs (top-rise ps 0 bs spans) e)
