-- The walk over the parts of a policy and over the top policies, where a list of answers is given.
-- For the clauses of `verdict_and_askings` and of `answer_given`.
use Rattle.std.proofs.Common.{◌≡◌, ℕ, ◌+◌, ◌≤◌, Bool, true, false, cond, List, [], ◌++◌, length, drop, sym, ap, subst, ◌∙◌, arith, append-nil, length-append}
use Rattle.std.proofs.lemmas.List.{drop-drop}
use Rattle.policy_tree.specs.declared.policy.Join.{Join}
use Rattle.policy_tree.specs.Tree.{Policy, joined, Policies, no_more, one_more, nodes, nodes_in}
use Rattle.policy_eval.specs.Policies as spec
use Rattle.policy_eval.specs.Given.{answer_given, part_answers_given, left_by, nodes_asked, nodes_asked_in_turn, answers_given, nodes_asked_at_top, verdict_given, asked_given}
use Rattle.policy_eval.specs.GivenLaws.{left-drops, asks-few}
use Rattle.otlp_types.specs.declared.arrival.Arrival.{Arrival}
use Rattle.policy_eval.specs.Meaning.{answer_of, is_end, none_seen, seen_with, joined_seen, verdict_of_seen}
use Rattle.policy_eval.specs.declared.answer.AnswersSeen.{AnswersSeen}
use Rattle.policy_eval.specs.declared.answer.Answer.{Answer}
use Rattle.policy_eval.proofs.Verdicts.{Tells, tells-more, tells-all, tells-none, joined-all, ends-is}

module _ (bs : List Bool) (spans : List Arrival) where
  -- what is known of one policy, before which so many answers were given, and with which so many are
  pub record Taken (p : Policy) (before behind : ℕ) (a : Answer) : Type 0 where
    pub answer : a ≡ answer_of (answer_given p (drop before bs) spans)
    pub asked : (node : ℕ) → behind ≡ before + length (nodes_asked p node (drop before bs) spans)

  -- what is left behind it
  taken-left : (p : Policy) (before behind : ℕ) (a : Answer) → Taken p before behind a → left_by p (drop before bs) spans ≡ drop behind bs
  taken-left p before behind a k = left-drops p 0 (drop before bs) spans ∙ drop-drop (length (nodes_asked p 0 (drop before bs) spans)) before bs ∙ ap (λ n. drop n bs) (sym (k.asked 0))

  taken-few : (p : Policy) (before behind : ℕ) (a : Answer) → Taken p before behind a → behind ≤ before + nodes p
  taken-few p before behind a k = let few = asks-few p 0 (drop before bs) spans in let e = k.asked 0 in omega (arith, few, e)

  -- the parts `rest` of a policy are still to be asked
  pub record Part (policy : Policy) (join : Join) (parts : Policies) (before : ℕ) (rest : Policies) (next : ℕ) (seen : AnswersSeen) : Type 0 where
    pub is : policy ≡ joined join parts
    pub few : next + nodes_in rest ≤ 64
    pub tells : Tells seen (part_answers_given join rest (drop next bs) spans) (part_answers_given join parts (drop before bs) spans)
    pub asked : (node : ℕ) → (first : ℕ) × (before + length (nodes_asked policy node (drop before bs) spans) ≡ next + length (nodes_asked_in_turn join rest first (drop next bs) spans))

  pub part-first : (policy : Policy) (join : Join) (before : ℕ) (parts : Policies) → policy ≡ joined join parts → before + nodes policy ≤ 64 → Part policy join parts before parts before none_seen
  part-first policy join before parts e h = record {
    is = e;
    few = let k : nodes policy ≡ nodes_in parts + 1 = ap nodes e in omega (arith, k, h);
    tells = tells-none (part_answers_given join parts (drop before bs) spans);
    asked = λ node. (node + 1, ap (λ p. before + length (nodes_asked p node (drop before bs) spans)) e);
  }

  -- whether a part's answer ends them
  ends-so : (join : Join) (p : Policy) (next behind : ℕ) (a : Answer) (b : Bool) → Taken p next behind a → is_end join a ≡ b → spec.ends join (answer_given p (drop next bs) spans) ≡ b
  ends-so join p next behind a b k h = sym (ends-is join (answer_given p (drop next bs) spans)) ∙ sym (ap (is_end join) k.answer) ∙ h

  -- the answers seen with that of one more part
  told : (policy : Policy) (join : Join) (parts : Policies) (before : ℕ) (p : Policy) (rest : Policies) (next behind : ℕ) (seen : AnswersSeen) (a : Answer) (b : Bool) → Part policy join parts before (one_more p rest) next seen → Taken p next behind a → is_end join a ≡ b →
      Tells (seen_with a seen) (cond b [] (part_answers_given join rest (drop behind bs) spans)) (part_answers_given join parts (drop before bs) spans)
  told policy join parts before p rest next behind seen a b w k h =
      let first = answer_given p (drop next bs) spans in
      let later = λ (e : Bool) (xs : List Bool). cond e [] (part_answers_given join rest xs spans) in
      let all = part_answers_given join parts (drop before bs) spans in
      let so = tells-more seen first (later (spec.ends join first) (left_by p (drop next bs) spans)) all w.tells in
      let O = λ (e : Bool). Tells (seen_with (answer_of first) seen) (later e (left_by p (drop next bs) spans)) all in
      let P = λ (xs : List Bool). Tells (seen_with (answer_of first) seen) (later b xs) all in
      let Q = λ (x : Answer). Tells (seen_with x seen) (later b (drop behind bs)) all in
      subst Q (sym k.answer) (subst P (taken-left p next behind a k) (subst O (ends-so join p next behind a b k h) so))

  pub part-more : (policy : Policy) (join : Join) (parts : Policies) (before : ℕ) (p : Policy) (rest : Policies) (next behind : ℕ) (seen : AnswersSeen) (a : Answer) → Part policy join parts before (one_more p rest) next seen → Taken p next behind a → is_end join a ≡ false →
      Part policy join parts before rest behind (seen_with a seen)
  part-more policy join parts before p rest next behind seen a w k h =
      let no = ends-so join p next behind a false k h in
      let left = taken-left p next behind a k in
      record {
        is = w.is;
        few = let few = taken-few p next behind a k in let all = w.few in omega (arith, few, all);
        tells = told policy join parts before p rest next behind seen a false w k h;
        asked = λ node.
            let was = w.asked node in
            let more = nodes_asked_in_turn join rest (was.0 + nodes p) (drop behind bs) spans in
            let ns = nodes_asked p was.0 (drop next bs) spans in
            let e : nodes_asked_in_turn join (one_more p rest) was.0 (drop next bs) spans ≡ ns ++ more = rw (no, left) in
            let both = ap length e ∙ length-append ns more in
            let here = k.asked was.0 in
            (was.0 + nodes p, was.1 ∙ (let q : next + length (nodes_asked_in_turn join (one_more p rest) was.0 (drop next bs) spans) ≡ behind + length more = omega (arith, both, here) in q));
      }

  pub part-stop : (policy : Policy) (join : Join) (parts : Policies) (before : ℕ) (p : Policy) (rest : Policies) (next behind : ℕ) (seen : AnswersSeen) (a : Answer) → Part policy join parts before (one_more p rest) next seen → Taken p next behind a → is_end join a ≡ true →
      Taken policy before behind (answer_of (joined_seen join (seen_with a seen)))
  part-stop policy join parts before p rest next behind seen a w k h =
      let yes = ends-so join p next behind a true k h in
      record {
        answer = ap answer_of (joined-all join (seen_with a seen) (part_answers_given join parts (drop before bs) spans) (told policy join parts before p rest next behind seen a true w k h)
            ∙ sym (ap (λ q. answer_given q (drop before bs) spans) w.is));
        asked = λ node.
            let was = w.asked node in
            let ns = nodes_asked p was.0 (drop next bs) spans in
            let e : nodes_asked_in_turn join (one_more p rest) was.0 (drop next bs) spans ≡ ns = rw yes (append-nil ns) in
            k.asked was.0 ∙ sym (was.1 ∙ ap (λ ms. next + length ms) e);
      }

  pub part-last : (policy : Policy) (join : Join) (parts : Policies) (before next : ℕ) (seen : AnswersSeen) → Part policy join parts before no_more next seen → Taken policy before next (answer_of (joined_seen join seen))
  part-last policy join parts before next seen w = record {
    answer = ap answer_of (joined-all join seen (part_answers_given join parts (drop before bs) spans) w.tells ∙ sym (ap (λ q. answer_given q (drop before bs) spans) w.is));
    asked = λ node. let e = (w.asked node).1 in omega (arith, e);
  }

  -- the policies `rest` are still to be asked
  pub record AtTop (all rest : Policies) (next : ℕ) (seen : AnswersSeen) : Type 0 where
    pub few : next + nodes_in rest ≤ 64
    pub tells : Tells seen (answers_given rest (drop next bs) spans) (answers_given all bs spans)
    pub asked : (first : ℕ) × (length (asked_given all bs spans) ≡ next + length (nodes_asked_at_top rest first (drop next bs) spans))

  pub at_top-more : (all : Policies) (p : Policy) (rest : Policies) (next behind : ℕ) (seen : AnswersSeen) (a : Answer) → AtTop all (one_more p rest) next seen → Taken p next behind a → AtTop all rest behind (seen_with a seen)
  at_top-more all p rest next behind seen a w k =
      let left = taken-left p next behind a k in
      let first = answer_given p (drop next bs) spans in
      let told = tells-more seen first (answers_given rest (left_by p (drop next bs) spans) spans) (answers_given all bs spans) w.tells in
      let P = λ (xs : List Bool). Tells (seen_with (answer_of first) seen) (answers_given rest xs spans) (answers_given all bs spans) in
      let Q = λ (x : Answer). Tells (seen_with x seen) (answers_given rest (drop behind bs) spans) (answers_given all bs spans) in
      let was = w.asked in
      let more = nodes_asked_at_top rest (was.0 + nodes p) (drop behind bs) spans in
      let ns = nodes_asked p was.0 (drop next bs) spans in
      let e : nodes_asked_at_top (one_more p rest) was.0 (drop next bs) spans ≡ ns ++ more = rw left in
      let both = ap length e ∙ length-append ns more in
      let here = k.asked was.0 in
      record {
        few = let few = taken-few p next behind a k in let all = w.few in omega (arith, few, all);
        tells = subst Q (sym k.answer) (subst P left told);
        asked = (was.0 + nodes p, was.1 ∙ (let q : next + length (nodes_asked_at_top (one_more p rest) was.0 (drop next bs) spans) ≡ behind + length more = omega (arith, both, here) in q));
      }

  -- none is left
  pub at_top-last : (all : Policies) (next : ℕ) (seen : AnswersSeen) → AtTop all no_more next seen → (verdict_of_seen seen ≡ verdict_given all bs spans) × (next ≡ length (asked_given all bs spans))
  at_top-last all next seen w = (tells-all seen (answers_given all bs spans) w.tells, let was = w.asked.1 in omega (arith, was))
