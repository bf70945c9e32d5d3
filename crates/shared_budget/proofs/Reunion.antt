-- Seats that are made one by one, and taken in one by one.
-- For the contracts of `node_seats`, `reunite_node` and `stays_within`.
use Rattle.std.proofs.Common.{◌≡◌, ℕ, ◌+◌, ◌-◌, ◌<◌, ◌≤◌, ◌==◌, Bool, true, false, List, [], ◌∷◌, ◌++◌, All, length, cond, max, nat_le, ◌&&◌, sym, refl, ap, ◌∙◌, subst, append_assoc, length-append, arith}
use Rattle.std.proofs.lemmas.Bool.Decides.{nat_tests}
use Rattle.std.proofs.lemmas.List.Elements.{All-nil, All-cons, All-head, All-tail, All-weaker}
use Rattle.atomic_table.specs.Seated.{TableId}
use Rattle.policy_tree.specs.declared.limit.Limit.{Limit}
use Rattle.policy_tree.specs.declared.limit.Limit.TheVariants.{Spans, Bytes}
use Rattle.rate_budget.specs.Grant.{latest_second, granted_in, missing_in, grants}
use Rattle.shared_budget.specs.declared.known.Asked.{Asked}
use Rattle.shared_budget.specs.declared.known.HistoryPart.{HistoryPart}
use Rattle.shared_budget.specs.declared.known.View.{View}
use Rattle.shared_budget.specs.History.{askings, IsLegal, AreOfSeats, HasPart}
use Rattle.shared_budget.specs.Rule.{own, seated, without_next, next_seat, with_parts, OneHistory}
use Rattle.shared_budget.specs.Seats.{Stand, AreNewFrom, AreNew, IsOf, AreOfOne, StandsIn, HaveOneHistory, StaysWithin}

-- ---- one by one

pub new-push : (table : TableId) (node : ℕ) (limit : Limit) (seats from at : ℕ) (stands : List Stand) (s : Stand) → AreNewFrom table node limit seats from stands → from + length stands ≡ at → s ≡ (table, seated node limit seats at at []) → AreNewFrom table node limit seats from (stands ++ s ∷ [])
new-push table node limit seats from at [] s h is e =
    let same : at ≡ from = omega arith in
    (e ∙ ap (λ (k : ℕ). (table, seated node limit seats k k [])) same, tt)
new-push table node limit seats from at (x ∷ stands) s h is e = (h.0, new-push table node limit seats (from + 1) at stands s h.1 (omega arith) e)

-- ---- together again

all_back : (P : HistoryPart → Type 0) (xs ys : List HistoryPart) → All P (xs ++ ys) → All P ys
all_back P [] ys h = h
all_back P (x ∷ xs) ys h = all_back P xs ys (All-tail P x (xs ++ ys) h)

pub all_front : {X : Type 0} (P : X → Type 0) (xs ys : List X) → All P (xs ++ ys) → All P xs
all_front P [] ys h = All-nil P
all_front P (x ∷ xs) ys h = All-cons P x xs (All-head P x (xs ++ ys) h) (all_front P xs ys (All-tail P x (xs ++ ys) h))

pub all_last : {X : Type 0} (P : X → Type 0) (xs : List X) (y : X) → All P (xs ++ y ∷ []) → P y
all_last P [] y h = All-head P y [] h
all_last P (x ∷ xs) y h = all_last P xs y (All-tail P x (xs ++ y ∷ []) h)

-- a seat of the same table and node as these, with the same limit and number of seats
abbrev IsOfTheirs : (stands : List Stand) → AreOfOne stands → Stand → Type 0
IsOfTheirs stands one = IsOf one.0 one.1 one.2 one.3

-- what the loop keeps: the seats that are left are the first ones, and the parts of the others are taken in
pub record Uniting (whole left : List Stand) (first : Stand) : Type 0 where
  pub one : AreOfOne whole
  pub of : IsOfTheirs whole one first
  pub same : All (IsOfTheirs whole one) left
  pub others : List Stand
  pub split : whole ≡ left ++ others
  pub parts : (log : List Asked) → HasPart log (own first.1) → All (HasPart log) first.1.others → All (StandsIn log) others

pub uniting_init : (whole left : List Stand) (first : Stand) → AreOfOne whole → whole ≡ left ++ first ∷ [] → Uniting whole left first
uniting_init whole left first h is =
    let all = subst (All (IsOfTheirs whole h)) is h.4 in
    record {
      one = h;
      of = all_last (IsOfTheirs whole h) left first all;
      same = all_front (IsOfTheirs whole h) left (first ∷ []) all;
      others = first ∷ [];
      split = is;
      parts = λ log mine theirs. All-cons (StandsIn log) first [] mine (All-nil (StandsIn log));
    }

pub uniting_step : (whole left left' : List Stand) (first other first' : Stand) → Uniting whole left first → left ≡ left' ++ other ∷ [] → first'.0 ≡ first.0 → first'.1 ≡ with_parts first.1 other.1 → Uniting whole left' first'
uniting_step whole left left' first other first' u is same_table view =
    let rest = subst (All (IsOfTheirs whole u.one)) is u.same in
    let now : first' ≡ (first.0, with_parts first.1 other.1) = λ i. (same_table i, view i) in
    record {
      one = u.one;
      of = subst (IsOfTheirs whole u.one) (sym now) u.of;
      same = all_front (IsOfTheirs whole u.one) left' (other ∷ []) rest;
      others = other ∷ u.others;
      split = u.split ∙ ap (λ (xs : List Stand). xs ++ u.others) is ∙ append_assoc left' (other ∷ []) u.others;
      parts = λ log. subst (λ (x : Stand). HasPart log (own x.1) → All (HasPart log) x.1.others → All (StandsIn log) (other ∷ u.others)) (sym now)
          (λ mine theirs. All-cons (StandsIn log) other u.others (All-head (HasPart log) (own other.1) (other.1.others ++ first.1.others) theirs)
          (u.parts log mine (all_back (HasPart log) other.1.others first.1.others (All-tail (HasPart log) (own other.1) (other.1.others ++ first.1.others) theirs))));
    }

pub uniting_end : (whole left : List Stand) (first : Stand) → Uniting whole left first → left ≡ [] → (log : List Asked) → OneHistory first.1 log → HaveOneHistory whole
uniting_end whole left first u none log one =
    let is : whole ≡ u.others = u.split ∙ ap (λ (xs : List Stand). xs ++ u.others) none in
    let stand = subst (All (StandsIn log)) (sym is) (u.parts log one.2 one.3) in
    let P : Stand → Type 0 = λ x. IsLegal x.1.node x.1.limit log × AreOfSeats x.1.seats log in
    let legal : IsLegal u.one.1 u.one.2 log = subst (λ (y : ℕ × Limit). IsLegal y.0 y.1 log) (λ i. (u.of.1 i, u.of.2 i)) one.0 in
    let within : AreOfSeats u.one.3 log = subst (λ m. AreOfSeats m log) u.of.3 one.1 in
    let each = All-weaker (IsOfTheirs whole u.one) P (λ x o. (subst (λ (y : ℕ × Limit). IsLegal y.0 y.1 log) (λ i. (sym o.1 i, sym o.2 i)) legal, subst (λ m. AreOfSeats m log) (sym o.3) within)) whole u.one.4 in
    (log, λ k d lt. ((each k d lt).0, (each k d lt).1, stand k d lt))

pub none_left : (left : List Stand) → length left ≡ 0 → left ≡ []
none_left [] e = refl
none_left (x ∷ left) e = absurd (omega arith)

-- ---- within the limit

same_second : (a b : ℕ) → (a == b) ≡ true → a ≡ b
same_second a b h = grind (arith, nat_tests)

within_at : (most s : ℕ) (e : Asked) (log : List Asked) → e.granted ≡ grants (Spans most) (askings log) e.second e.amount → granted_in s (askings log) ≤ most
    → (g t : Bool) → e.granted ≡ g → (latest_second (askings (e ∷ log)) == s) ≡ t → cond (g && t) e.amount 0 + granted_in s (askings log) ≤ most
within_at most s e log legal below true true granted here =
    let second : max e.second (latest_second (askings log)) ≡ s = same_second (latest_second (askings (e ∷ log))) s here in
    let fits : nat_le (granted_in s (askings log) + e.amount) most ≡ true = ap (λ m. nat_le (granted_in m (askings log) + e.amount) most) (sym second) ∙ sym legal ∙ granted in
    let le : granted_in s (askings log) + e.amount ≤ most = grind (arith, nat_tests) in omega arith
within_at most s e log legal below true false granted here = omega arith
within_at most s e log legal below false t granted here = omega arith

-- a bucket holds what is taken of it
held_at : (per_second burst : ℕ) (e : Asked) (log : List Asked) → e.granted ≡ grants (Bytes per_second burst) (askings log) e.second e.amount
    → missing_in per_second (latest_second (askings (e ∷ log))) (askings log) ≤ burst → (g : Bool) → e.granted ≡ g → missing_in per_second (latest_second (askings (e ∷ log))) (askings log) + cond g e.amount 0 ≤ burst
held_at per_second burst e log legal below true granted =
    let fits : nat_le (missing_in per_second (latest_second (askings (e ∷ log))) (askings log) + e.amount) burst ≡ true = sym legal ∙ granted in grind (arith, nat_tests)
held_at per_second burst e log legal below false granted = omega arith

pub within : StaysWithin
within node (Spans most) s [] legal = omega arith
within node (Spans most) s (e ∷ log) legal = within_at most s e log legal.1 (within node (Spans most) s log legal.2) e.granted (latest_second (askings (e ∷ log)) == s) refl refl
within node (Bytes per_second burst) s [] legal = omega arith
within node (Bytes per_second burst) s (e ∷ log) legal =
    let counted = latest_second (askings (e ∷ log)) in
    let held = held_at per_second burst e log legal.1 (within node (Bytes per_second burst) counted log legal.2) e.granted refl in omega (arith, held)

-- ---- what the loop of the seats keeps

abbrev pub Given : (node : ℕ) (limit : Limit) (seats last at : ℕ) → List Stand → Stand → Type 0
Given node limit seats last at all s = (length all ≡ at) × (s.1 ≡ seated node limit seats last at []) × AreNewFrom s.0 node limit seats 0 all

pub given_more : (node : ℕ) (limit : Limit) (seats last at : ℕ) (all : List Stand) (s s' t : Stand) → Given node limit seats last at all s → s' ≡ (s.0, without_next s.1) → t ≡ (s.0, next_seat s.1) → Given node limit seats last (at + 1) (all ++ t ∷ []) s'
given_more node limit seats last at all s s' t h is given =
    let len : length all + 1 ≡ at + 1 = ap (λ k. k + 1) h.0 in
    let one : length (all ++ t ∷ []) ≡ at + 1 = length-append all (t ∷ []) ∙ len in
    let new : t ≡ (s.0, seated node limit seats at at []) = given ∙ ap (λ (v : View). (s.0, next_seat v)) h.1 in
    let sum : 0 + length all ≡ at = omega (arith, h.0) in
    let more : AreNewFrom s.0 node limit seats 0 (all ++ t ∷ []) = new-push s.0 node limit seats 0 at all t h.2 sum new in
    (one, ap (λ (x : Stand). x.1) is ∙ ap (λ (v : View). without_next v) h.1, subst (λ (table : TableId). AreNewFrom table node limit seats 0 (all ++ t ∷ [])) (sym (ap (λ (x : Stand). x.0) is)) more)

pub given_all : (node : ℕ) (limit : Limit) (seats at : ℕ) (all : List Stand) (s : Stand) → Given node limit seats (seats - 1) at all s → at ≡ seats - 1 → 0 < seats → AreNew node limit seats (all ++ s ∷ [])
given_all node limit seats at all s h end some_seat =
    let len : length all ≡ at = h.0 in
    let sum : 0 + length all ≡ at = omega arith in
    let one : length (all ++ s ∷ []) ≡ seats = length-append all (s ∷ []) ∙ omega arith in
    let new : s ≡ (s.0, seated node limit seats at at []) = λ i. (s.0, (h.1 ∙ ap (λ (k : ℕ). seated node limit seats k at []) (sym end)) i) in
    (one, (s.0, new-push s.0 node limit seats 0 at all s h.2 sum new))
