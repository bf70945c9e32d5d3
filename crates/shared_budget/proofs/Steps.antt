-- Each step of a node's cell keeps its rule.
-- For the contracts of `NodeSeat`, and of what makes, gives and unites the seats of a node.
use Rattle.std.proofs.Common.{◌≡◌, ◌≢◌, ◌⊎◌, inl, inr, ⊎_elim, ℕ, zero, suc, ◌+◌, ◌<◌, ◌≤◌, ◌==◌, Bool, true, false, true≢false, List, [], ◌∷◌, ◌++◌, All, cond, length, set, sym, refl, ap, ◌∙◌, subst, eq-eqb, ne_eqb, arith}
use Rattle.std.specs.Prelude.{nat_eq, MatchBool, if◌then◌else◌}
use Rattle.std.proofs.lemmas.List.Elements.{All-nil, All-cons, All-append, All-weaker}
use mathlib.Core.Option.{some, some-ne-none, some-injective}
use lib.ListN.{get_elem?}
use lib.Pointwise.{pointwise, bytes_decides}
use Rattle.crossbeam_utils.specs.Register.{Turns, Forks, Merges}
use Rattle.atomic_table.proofs.Lists.{at_set}
use Rattle.policy_tree.specs.declared.limit.Limit.{Limit}
use Rattle.policy_tree.specs.declared.limit.Limit.TheVariants.{Spans, Bytes}
use Rattle.rate_budget.specs.Grant.{grants}
use Rattle.shared_budget.specs.declared.known.Asked.{Asked}
use Rattle.shared_budget.specs.declared.known.HistoryPart.{HistoryPart}
use Rattle.shared_budget.specs.declared.known.View.{View}
use Rattle.shared_budget.specs.History.{askings, IsLegal, of_seat, AreOfSeats, HasPart}
use Rattle.shared_budget.specs.Rule.{words_of, next_words, answer, own, Knows, KeepsRule, newcomer, spent, seated, IsSeat, without_next, next_seat, with_parts, asked, Asks, Looks, Loads, Exchanges, Compares}
use Rattle.shared_budget.proofs.Histories.{legal_after, words_after}

-- ---- lists of views

abbrev Every : (ℕ → View → Type 0) → List View → Type 0
Every F views = (port : ℕ) (v : View) → get_elem? views port ≡ some v → F port v

every_set : (F : ℕ → View → Type 0) (views : List View) (port : ℕ) (w : View) → F port w → ((j : ℕ) (u : View) → j ≢ port → get_elem? views j ≡ some u → F j u) → Every F (set views port w)
every_set F views port w mine others j u e = ⊎_elim (λ (x : (j ≡ port) × (w ≡ u)). subst (λ (y : ℕ × View). F y.0 y.1) (λ i. (sym x.0 i, x.1 i)) mine)
    (λ (x : (j ≢ port) × (get_elem? views j ≡ some u)). others j u x.0 x.1) (at_set views port j w u e)

at_end : (l : List View) (a b : View) (j : ℕ) → get_elem? (l ++ a ∷ []) j ≡ some b → ((j < length l) × (get_elem? l j ≡ some b)) ⊎ ((j ≡ length l) × (a ≡ b))
at_end [] a b zero e = inr (refl, some-injective a b e)
at_end [] a b (suc j) e = absurd (some-ne-none b (sym e))
at_end (x ∷ xs) a b zero e = inl (omega arith, e)
at_end (x ∷ xs) a b (suc j) e = ⊎_elim (λ h. inl (omega (arith, h.0), h.1)) (λ h. inr (ap suc h.0, h.1)) (at_end xs a b j e)

every_end : (F : ℕ → View → Type 0) (views : List View) (w : View) → F (length views) w → ((j : ℕ) (u : View) → j < length views → get_elem? views j ≡ some u → F j u) → Every F (views ++ w ∷ [])
every_end F views w mine others j u e = ⊎_elim (λ (x : (j < length views) × (get_elem? views j ≡ some u)). others j u x.0 x.1)
    (λ (x : (j ≡ length views) × (w ≡ u)). subst (λ (y : ℕ × View). F y.0 y.1) (λ i. (sym x.0 i, x.1 i)) mine) (at_end views w u j e)

-- what the rule says of a live pass
abbrev Live : (ℕ → ℕ) → (n : ℕ) → (l : Limit) → (s : ℕ) → List Asked → ℕ → View → Type 0
Live owner n l s log port v = v.live ≡ true → Knows owner n l s log port v

-- what the rule says of a cell of which no pass is fresh
abbrev NotFresh : ℕ → View → Type 0
NotFresh port v = v.fresh ≢ true

no_fresh : (x : List ℕ) (views : List View) (owner : ℕ → ℕ) (n : ℕ) (l : Limit) (s : ℕ) (log : List Asked) → IsLegal n l log → AreOfSeats s log → x ≡ words_of l log → Every NotFresh views → Every (Live owner n l s log) views → KeepsRule x views
no_fresh x views owner n l s log legal within is none knows = record {
  owner = owner;
  n = n;
  l = l;
  s = s;
  log = log;
  legal = legal;
  within = within;
  is = is;
  fresh = λ j u e f. absurd (none j u e f);
  knows = knows;
}

-- beside a live pass none is fresh
stale : (x : List ℕ) (views : List View) (port : ℕ) (v : View) → v.live ≡ true → KeepsRule x views → get_elem? views port ≡ some v → (j : ℕ) (u : View) → get_elem? views j ≡ some u → u.fresh ≢ true
stale x views port v live h at j u e f = true≢false (sym live ∙ ((h.fresh j u e f).1 port v at).0)

-- nor where that pass becomes another one
stale_but : (x : List ℕ) (views : List View) (port : ℕ) (v w : View) → v.live ≡ true → KeepsRule x views → get_elem? views port ≡ some v → w.fresh ≢ true → Every NotFresh (set views port w)
stale_but x views port v w live h at not = every_set NotFresh views port w not (λ j u other e. stale x views port v live h at j u e)

-- ---- looking

-- the seat has seen the history so far
abbrev seen_all : View → List Asked → View
seen_all v log = record v { seen = log }

looks_knows : (owner : ℕ → ℕ) (n : ℕ) (l : Limit) (s : ℕ) (log : List Asked) (port : ℕ) (v : View) → Knows owner n l s log port v → Knows owner n l s log port (seen_all v log)
looks_knows owner n l s log port v k = record { of = k.of; below = k.below; owns = k.owns; part = (([], refl), k.part.1); taken = k.taken; rest = k.rest }

pub looks : (x : List ℕ) (views : List View) (port : ℕ) (v : View) → v.live ≡ true → KeepsRule x views → get_elem? views port ≡ some v → (w : View) × KeepsRule x (set views port w) × Looks v w
looks x views port v live h at =
    let k = h.knows port v at live in
    let w : View = seen_all v h.log in (
      w,
      no_fresh x (set views port w) h.owner h.n h.l h.s h.log h.legal h.within h.is (stale_but x views port v w live h at (stale x views port v live h at port v at))
          (every_set (Live h.owner h.n h.l h.s h.log) views port w (λ _. looks_knows h.owner h.n h.l h.s h.log port v k) (λ j u other e. h.knows j u e)),
      (k.part.0.0, ap (λ (log : List Asked). seen_all v log) k.part.0.1),
    )

-- ---- asking

-- another seat's part stays its part
part_stays : (e : Asked) (log : List Asked) (p : HistoryPart) → e.seat ≢ p.seat → HasPart log p → HasPart (e ∷ log) p
part_stays e log p apart h = ((e ∷ h.0.0, ap (λ (l : List Asked). e ∷ l) h.0.1), ap (λ b. cond b (e ∷ of_seat p.seat log) (of_seat p.seat log)) (ne_eqb e.seat p.seat apart) ∙ h.1)

others_know : (owner : ℕ → ℕ) (n : ℕ) (l : Limit) (s : ℕ) (log : List Asked) (port : ℕ) (e : Asked) → owner e.seat ≡ port → (j : ℕ) (u : View) → j ≢ port → Knows owner n l s log j u → Knows owner n l s (e ∷ log) j u
others_know owner n l s log port e mine j u other k = record {
  of = k.of;
  below = k.below;
  owns = k.owns;
  part = part_stays e log (own u) (apart u.seat k.owns) k.part;
  taken = All-weaker (λ (p : HistoryPart). (owner p.seat ≡ j) × HasPart log p) (λ (p : HistoryPart). (owner p.seat ≡ j) × HasPart (e ∷ log) p) (λ p h. (h.0, part_stays e log p (apart p.seat h.0) h.1)) u.others k.taken;
  rest = λ i low high. let r = k.rest i low high in (r.0, ap (λ b. cond b (e ∷ of_seat i log) (of_seat i log)) (ne_eqb e.seat i (apart i r.0)) ∙ r.1);
} where
  apart : (i : ℕ) → owner i ≡ j → e.seat ≢ i
  apart i is same = other (sym is ∙ ap owner (sym same) ∙ mine)

asks_knows : (owner : ℕ → ℕ) (n : ℕ) (l : Limit) (s : ℕ) (log : List Asked) (port : ℕ) (v : View) (second amount : ℕ) (g : Bool) → IsSeat v → Knows owner n l s log port v
    → Knows owner n l s (asked v second amount g ∷ log) port (record v { seen = asked v second amount g ∷ log; mine = asked v second amount g ∷ v.mine })
asks_knows owner n l s log port v second amount g seat k =
    let e = asked v second amount g in
    record {
      of = k.of;
      below = k.below;
      owns = k.owns;
      part = (([], refl), ap (λ b. cond b (e ∷ of_seat v.seat log) (of_seat v.seat log)) (eq-eqb v.seat v.seat refl) ∙ ap (λ (own : List Asked). e ∷ own) k.part.1);
      taken = subst (λ (ps : List HistoryPart). All (λ (p : HistoryPart). (owner p.seat ≡ port) × HasPart (e ∷ log) p) ps) (sym seat.1) (All-nil (λ (p : HistoryPart). (owner p.seat ≡ port) × HasPart (e ∷ log) p));
      rest = λ i low high. let r = k.rest i low high in let under : i < v.seat = high in let apart : v.seat ≢ i = (λ same. omega arith) in
          (r.0, ap (λ b. cond b (e ∷ of_seat i log) (of_seat i log)) (ne_eqb v.seat i apart) ∙ r.1);
    }

-- a step that adds an asking to the history
pub asks : (second amount : ℕ) (x : List ℕ) (views : List View) (port : ℕ) (v : View) → IsSeat v → KeepsRule x views → get_elem? views port ≡ some v
    → (w : View) × KeepsRule (next_words second amount v x) (set views port w) × Asks second amount v (answer second amount v x) w
asks second amount x views port v seat h at =
    let k = h.knows port v at seat.0 in
    let e : Asked = asked v second amount (answer second amount v x) in
    let w : View = record v { seen = e ∷ h.log; mine = e ∷ v.mine } in
    let k' : Knows h.owner h.n h.l h.s (e ∷ h.log) port w = asks_knows h.owner h.n h.l h.s h.log port v second amount (answer second amount v x) seat k in
    let is : x ≡ words_of v.limit h.log = h.is ∙ ap (λ m. words_of m h.log) (sym k.of.of_limit) in
    let grant = legal_after second amount v h.log x is in
    let legal : IsLegal h.n h.l (e ∷ h.log) = (k.of.of_node, subst (λ m. answer second amount v x ≡ grants m (askings h.log) second amount) k.of.of_limit grant, h.legal) in (
      w,
      no_fresh (next_words second amount v x) (set views port w) h.owner h.n h.l h.s (e ∷ h.log) legal (k.below, h.within) (words_after second amount v h.log x is ∙ ap (λ m. words_of m (e ∷ h.log)) k.of.of_limit) (stale_but x views port v w seat.0 h at (stale x views port v seat.0 h at port v at))
          (every_set (Live h.owner h.n h.l h.s (e ∷ h.log)) views port w (λ _. k') (λ j u other e' live. others_know h.owner h.n h.l h.s h.log port e k.owns j u other (h.knows j u e' live))),
      (
        k.part.0.0,
        ap (λ (log : List Asked). record v { seen = e ∷ log; mine = e ∷ v.mine }) k.part.0.1,
        subst (λ (y : ℕ × Limit). IsLegal y.0 y.1 (e ∷ h.log)) (λ i. (sym k.of.of_node i, sym k.of.of_limit i)) legal,
        k'.part.1,
      ),
    )

-- ---- loads and exchanges

loads_at : (second amount port : ℕ) (v : View) (x : List ℕ) (views : List View) → IsSeat v → KeepsRule x views → get_elem? views port ≡ some v → (b : Bool) → pointwise nat_eq (next_words second amount v x) x ≡ b
    → (w : View) × KeepsRule x (set views port w) × MatchBool b (Asks second amount v (answer second amount v x) w) (Looks v w)
loads_at second amount port v x views seat h at true e =
    let a = asks second amount x views port v seat h at in
    (a.0, subst (λ y. KeepsRule y (set views port a.0)) ((bytes_decides (next_words second amount v x) x).0 e) a.1, a.2)
loads_at second amount port v x views seat h at false e = looks x views port v seat.0 h at

pub loads : (second amount port : ℕ) (v : View) → IsSeat v → Turns KeepsRule port v (λ x. x) (Loads second amount)
loads second amount port v seat x views h at = loads_at second amount port v x views seat h at (pointwise nat_eq (next_words second amount v x) x) refl

exchanges_at : (second amount port : ℕ) (v : View) (seen new x : List ℕ) (views : List View) → IsSeat v → new ≡ next_words second amount v seen → new ≢ seen → KeepsRule x views → get_elem? views port ≡ some v
    → (b : Bool) → pointwise nat_eq x seen ≡ b → (w : View) × KeepsRule (cond b new x) (set views port w) × Exchanges second amount v x (cond b new x) w
exchanges_at second amount port v seen new x views seat is changes h at true e =
    let found : x ≡ seen = (bytes_decides x seen).0 e in
    let a = asks second amount x views port v seat h at in
    let now : next_words second amount v x ≡ new = ap (next_words second amount v) found ∙ sym is in
    let apart : pointwise nat_eq new x ≡ false = differs (pointwise nat_eq new x) refl in
    (a.0, subst (λ y. KeepsRule y (set views port a.0)) now a.1, subst (λ b. MatchBool b (Looks v a.0) (Asks second amount v (answer second amount v x) a.0)) (sym apart) a.2) where
      differs : (b : Bool) → pointwise nat_eq new x ≡ b → pointwise nat_eq new x ≡ false
      differs true t = absurd (changes ((bytes_decides new x).0 t ∙ (bytes_decides x seen).0 e))
      differs false t = t
exchanges_at second amount port v seen new x views seat is changes h at false e =
    let l = looks x views port v seat.0 h at in
    (l.0, l.1, subst (λ b. MatchBool b (Looks v l.0) (Asks second amount v (answer second amount v x) l.0)) (sym ((bytes_decides x x).1 refl)) l.2)

pub exchanges : (second amount port : ℕ) (v : View) (seen new : List ℕ) → IsSeat v → new ≡ next_words second amount v seen → new ≢ seen → Turns KeepsRule port v (λ x. if pointwise nat_eq x seen then new else x) (Exchanges second amount)
exchanges second amount port v seen new seat is changes x views h at = exchanges_at second amount port v seen new x views seat is changes h at (pointwise nat_eq x seen) refl

-- the history has every part
pub compares : (port : ℕ) (v : View) → v.live ≡ true → Turns KeepsRule port v (λ x. x) Compares
compares port v live x views h at =
    let k = h.knows port v at live in (
      v,
      no_fresh x (set views port v) h.owner h.n h.l h.s h.log h.legal h.within h.is (stale_but x views port v v live h at (stale x views port v live h at port v at))
          (every_set (Live h.owner h.n h.l h.s h.log) views port v (λ _. k) (λ j u other e. h.knows j u e)),
      (
        refl,
        (
          h.log,
          (
            subst (λ (y : ℕ × Limit). IsLegal y.0 y.1 h.log) (λ i. (sym k.of.of_node i, sym k.of.of_limit i)) h.legal,
            subst (λ m. AreOfSeats m h.log) (sym k.of.of_seats) h.within,
            k.part,
            All-weaker (λ (p : HistoryPart). (h.owner p.seat ≡ port) × HasPart h.log p) (HasPart h.log) (λ p t. t.1) v.others k.taken,
          ),
        ),
      ),
    )

-- where nothing was asked the words are the same whatever the limit
words_none : (l m : Limit) → words_of l [] ≡ words_of m []
words_none (Spans a) (Spans b) = refl
words_none (Spans a) (Bytes r b) = refl
words_none (Bytes r a) (Spans b) = refl
words_none (Bytes r a) (Bytes t b) = refl

-- ---- opening, giving, leaving and uniting

pub begins : KeepsRule (0 ∷ 0 ∷ []) (newcomer ∷ [])
begins = record {
  owner = λ k. 0;
  n = 0;
  l = Spans 0;
  s = 0;
  log = [];
  legal = tt;
  within = tt;
  is = refl;
  fresh = λ port v e f. (refl, λ j u e'. (ap (λ (y : View). y.live) (sym (only j u e')), λ f'. first j u e' ∙ sym (first port v e)));
  knows = λ port v e live. absurd (true≢false (sym live ∙ ap (λ (y : View). y.live) (sym (only port v e))));
} where
  only : (j : ℕ) (u : View) → get_elem? (newcomer ∷ []) j ≡ some u → newcomer ≡ u
  only zero u e = some-injective newcomer u e
  only (suc j) u e = absurd (some-ne-none u (sym e))

  first : (j : ℕ) (u : View) → get_elem? (newcomer ∷ []) j ≡ some u → j ≡ 0
  first zero u e = refl
  first (suc j) u e = absurd (some-ne-none u (sym e))

not_live : (v : View) → v.live ≡ false → v.live ≢ true
not_live v e t = true≢false (sym t ∙ e)

pub opens : (node : ℕ) (limit : Limit) (last port : ℕ) (v : View) → v ≡ newcomer → Forks KeepsRule port v (seated node limit (last + 1) last 0 []) spent
opens node limit last port v is x views h at =
    let f = h.fresh port v at (ap (λ (y : View). y.fresh) is) in
    let seats : ℕ = last + 1 in
    let l : View = seated node limit seats last 0 [] in
    let vs : List View = set views port l in
    let K : ℕ → View → Type 0 = Live (λ k. port) node limit seats [] in
    let mine : Knows (λ k. port) node limit seats [] port l = record { of = record { of_node = refl; of_limit = refl; of_seats = refl }; below = omega arith; owns = refl; part = (([], refl), refl); taken = All-nil (λ (p : HistoryPart). (port ≡ port) × HasPart [] p); rest = λ k low high. (refl, refl) } in
    no_fresh x (vs ++ spent ∷ []) (λ k. port) node limit seats [] tt tt (h.is ∙ ap (words_of h.l) f.0 ∙ words_none h.l limit) none
    (every_end K vs spent (λ live. absurd (true≢false (sym live))) (λ j u lt e. every_set K views port l (λ _. mine) (λ i t other e' live. absurd (not_live t (f.1 i t e').0 live)) j u e)) where
      none : Every NotFresh (set views port (seated node limit (last + 1) last 0 []) ++ spent ∷ [])
      none = every_end NotFresh (set views port (seated node limit (last + 1) last 0 [])) spent (λ t. true≢false (sym t))
          (λ j u lt e. every_set NotFresh views port (seated node limit (last + 1) last 0 []) (λ t. true≢false (sym t)) (λ i t other e' t'. other (((h.fresh port v at (ap (λ (y : View). y.fresh) is)).1 i t e').1 t')) j u e)

-- a seat that goes to another pass
abbrev given_to : (owner : ℕ → ℕ) (from new k : ℕ) → ℕ
given_to owner from new k = cond (k == from) new (owner k)

-- all seats of a pass that go to another
abbrev moved_to : (owner : ℕ → ℕ) (from new k : ℕ) → ℕ
moved_to owner from new k = cond (owner k == from) new (owner k)

moved : (owner : ℕ → ℕ) (from new k : ℕ) → owner k ≡ from → moved_to owner from new k ≡ new
moved owner from new k is = ap (λ b. cond b new (owner k)) (eq-eqb (owner k) from is)

unmoved : (owner : ℕ → ℕ) (from new k j : ℕ) → j ≢ from → owner k ≡ j → moved_to owner from new k ≡ j
unmoved owner from new k j other is = ap (λ b. cond b new (owner k)) (ne_eqb (owner k) from (λ x. other (sym is ∙ x))) ∙ is

-- the pass is known as another one
known_as : (owner owner' : ℕ → ℕ) (n : ℕ) (l : Limit) (s : ℕ) (log : List Asked) (j j' : ℕ) (u : View) → ((i : ℕ) → owner i ≡ j → owner' i ≡ j') → Knows owner n l s log j u → Knows owner' n l s log j' u
known_as owner owner' n l s log j j' u to k = record {
  of = k.of;
  below = k.below;
  owns = to u.seat k.owns;
  part = k.part;
  taken = All-weaker (λ (p : HistoryPart). (owner p.seat ≡ j) × HasPart log p) (λ (p : HistoryPart). (owner' p.seat ≡ j') × HasPart log p) (λ p h. (to p.seat h.0, h.1)) u.others k.taken;
  rest = λ i low high. let r = k.rest i low high in (to i r.0, r.1);
}

-- a seat without a part taken in
gives_left : (owner : ℕ → ℕ) (n : ℕ) (l : Limit) (s : ℕ) (log : List Asked) (port new : ℕ) (v : View) → IsSeat v → v.next < v.seat → Knows owner n l s log port v → Knows (given_to owner v.next new) n l s log port (without_next v)
gives_left owner n l s log port new v seat lt k = record {
  of = k.of;
  below = k.below;
  owns = stays v.seat (λ same. omega arith) k.owns;
  part = k.part;
  taken = subst (λ (ps : List HistoryPart). All (λ (p : HistoryPart). (given_to owner v.next new p.seat ≡ port) × HasPart log p) ps) (sym seat.1) (All-nil (λ (p : HistoryPart). (given_to owner v.next new p.seat ≡ port) × HasPart log p));
  rest = λ i low high. let above : v.next + 1 ≤ i = low in let r = k.rest i (omega arith) high in (stays i (λ same. omega arith) r.0, r.1);
} where
  stays : (i : ℕ) → i ≢ v.next → owner i ≡ port → given_to owner v.next new i ≡ port
  stays i other is = ap (λ b. cond b new (owner i)) (ne_eqb i v.next other) ∙ is

gives_right : (owner : ℕ → ℕ) (n : ℕ) (l : Limit) (s : ℕ) (log : List Asked) (port new : ℕ) (v : View) → v.next < v.seat → Knows owner n l s log port v → Knows (given_to owner v.next new) n l s log new (next_seat v)
gives_right owner n l s log port new v lt k =
    let below : v.seat < s = k.below in
    let r = k.rest v.next (omega arith) lt in
    record {
      of = k.of;
      below = omega arith;
      owns = ap (λ b. cond b new (owner v.next)) (eq-eqb v.next v.next refl);
      part = (k.part.0, r.1);
      taken = All-nil (λ (p : HistoryPart). (given_to owner v.next new p.seat ≡ new) × HasPart log p);
      rest = λ i low above. absurd (let a : v.next ≤ i = low in let b : i < v.next = above in omega arith);
    }

pub gives : (port : ℕ) (v : View) → IsSeat v → v.next < v.seat → Forks KeepsRule port v (without_next v) (next_seat v)
gives port v seat lt x views h at =
    let l : View = without_next v in
    let vs : List View = set views port l in
    let new : ℕ = length vs in
    let k = h.knows port v at seat.0 in
    let mine : h.owner v.next ≡ port = (k.rest v.next (omega arith) lt).0 in
    let owner' = given_to h.owner v.next new in
    let K : ℕ → View → Type 0 = Live owner' h.n h.l h.s h.log in
    let others : (j : ℕ) (u : View) → j ≢ port → get_elem? views j ≡ some u → K j u =
    (λ j u other e live. known_as h.owner owner' h.n h.l h.s h.log j j u (λ i is. ap (λ b. cond b new (h.owner i)) (ne_eqb i v.next (λ x. other (sym is ∙ ap h.owner x ∙ mine))) ∙ is) (h.knows j u e live)) in
    let none : Every NotFresh (vs ++ next_seat v ∷ []) = every_end NotFresh vs (next_seat v) (λ t. true≢false (sym t)) (λ j u _ e. stale_but x views port v l seat.0 h at (stale x views port v seat.0 h at port v at) j u e) in
    no_fresh x (vs ++ next_seat v ∷ []) owner' h.n h.l h.s h.log h.legal h.within h.is none
    (every_end K vs (next_seat v) (λ _. gives_right h.owner h.n h.l h.s h.log port new v lt k)
    (λ j u _ e. every_set K views port l (λ _. gives_left h.owner h.n h.l h.s h.log port new v seat lt k) others j u e))

pub leaves : (port : ℕ) (v : View) → v.live ≡ true → Forks KeepsRule port v spent v
leaves port v live x views h at =
    let vs : List View = set views port spent in
    let new : ℕ = length vs in
    let k = h.knows port v at live in
    let owner' = moved_to h.owner port new in
    let K : ℕ → View → Type 0 = Live owner' h.n h.l h.s h.log in
    let none : Every NotFresh (vs ++ v ∷ []) = every_end NotFresh vs v (stale x views port v live h at port v at) (λ j u _ e. stale_but x views port v spent live h at (λ t. true≢false (sym t)) j u e) in
    no_fresh x (vs ++ v ∷ []) owner' h.n h.l h.s h.log h.legal h.within h.is none
    (every_end K vs v (λ _. known_as h.owner owner' h.n h.l h.s h.log port new v (λ i is. moved h.owner port new i is) k)
    (λ j u _ e. every_set K views port spent (λ t. absurd (true≢false (sym t))) (λ i t other e' live'. known_as h.owner owner' h.n h.l h.s h.log i i t (λ m is. unmoved h.owner port new m i other is) (h.knows i t e' live')) j u e))

unites : (owner : ℕ → ℕ) (n : ℕ) (l : Limit) (s : ℕ) (log : List Asked) (port other : ℕ) (v w : View) → port ≢ other → Knows owner n l s log port v → Knows owner n l s log other w → Knows (moved_to owner other port) n l s log port (with_parts v w)
unites owner n l s log port other v w apart k m =
    let owner' = moved_to owner other port in
    let a = known_as owner owner' n l s log port port v (λ i is. unmoved owner other port i port apart is) k in
    let b = known_as owner owner' n l s log other port w (λ i is. moved owner other port i is) m in
    let P : HistoryPart → Type 0 = λ p. (owner' p.seat ≡ port) × HasPart log p in
    record {
      of = a.of;
      below = a.below;
      owns = a.owns;
      part = a.part;
      taken = All-cons P (own w) (w.others ++ v.others) (b.owns, b.part) (All-append P w.others v.others b.taken a.taken);
      rest = a.rest;
    }

pub merges : (port : ℕ) (v : View) (other : ℕ) (w : View) → v.live ≡ true → w.live ≡ true → Merges KeepsRule port v other w (with_parts v w) spent
merges port v other w live live' x views h at two at' =
    let both : View = with_parts v w in
    let vs : List View = set views port both in
    let was : get_elem? views other ≡ some w = ⊎_elim (λ x. absurd (two x.0)) (λ x. x.1) (at_set views port other both w at') in
    let apart : port ≢ other = (λ e. two (sym e)) in
    let owner' = moved_to h.owner other port in
    let K : ℕ → View → Type 0 = Live owner' h.n h.l h.s h.log in
    let Now : ℕ → View → Type 0 = λ j u. j ≢ other → K j u in
    let now : Every Now vs = every_set Now views port both (λ _ _. unites h.owner h.n h.l h.s h.log port other v w apart (h.knows port v at live) (h.knows other w was live'))
    (λ j u _ e not_other l. known_as h.owner owner' h.n h.l h.s h.log j j u (λ i is. unmoved h.owner other port i j not_other is) (h.knows j u e l)) in
    let before : Every NotFresh vs = stale_but x views port v both live h at (stale x views port v live h at port v at) in
    let none : Every NotFresh (set vs other spent) = every_set NotFresh vs other spent (λ t. true≢false (sym t)) (λ i t o e'. before i t e') in
    no_fresh x (set vs other spent) owner' h.n h.l h.s h.log h.legal h.within h.is none
    (every_set K vs other spent (λ t. absurd (true≢false (sym t))) (λ j u o e. now j u e o))
