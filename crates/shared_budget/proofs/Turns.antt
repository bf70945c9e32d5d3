-- What one turn of an asking's loop tells, from what the seat knew at first.
-- For the contract of `NodeSeat::ask`.
use Rattle.std.proofs.Common.{◌≡◌, ◌≢◌, ℕ, ◌<◌, Bool, true, false, List, ◌∷◌, ◌++◌, sym, refl, ap, ◌∙◌, subst, append_assoc}
use Rattle.std.specs.Prelude.{nat_eq, MatchBool, if◌then◌else◌}
use lib.Pointwise.{pointwise, bytes_decides}
use Rattle.crossbeam_utils.specs.Register.{Turns}
use Rattle.policy_tree.specs.declared.limit.Limit.{Limit}
use Rattle.rate_budget.specs.Budget.{grants_of}
use Rattle.shared_budget.specs.declared.known.Asked.{Asked}
use Rattle.shared_budget.specs.declared.known.View.{View}
use Rattle.shared_budget.specs.Rule.{count_with, count_at, words_with, next_words, answer, KeepsRule, IsSeat, asked, Asks, Looks, Loads, Exchanges}
use Rattle.shared_budget.proofs.Histories.{refused}
use Rattle.shared_budget.proofs.Steps.{exchanges}

-- ---- what a caller makes of it, with the question by two names

abbrev pub Same2 : (a b a' b' : ℕ) → Type 0
Same2 a b a' b' = (a ≡ a') × (b ≡ b')

pub looks_looks : (v w u : View) → Looks v w → Looks w u → Looks v u
looks_looks v w u a b = (b.0 ++ a.0, b.1 ∙ ap (λ (y : View). record y { seen = b.0 ++ y.seen }) a.1 ∙ ap (λ (l : List Asked). record v { seen = l }) (sym (append_assoc b.0 a.0 v.seen)))

pub looks_asks : (second amount : ℕ) (v w : View) (granted : Bool) (u : View) → Looks v w → Asks second amount w granted u → Asks second amount v granted u
looks_asks second amount v w granted u a b =
    let e = asked v second amount granted in (
      b.0 ++ a.0,
      b.1 ∙ ap (λ (y : View). record y { seen = asked y second amount granted ∷ b.0 ++ y.seen; mine = asked y second amount granted ∷ y.mine }) a.1
          ∙ ap (λ (l : List Asked). record v { seen = e ∷ l; mine = e ∷ v.mine }) (sym (append_assoc b.0 a.0 v.seen)),
      b.2,
      b.3,
    )

-- a look leaves what a seat is
pub looks_seat : (v w : View) → IsSeat v → Looks v w → IsSeat w
looks_seat v w seat l = subst IsSeat (sym l.1) seat

pub exchanges_by : (s n s' n' port : ℕ) (v : View) (seen new : List ℕ) → Same2 s n s' n' → IsSeat v → new ≡ next_words s n v seen → new ≢ seen → Turns KeepsRule port v (λ x. if pointwise nat_eq x seen then new else x) (Exchanges s' n')
exchanges_by s n s' n' port v seen new q seat is changes = exchanges s' n' port v seen new seat (is ∙ (λ i. next_words (q.0 i) (q.1 i) v seen)) changes

pub told_refused : (s n s' n' : ℕ) (v w : View) (x : List ℕ) → Same2 s n s' n' → 0 < n → next_words s n v x ≡ x → Loads s' n' v x x w → Asks s n v false w
told_refused s n s' n' v w x q pos same told =
    let same' : next_words s' n' v x ≡ x = (λ i. next_words (sym q.0 i) (sym q.1 i) v x) ∙ same in
    let a : Asks s' n' v (answer s' n' v x) w = subst (λ b. MatchBool b (Asks s' n' v (answer s' n' v x) w) (Looks v w)) ((bytes_decides (next_words s' n' v x) x).1 same') told in
    let b : Asks s n v (answer s n v x) w = subst (λ (y : ℕ × ℕ). Asks y.0 y.1 v (answer y.0 y.1 v x) w) (λ i. (sym q.0 i, sym q.1 i)) a in
    subst (λ g. Asks s n v g w) (refused s n v x pos same) b

is_false : (b : Bool) → (b ≡ true → ⊥) → b ≡ false
is_false true n = absurd (n refl)
is_false false n = refl

pub told_looks : (s n s' n' : ℕ) (v w : View) (x : List ℕ) → Same2 s n s' n' → next_words s n v x ≢ x → Loads s' n' v x x w → Looks v w
told_looks s n s' n' v w x q changes told =
    let e : pointwise nat_eq (next_words s' n' v x) x ≡ false = is_false (pointwise nat_eq (next_words s' n' v x) x) (λ t. changes ((λ i. next_words (q.0 i) (q.1 i) v x) ∙ (bytes_decides (next_words s' n' v x) x).0 t)) in
    subst (λ b. MatchBool b (Asks s' n' v (answer s' n' v x) w) (Looks v w)) e told

pub told_lost : (s n : ℕ) (v w : View) (x : List ℕ) → Exchanges s n v x x w → Looks v w
told_lost s n v w x told = subst (λ b. MatchBool b (Looks v w) (Asks s n v (answer s n v x) w)) ((bytes_decides x x).1 refl) told

pub told_won : (s n s' n' : ℕ) (v w : View) (x seen new : List ℕ) (granted : Bool) → Same2 s n s' n' → pointwise nat_eq x seen ≡ true → new ≢ seen → granted ≡ answer s n v seen → Exchanges s' n' v x new w → Asks s n v granted w
told_won s n s' n' v w x seen new granted q found changes says told =
    let same : x ≡ seen = (bytes_decides x seen).0 found in
    let apart : pointwise nat_eq new x ≡ false = is_false (pointwise nat_eq new x) (λ t. changes ((bytes_decides new x).0 t ∙ same)) in
    let a : Asks s' n' v (answer s' n' v x) w = subst (λ b. MatchBool b (Looks v w) (Asks s' n' v (answer s' n' v x) w)) apart told in
    let b : Asks s n v (answer s n v x) w = subst (λ (y : ℕ × ℕ). Asks y.0 y.1 v (answer y.0 y.1 v x) w) (λ i. (sym q.0 i, sym q.1 i)) a in
    subst (λ g. Asks s n v g w) (ap (answer s n v) same ∙ sym says) b

-- ---- the node and the limit that a seat holds are those that its pass knows

pub same_node : (v w : View) (node : ℕ) (limit : Limit) → (node ≡ v.node) × (limit ≡ v.limit) → Looks v w → (node ≡ w.node) × (limit ≡ w.limit)
same_node v w node limit h l = (h.0 ∙ ap (λ (y : View). y.node) (sym l.1), h.1 ∙ ap (λ (y : View). y.limit) (sym l.1))

as_view : (node : ℕ) (limit : Limit) (w : View) (x : List ℕ) → (node ≡ w.node) × (limit ≡ w.limit) → count_with node limit x ≡ count_at w x
as_view node limit w x h = λ i. count_with (h.0 i) (h.1 i) x

pub next_by : (node : ℕ) (limit : Limit) (second amount : ℕ) (w : View) (x new : List ℕ) → (node ≡ w.node) × (limit ≡ w.limit) → new ≡ words_with second amount (count_with node limit x) → new ≡ next_words second amount w x
next_by node limit second amount w x new h is = is ∙ ap (words_with second amount) (as_view node limit w x h)

pub answer_by : (node : ℕ) (limit : Limit) (second amount : ℕ) (w : View) (x : List ℕ) (granted : Bool) → (node ≡ w.node) × (limit ≡ w.limit) → granted ≡ grants_of second amount (count_with node limit x) → granted ≡ answer second amount w x
answer_by node limit second amount w x granted h is = is ∙ ap (grants_of second amount) (as_view node limit w x h)

-- ---- one turn of the loop, from what the seat knew at first

abbrev pub At : (node : ℕ) (limit : Limit) → View → Type 0
At node limit v = (node ≡ v.node) × (limit ≡ v.limit)

pub refused_by : (node : ℕ) (limit : Limit) (s n s' n' : ℕ) (v0 v w : View) (x : List ℕ) → At node limit v0 → Looks v0 v → Same2 s n s' n' → 0 < n → words_with s n (count_with node limit x) ≡ x → Loads s' n' v x x w → Asks s n v0 false w
refused_by node limit s n s' n' v0 v w x h l q pos same told =
    let m = same_node v0 v node limit h l in
    looks_asks s n v0 v false w l (told_refused s n s' n' v w x q pos (sym (next_by node limit s n v x x m (sym same))) told)

pub seen_by : (node : ℕ) (limit : Limit) (s n s' n' : ℕ) (v0 v w : View) (x new : List ℕ) → At node limit v0 → Looks v0 v → Same2 s n s' n' → new ≡ words_with s n (count_with node limit x) → new ≢ x → Loads s' n' v x x w → Looks v0 w
seen_by node limit s n s' n' v0 v w x new h l q is changes told =
    let m = same_node v0 v node limit h l in
    looks_looks v0 v w l (told_looks s n s' n' v w x q (λ e. changes (next_by node limit s n v x new m is ∙ e)) told)

pub exchange_by : (node : ℕ) (limit : Limit) (s n s' n' port : ℕ) (v0 w : View) (seen new : List ℕ) → At node limit v0 → IsSeat v0 → Looks v0 w → Same2 s n s' n' → new ≡ words_with s n (count_with node limit seen) → new ≢ seen → Turns KeepsRule port w (λ x. if pointwise nat_eq x seen then new else x) (Exchanges s' n')
exchange_by node limit s n s' n' port v0 w seen new h seat l q is changes = exchanges_by s n s' n' port w seen new q (looks_seat v0 w seat l) (next_by node limit s n w seen new (same_node v0 w node limit h l) is) changes

pub won_by : (node : ℕ) (limit : Limit) (s n s' n' : ℕ) (v0 w u : View) (x seen new : List ℕ) (granted : Bool) → At node limit v0 → Looks v0 w → Same2 s n s' n' → pointwise nat_eq x seen ≡ true → new ≢ seen → granted ≡ grants_of s n (count_with node limit seen) → Exchanges s' n' w x new u → Asks s n v0 granted u
won_by node limit s n s' n' v0 w u x seen new granted h l q found changes says told =
    looks_asks s n v0 w granted u l (told_won s n s' n' w u x seen new granted q found changes (answer_by node limit s n w seen granted (same_node v0 w node limit h l) says) told)
