-- The limiter goes on having the nodes of the shards' policies.
-- For the clauses `nodes` of the functions that decide.
use Rattle.std.proofs.Common.{◌≡◌, ℕ, Bool, true, List, [], ◌∷◌, refl, sym, ap, subst, ◌∙◌}
use Rattle.std.specs.List.{list_all}
use Rattle.std.proofs.lemmas.Bool.{and_parts}
use mathlib.Core.Path.{fun_ext}
use Rattle.policy_tree.specs.Tree.{limiters}
use Rattle.policy_tree.specs.Meaning.{meaning}
use Rattle.policy_eval.specs.Meaning.{knows}
use Rattle.policy_eval.specs.AskingLaws.{counts_know}
use Rattle.rate_budget.specs.Budget.{limiter_counts, has_node}
use Rattle.rate_budget.specs.BudgetLaws.{limits-of-counts}
use Rattle.journal_theory.specs.Journal.{Settings}
use Rattle.shard_core.specs.Held.{Held, settings}
use Rattle.script_session.specs.Pulling.{Counts, HaveSettings, has_nodes_of, has_all_nodes}

-- they have the same nodes
abbrev pub SameNodes : (old new : Counts) → Type 0
SameNodes old new = (node : ℕ) → has_node new node ≡ has_node old node

pub nodes-then : (a b c : Counts) → SameNodes a b → SameNodes b c → SameNodes a c
nodes-then a b c p q node = q node ∙ p node

-- of one shard
pub nodes-kept : (old new : Counts) (h k : Held) → SameNodes old new → settings k ≡ settings h → has_nodes_of old h ≡ true → has_nodes_of new k ≡ true
nodes-kept old new h k same is has =
    let nodes : has_node new ≡ has_node old = fun_ext (λ node. same node) in
    ap (λ (f : ℕ → Bool). knows f (limiters (settings k).policies)) nodes ∙ ap (λ (s : Settings). knows (has_node old) (limiters s.policies)) is ∙ has

-- of several
pub all-nodes-kept : (old new : Counts) (hs : List Held) → SameNodes old new → has_all_nodes old hs ≡ true → has_all_nodes new hs ≡ true
all-nodes-kept old new hs same has =
    let nodes : has_node new ≡ has_node old = fun_ext (λ node. same node) in
    ap (λ (f : ℕ → Bool). list_all (λ (h : Held). knows f (limiters (meaning h.policies))) hs) nodes ∙ has

pub first-nodes : (limiter : Counts) (h : Held) (hs : List Held) → has_all_nodes limiter (h ∷ hs) ≡ true → has_nodes_of limiter h ≡ true
first-nodes limiter h hs has = (and_parts (has_nodes_of limiter h) (has_all_nodes limiter hs) has).0

pub rest-nodes : (limiter : Counts) (h : Held) (hs : List Held) → has_all_nodes limiter (h ∷ hs) ≡ true → has_all_nodes limiter hs ≡ true
rest-nodes limiter h hs has = (and_parts (has_nodes_of limiter h) (has_all_nodes limiter hs) has).1

pub nodes-cons : (limiter : Counts) (h : Held) (hs : List Held) → has_nodes_of limiter h ≡ true → has_all_nodes limiter hs ≡ true → has_all_nodes limiter (h ∷ hs) ≡ true
nodes-cons limiter h hs one others = rw one others

-- of those that were lent
pub lent-nodes : (limiter : Counts) (hs lent : List Held) → lent ≡ hs → has_all_nodes limiter hs ≡ true → has_all_nodes limiter lent ≡ true
lent-nodes limiter hs lent is has = let P = λ (shards : List Held). has_all_nodes limiter shards ≡ true in subst P (sym is) has

-- of the first
pub first_has_nodes : (limiter : Counts) (h : Held) (hs all : List Held) → all ≡ h ∷ hs → has_all_nodes limiter all ≡ true → has_nodes_of limiter h ≡ true
first_has_nodes limiter h hs all is has = let P = λ (shards : List Held). has_all_nodes limiter shards ≡ true in first-nodes limiter h hs (subst P is has)

-- of all, once the first has decided, and then the others
pub all_have_nodes : (old mid new : Counts) (h k : Held) (hs ks all : List Held) → all ≡ h ∷ hs → has_all_nodes old all ≡ true → SameNodes old mid → SameNodes mid new → settings k ≡ settings h → has_all_nodes new ks ≡ true
    → has_all_nodes new (k ∷ ks) ≡ true
all_have_nodes old mid new h k hs ks all is has first others set later =
    nodes-cons new k ks (nodes-kept old new h k (nodes-then old mid new first others) set (first_has_nodes old h hs all is has)) later

-- the others, once the first has decided
pub others_have_nodes : (old new : Counts) (h : Held) (hs all : List Held) → all ≡ h ∷ hs → ((node : ℕ) → has_node new node ≡ has_node old node) → has_all_nodes old all ≡ true → has_all_nodes new hs ≡ true
others_have_nodes old new h hs all is same has =
    let P = λ (shards : List Held). has_all_nodes old shards ≡ true in
    all-nodes-kept old new hs same (rest-nodes old h hs (subst P is has))

-- a new limiter has them
pub nodes-new : (s : Settings) (limiter : Counts) (hs : List Held) → limiter ≡ limiter_counts s.policies [] → HaveSettings s hs → has_all_nodes limiter hs ≡ true
nodes-new s limiter [] is alike = refl
nodes-new s limiter (h ∷ hs) is alike =
    let own : knows (has_node (limiter_counts s.policies [])) (limiters s.policies) ≡ true = counts_know s.policies (limiter_counts s.policies []) (limits-of-counts (limiters s.policies) []) in
    let one : has_nodes_of limiter h ≡ true = ap (λ (counts : Counts). knows (has_node counts) (limiters (settings h).policies)) is ∙ ap (λ (x : Settings). knows (has_node (limiter_counts s.policies [])) (limiters x.policies)) alike.0 ∙ own in
    nodes-cons limiter h hs one (nodes-new s limiter hs is alike.1)
