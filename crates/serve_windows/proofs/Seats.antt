-- The seats of a run are at the limiter nodes of its policies, each with its node's limit.
-- For the law `limiters_grant_in_any_window`.
use Rattle.std.proofs.Common.{◌≡◌, ℕ, zero, suc, ◌+◌, ◌<◌, ◌≤◌, Bool, List, [], ◌∷◌, All, length, map, option_map, slice_get, Option, Some, refl, ap, subst, ◌∙◌, arith}
use Rattle.std.specs.Option.{unwrap_or}
use Rattle.std.proofs.lemmas.List.Elements.{All-head, All-weaker}
use Rattle.atomic_table.specs.Seated.{TableId}
use Rattle.otlp_types.specs.declared.arrival.Arrival.{Arrival}
use Rattle.policy_tree.specs.declared.limit.Limit.{Limit}
use Rattle.policy_tree.specs.declared.limiter_node.LimiterNode.{LimiterNode}
use Rattle.policy_eval.specs.Given.{Asked, asked_given}
use Rattle.policy_eval.specs.Amounts.{amount_at}
use Rattle.shared_budget.specs.declared.known.Asked.{Asked as Known}
use Rattle.shared_budget.specs.History.{askings, IsLegal}
use Rattle.shared_budget.specs.Seats.{Stand, StandsIn, AsksAt}
use Rattle.shared_budget.specs.Budget.{new_seat, AreNewSeats, NodeCell, cell_of, column, HaveOneHistoryEach}
use Rattle.shared_budget.proofs.AllNodes.{asking_keeps}
use Rattle.shard_worker.specs.Asking.{AskedInTurn, AskedBy}
use Rattle.journal_theory.specs.Journal.{Settings, Journal, Opening, due_now, policies_for, spans_since}
use Rattle.rate_windows.specs.Window.{granted_over, most_over}
use Rattle.rate_windows.proofs.Windows.{any-window-of-seats}
use Rattle.world_theory.specs.World.{settings_for}
use Rattle.span_weave.specs.Threads.{journal_of}
use Rattle.serve_windows.specs.Laws.{LimitersGrantInAnyWindow}

-- ---- an asking leaves a seat's cells

abbrev SameCells : (old new : List Stand) → Type 0
SameCells old new = map cell_of new ≡ map cell_of old

asked_keep : (second : ℕ) (amounts : ℕ → ℕ) (nodes : List ℕ) (answers : List Bool) (old new : List Stand) → Asked AsksAt second amounts nodes answers old new → SameCells old new
asked_keep second amounts [] [] old new h = ap (map cell_of) h
asked_keep second amounts [] (a ∷ answers) old new h = absurd h
asked_keep second amounts (n ∷ nodes) [] old new h = absurd h
asked_keep second amounts (n ∷ nodes) (a ∷ answers) old new h = asked_keep second amounts nodes answers h.0 new h.2 ∙ (asking_keeps old h.0 n second (amounts n) a h.1).0

turns_keep : (s : Settings) (second : ℕ) (spans_of : Opening → List Arrival) (os : List Opening) (answers : List (List Bool)) (old new : List Stand) → AskedInTurn AsksAt s second spans_of os answers old new → SameCells old new
turns_keep s second spans_of os [] old new h = ap (map cell_of) h
turns_keep s second spans_of [] (a ∷ later) old new h = absurd h
turns_keep s second spans_of (o ∷ rest) (a ∷ later) old new h =
    turns_keep s second spans_of rest later h.0 new h.2 ∙ asked_keep second (amount_at (policies_for s (spans_of o)) (spans_of o)) (asked_given (policies_for s (spans_of o)) a (spans_of o)) a old h.0 h.1

journal_keeps : (s : Settings) (past : Journal) (old new : List Stand) → AskedBy AsksAt s past old new → SameCells old new
journal_keeps s [] old new h = ap (map cell_of) h
journal_keeps s (e ∷ before) old new h = turns_keep s _ (spans_since (e ∷ before)) (due_now s (e ∷ before)) e.answers h.0 new h.2 ∙ journal_keeps s before old h.0 h.1

-- ---- a seat at a node

-- a new seat is at the node, with its limit
new_at : (tables : List TableId) (nodes : List LimiterNode) (seats number place : ℕ) (l : LimiterNode) → length tables ≡ length nodes → slice_get nodes place ≡ Some l
    → (s : Stand) × (slice_get (new_seat tables nodes seats number) place ≡ Some s) × (s.1.node ≡ l.node) × (s.1.limit ≡ l.limit)
new_at [] [] seats number place l e at = absurd (cc at)
new_at [] (n ∷ nodes) seats number place l e at = absurd (omega (arith, e))
new_at (t ∷ tables) [] seats number place l e at = absurd (cc at)
new_at (t ∷ tables) (n ∷ nodes) seats number zero l e at = let same : n ≡ l = cc at in (_, refl, ap (λ (x : LimiterNode). x.node) same, ap (λ (x : LimiterNode). x.limit) same)
new_at (t ∷ tables) (n ∷ nodes) seats number (suc place) l e at = new_at tables nodes seats number place l (omega (arith, e)) at

-- and so is one with its cells
same_at : (old new : List Stand) (place : ℕ) (s : Stand) → SameCells old new → slice_get old place ≡ Some s → (u : Stand) × (slice_get new place ≡ Some u) × (cell_of u ≡ cell_of s)
same_at [] new place s e at = absurd (cc at)
same_at (x ∷ old) [] place s e at = absurd (omega (arith, ap (λ (cells : List NodeCell). length cells) e))
same_at (x ∷ old) (y ∷ new) zero s e at =
    let first : cell_of y ≡ cell_of x = cc e in
    let own : x ≡ s = cc at in (y, refl, first ∙ ap cell_of own)
same_at (x ∷ old) (y ∷ new) (suc place) s e at = let rest : map cell_of new ≡ map cell_of old = cc e in same_at old new place s rest at

-- ---- the law

-- what is to be shown of the seats at one place
abbrev GrantsAt : List (List Stand) → (place : ℕ) → LimiterNode → Type 0
GrantsAt last place l = (log : List Known) × IsLegal l.node l.limit log × All (StandsIn log) (column place last) × ((first seconds : ℕ) → granted_over first seconds (askings log) ≤ most_over seconds l.limit)

grants_at : (nodes : List LimiterNode) (shards : ℕ) (s : Settings) (past : ℕ → Journal) (first last : List (List Stand)) → AreNewSeats nodes shards first → length last ≡ shards → 0 < shards
    → ((shard : ℕ) (seat new : List Stand) → slice_get first shard ≡ Some seat → slice_get last shard ≡ Some new → AskedBy AsksAt s (past shard) seat new)
    → HaveOneHistoryEach last → (place : ℕ) (l : LimiterNode) → slice_get nodes place ≡ Some l → GrantsAt last place l
grants_at nodes shards s past [] last new long some asked one place l at = absurd (omega (arith, new.0))
grants_at nodes shards s past (f ∷ first) [] new long some asked one place l at = absurd (omega (arith, long))
grants_at nodes shards s past (f ∷ first) (g ∷ last) new long some asked one place l at =
    let tables = new.1 in
    let begun = new_at new.1.0 nodes shards 0 place l new.1.1 at in
    let stood : slice_get f place ≡ Some begun.0 = ap (λ (seat : List Stand). slice_get seat place) new.1.2.0 ∙ begun.1 in
    let left = same_at f g place begun.0 (journal_keeps s (past 0) f g (asked 0 f g refl refl)) stood in
    let limit : left.0.1.limit ≡ l.limit = ap (λ (cell : NodeCell). cell.2) left.2 ∙ begun.3 in
    let node : left.0.1.node ≡ l.node = ap (λ (cell : NodeCell). cell.1) left.2 ∙ begun.2 in
    let w = any-window-of-seats (g ∷ last) one place in
    let here : column place (g ∷ last) ≡ left.0 ∷ column place last = ap (λ (o : Option Stand). unwrap_or (option_map (λ (x : Stand). x ∷ column place last) o) (column place last)) left.1 in
    let P : Stand → Type 0 = λ x. IsLegal x.1.node x.1.limit w.0 × StandsIn w.0 x × ((first seconds : ℕ) → granted_over first seconds (askings w.0) ≤ most_over seconds x.1.limit) in
    let own = All-head P left.0 (column place last) (subst (All P) here w.1) in
    (w.0, subst (λ (y : ℕ × Limit). IsLegal y.0 y.1 w.0) (λ i. (node i, limit i)) own.0, All-weaker P (StandsIn w.0) (λ x h. h.1) (column place (g ∷ last)) w.1, subst (λ (m : Limit). (first seconds : ℕ) → granted_over first seconds (askings w.0) ≤ most_over seconds m) limit own.2)

pub limiters_grant : LimitersGrantInAnyWindow
limiters_grant c nodes lanes shards t some h place l at = grants_at nodes shards (settings_for c (lanes + 1)) (journal_of t) h.first h.last h.new_seats h.seats some h.asked h.one_history place l at
