-- The seats of all nodes, place by place.
-- For the contracts of `SharedBudget`, and of the laws of its seats.
use Rattle.std.proofs.Common.{◌≡◌, ℕ, zero, suc, ◌+◌, ◌<◌, ◌≤◌, List, [], ◌∷◌, ◌++◌, All, Some, None, Option, length, map, option_map, slice_get, slice_set, slice_index_or, sym, refl, ap, ◌∙◌, subst, arith, length-append, length-set}
use Rattle.std.specs.Option.{unwrap_or}
use Rattle.std.proofs.lemmas.Option.{slice_get-map, slice_get_read, slice_get_within, get_or_from_slice_get}
use Rattle.std.proofs.lemmas.List.Elements.{All-nil, All-cons, All-head, All-push, All-tail}
use Rattle.atomic_table.specs.Seated.{TableId}
use Rattle.policy_tree.specs.declared.limit.Limit.{Limit}
use Rattle.policy_tree.specs.declared.limiter_node.LimiterNode.{LimiterNode}
use Rattle.shared_budget.specs.declared.known.View.{View}
use Rattle.shared_budget.specs.Rule.{seated, IsSeat, with_parts}
use Rattle.shared_budget.specs.Seats.{Stand, AreNewFrom, AreNew, IsOf, HaveOneHistory}
use Rattle.shared_budget.specs.Budget.{new_seat, AreNewSeatsFrom, AreNewSeats, NodeCell, cell_of, seat_number, AreOfOneBudget, NewSeatsAreOfOne, AskingKeepsCells, SameCellsSuffice, column, HaveOneHistoryEach, EachStaysWithin}
use Rattle.shared_budget.specs.Columns.{with_column, united, IsCompared}
use Rattle.shared_budget.proofs.Reunion.{Uniting, uniting_init, uniting_step, uniting_end, all_front, all_last, within}

-- ---- one node more for each seat

pub with_none : (all : List (List Stand)) → with_column all [] ≡ all
with_none [] = refl
with_none (x ∷ all) = refl

-- the last one of the column goes to the seat behind the others'
pub with_last : (all : List (List Stand)) (column : List Stand) (s : Stand) (seat : List Stand) → slice_get all (length column) ≡ Some seat → with_column all (column ++ s ∷ []) ≡ with_column (slice_set all (length column) (seat ++ s ∷ [])) column
with_last [] column s seat e = refl
with_last (x ∷ all) [] s seat e =
    let same : x ≡ seat = ap (λ (o : Option (List Stand)). unwrap_or o x) e in
    let rest : with_column all [] ≡ all = with_none all in
    λ i. (same i ++ s ∷ []) ∷ rest i
with_last (x ∷ all) (c ∷ column) s seat e = ap (λ (xs : List (List Stand)). (x ++ c ∷ []) ∷ xs) (with_last all column s seat e)

new_seat_more : (tables : List TableId) (ls : List LimiterNode) (table : TableId) (l : LimiterNode) (seats number : ℕ) → length tables ≡ length ls → new_seat tables ls seats number ++ (table, seated l.node l.limit seats number number []) ∷ [] ≡ new_seat (tables ++ table ∷ []) (ls ++ l ∷ []) seats number
new_seat_more [] [] table l seats number e = refl
new_seat_more [] (x ∷ ls) table l seats number e = absurd (omega arith)
new_seat_more (t ∷ tables) [] table l seats number e = absurd (omega arith)
new_seat_more (t ∷ tables) (x ∷ ls) table l seats number e = ap (λ (xs : List Stand). (t, seated x.node x.limit seats number number []) ∷ xs) (new_seat_more tables ls table l seats number (omega arith))

column_more : (tables : List TableId) (ls : List LimiterNode) (table : TableId) (l : LimiterNode) (seats from : ℕ) (all : List (List Stand)) (col : List Stand) → length tables ≡ length ls → AreNewSeatsFrom tables ls seats from all → AreNewFrom table l.node l.limit seats from col → length col ≡ length all →
    AreNewSeatsFrom (tables ++ table ∷ []) (ls ++ l ∷ []) seats from (with_column all col)
column_more tables ls table l seats from [] col e h k same = tt
column_more tables ls table l seats from (seat ∷ all) [] e h k same = absurd (omega arith)
column_more tables ls table l seats from (seat ∷ all) (s ∷ col) e h k same =
    (ap (λ (xs : List Stand). xs ++ s ∷ []) h.0 ∙ ap (λ (x : Stand). new_seat tables ls seats from ++ x ∷ []) k.0 ∙ new_seat_more tables ls table l seats from e, column_more tables ls table l seats (from + 1) all col e h.1 k.1 (omega arith))

with_length : (all : List (List Stand)) (col : List Stand) → length (with_column all col) ≡ length all
with_length [] col = refl
with_length (x ∷ all) [] = refl
with_length (x ∷ all) (s ∷ col) = ap suc (with_length all col)

pub new_more : (ls : List LimiterNode) (l : LimiterNode) (seats : ℕ) (all : List (List Stand)) (col : List Stand) → AreNewSeats ls seats all → AreNew l.node l.limit seats col → AreNewSeats (ls ++ l ∷ []) seats (with_column all col)
new_more ls l seats all col h k =
    let tables : List TableId = h.1.0 in
    let table : TableId = k.1.0 in
    let len : length (tables ++ table ∷ []) ≡ length (ls ++ l ∷ []) = length-append tables (table ∷ []) ∙ ap (λ (n : ℕ). n + 1) h.1.1 ∙ sym (length-append ls (l ∷ [])) in
    (with_length all col ∙ h.0, (tables ++ table ∷ [], len, column_more tables ls table l seats 0 all col h.1.1 h.1.2 k.1.1 (k.0 ∙ sym h.0)))

-- one turn of the loop over the column
add_at : (all : List (List Stand)) (col col' : List Stand) (s : Stand) (at : ℕ) (now : List Stand) → length col ≤ length all → col ≡ col' ++ s ∷ [] → at ≡ length col' → now ≡ slice_index_or all at now → slice_get all (length col') ≡ Some now
add_at all col col' s at now fits is len value =
    let one : length col ≡ length col' + 1 = ap (λ (xs : List Stand). length xs) is ∙ length-append col' (s ∷ []) in
    slice_get_read all (length all) (length col') now refl (omega arith) (value ∙ ap (λ (k : ℕ). slice_index_or all k now) len)

pub add_step : (whole all : List (List Stand)) (col col' : List Stand) (s : Stand) (at : ℕ) (now new : List Stand) → with_column all col ≡ whole → length col ≤ length all → col ≡ col' ++ s ∷ [] → at ≡ length col' → now ≡ slice_index_or all at now → new ≡ now ++ s ∷ [] →
    (with_column (slice_set all at new) col' ≡ whole) × (length col' ≤ length (slice_set all at new))
add_step whole all col col' s at now new h fits is len value added =
    let one : length col ≡ length col' + 1 = ap (λ (xs : List Stand). length xs) is ∙ length-append col' (s ∷ []) in
    let here : with_column all col ≡ with_column (slice_set all (length col') (now ++ s ∷ [])) col' = ap (with_column all) is ∙ with_last all col' s now (add_at all col col' s at now fits is len value) in
    let set : slice_set all at new ≡ slice_set all (length col') (now ++ s ∷ []) = λ i. slice_set all (len i) (added i) in
    let same : length (slice_set all at new) ≡ length all = length-set all at new in
    (ap (λ (xs : List (List Stand)). with_column xs col') set ∙ sym here ∙ h, omega arith)

pub column_gone : (whole all : List (List Stand)) (col : List Stand) → with_column all col ≡ whole → length col ≡ 0 → all ≡ whole
column_gone whole all [] h e = sym (with_none all) ∙ h
column_gone whole all (s ∷ col) h e = absurd (omega arith)

-- new seats of a node have taken in no other
new_are_seats_from : (table : TableId) (node : ℕ) (limit : Limit) (seats from : ℕ) (col : List Stand) → AreNewFrom table node limit seats from col → All (λ (s : Stand). IsSeat s.1) col
new_are_seats_from table node limit seats from [] h = All-nil (λ (s : Stand). IsSeat s.1)
new_are_seats_from table node limit seats from (s ∷ col) h = All-cons (λ (s : Stand). IsSeat s.1) s col (subst (λ (s : Stand). IsSeat s.1) (sym h.0) (refl, refl)) (new_are_seats_from table node limit seats (from + 1) col h.1)

pub new_are_seats : (node : ℕ) (limit : Limit) (seats : ℕ) (col : List Stand) → AreNew node limit seats col → All (λ (s : Stand). IsSeat s.1) col
new_are_seats node limit seats col h = new_are_seats_from h.1.0 node limit seats 0 col h.1.1

-- ---- seats at no node

none_more : (seats from : ℕ) (all : List (List Stand)) → AreNewSeatsFrom [] [] seats from all → AreNewSeatsFrom [] [] seats from (all ++ [] ∷ [])
none_more seats from [] h = (refl, tt)
none_more seats from (x ∷ all) h = (h.0, none_more seats (from + 1) all h.1)

pub seats_more : (seats at : ℕ) (all : List (List Stand)) → (length all ≡ at) × AreNewSeatsFrom [] [] seats 0 all → (length (all ++ [] ∷ []) ≡ at + 1) × AreNewSeatsFrom [] [] seats 0 (all ++ [] ∷ [])
seats_more seats at all h = (length-append all ([] ∷ []) ∙ ap (λ (n : ℕ). n + 1) h.0, none_more seats 0 all h.1)

-- ---- one seat more is taken in, node by node

pub united_none : (nodes : List Stand) → united nodes [] ≡ nodes
united_none [] = refl
united_none (n ∷ nodes) = refl

-- the first nodes have the cells of the others
abbrev pub SameTables : List Stand → List Stand → Type 0
SameTables nodes [] = Unit {0}
SameTables [] (o ∷ others) = ⊥
SameTables (n ∷ nodes) (o ∷ others) = (o.0 ≡ n.0) × SameTables nodes others

abbrev rest_of : List NodeCell → List NodeCell
rest_of [] = []
rest_of (c ∷ cells) = cells

abbrev first_of : NodeCell → List NodeCell → NodeCell
first_of d [] = d
first_of d (c ∷ cells) = c

pub tables_init : (nodes others : List Stand) → map cell_of others ≡ map cell_of nodes → SameTables nodes others
tables_init nodes [] e = tt
tables_init [] (o ∷ others) e = absurd (omega (arith, ap (λ (xs : List NodeCell). length xs) e))
tables_init (n ∷ nodes) (o ∷ others) e = (ap (λ (xs : List NodeCell). (first_of (cell_of o) xs).0) e, tables_init nodes others (ap rest_of e))

pub tables_at : (nodes others : List Stand) (o : Stand) → SameTables nodes (others ++ o ∷ []) → (n : Stand) × (slice_get nodes (length others) ≡ Some n) × (o.0 ≡ n.0)
tables_at [] [] o h = absurd h
tables_at [] (x ∷ others) o h = absurd h
tables_at (n ∷ nodes) [] o h = (n, refl, h.0)
tables_at (n ∷ nodes) (x ∷ others) o h = tables_at nodes others o h.1

pub tables_step : (nodes others : List Stand) (o n : Stand) → SameTables nodes (others ++ o ∷ []) → SameTables (slice_set nodes (length others) n) others
tables_step nodes [] o n h = tt
tables_step [] (x ∷ others) o n h = absurd h
tables_step (y ∷ nodes) (x ∷ others) o n h = (h.0, tables_step nodes others o n h.1)

pub united_last : (nodes others : List Stand) (o n : Stand) → slice_get nodes (length others) ≡ Some n → united nodes (others ++ o ∷ []) ≡ united (slice_set nodes (length others) (n.0, with_parts n.1 o.1)) others
united_last [] others o n e = refl
united_last (x ∷ nodes) [] o n e =
    let same : x ≡ n = ap (λ (y : Option Stand). unwrap_or y x) e in
    let rest : united nodes [] ≡ nodes = united_none nodes in
    λ i. ((same i).0, with_parts (same i).1 o.1) ∷ rest i
united_last (x ∷ nodes) (y ∷ others) o n e = ap (λ (xs : List Stand). (x.0, with_parts x.1 y.1) ∷ xs) (united_last nodes others o n e)

-- one turn of the loop over the other seat's nodes
pub unite_at : (nodes others others' : List Stand) (o now : Stand) (at : ℕ) → SameTables nodes others → others ≡ others' ++ o ∷ [] → at ≡ length others' → now ≡ slice_index_or nodes at now → (slice_get nodes (length others') ≡ Some now) × (o.0 ≡ now.0)
unite_at nodes others others' o now at h is len value =
    let t = tables_at nodes others' o (subst (SameTables nodes) is h) in
    let same : now ≡ t.0 = value ∙ ap (λ (k : ℕ). slice_index_or nodes k now) len ∙ get_or_from_slice_get nodes (length others') t.0 now t.1 in
    (t.1 ∙ ap (λ (s : Stand). Some s) (sym same), t.2 ∙ ap (λ (s : Stand). s.0) (sym same))

pub unite_within : (nodes others others' : List Stand) (o : Stand) → SameTables nodes others → others ≡ others' ++ o ∷ [] → length others' < length nodes
unite_within nodes others others' o h is =
    let t = tables_at nodes others' o (subst (SameTables nodes) is h) in slice_get_within nodes (length others') t.0 t.1

pub unite_step : (whole nodes others others' : List Stand) (o now new : Stand) (at : ℕ) → united nodes others ≡ whole → SameTables nodes others → others ≡ others' ++ o ∷ [] → at ≡ length others' → now ≡ slice_index_or nodes at now → new.0 ≡ now.0 → new.1 ≡ with_parts now.1 o.1 →
    (united (slice_set nodes at new) others' ≡ whole) × SameTables (slice_set nodes at new) others'
unite_step whole nodes others others' o now new at h tables is len value table parts =
    let u = unite_at nodes others others' o now at tables is len value in
    let here : united nodes others ≡ united (slice_set nodes (length others') (now.0, with_parts now.1 o.1)) others' = ap (united nodes) is ∙ united_last nodes others' o now u.0 in
    let set : slice_set nodes at new ≡ slice_set nodes (length others') (now.0, with_parts now.1 o.1) = λ i. slice_set nodes (len i) (table i, parts i) in (
      ap (λ (xs : List Stand). united xs others') set ∙ sym here ∙ h,
      subst (λ (k : ℕ). SameTables (slice_set nodes k new) others') (sym len) (tables_step nodes others' o new (subst (SameTables nodes) is tables)),
    )

pub united_gone : (whole nodes others : List Stand) → united nodes others ≡ whole → length others ≡ 0 → nodes ≡ whole
united_gone whole nodes [] h e = sym (united_none nodes) ∙ h
united_gone whole nodes (o ∷ others) h e = absurd (omega arith)

united_cells : (nodes others : List Stand) → map cell_of (united nodes others) ≡ map cell_of nodes
united_cells [] others = refl
united_cells (n ∷ nodes) [] = refl
united_cells (n ∷ nodes) (o ∷ others) = ap (λ (xs : List NodeCell). cell_of n ∷ xs) (united_cells nodes others)

-- what stands at a place of them, and what made it
abbrev TakenIn : List Stand → List Stand → ℕ → Stand → Type 0
TakenIn nodes others place f = (n : Stand) × (o : Stand) × (slice_get nodes place ≡ Some n) × (slice_get others place ≡ Some o) × (f ≡ (n.0, with_parts n.1 o.1))

abbrev IsNothing : (X : Type 0) → Option X → Type 0
IsNothing X None = Unit {0}
IsNothing X (Some x) = ⊥

some_is_none : (f : Stand) → None ≡ Some f → ⊥
some_is_none f e = subst (IsNothing Stand) e tt

united_at : (nodes others : List Stand) (place : ℕ) (f : Stand) → length others ≡ length nodes → slice_get (united nodes others) place ≡ Some f → TakenIn nodes others place f
united_at [] others place f same e = absurd (some_is_none f e)
united_at (n ∷ nodes) [] place f same e = absurd (omega arith)
united_at (n ∷ nodes) (o ∷ others) zero f same e = (n, o, refl, refl, sym (ap (λ (y : Option Stand). unwrap_or y f) e))
united_at (n ∷ nodes) (o ∷ others) (suc place) f same e = united_at nodes others place f (omega arith) e

-- ---- what the seats have at one place

put : (o : Option Stand) (xs ys zs : List Stand) → xs ≡ ys ++ zs → unwrap_or (option_map (λ (s : Stand). s ∷ xs) o) xs ≡ unwrap_or (option_map (λ (s : Stand). s ∷ ys) o) ys ++ zs
put (Some y) xs ys zs e = ap (λ (l : List Stand). y ∷ l) e
put None xs ys zs e = e

column_last : (place : ℕ) (left : List (List Stand)) (seat : List Stand) (s : Stand) → slice_get seat place ≡ Some s → column place (left ++ seat ∷ []) ≡ column place left ++ s ∷ []
column_last place [] seat s e = ap (λ (o : Option Stand). unwrap_or (option_map (λ (x : Stand). x ∷ []) o) []) e
column_last place (x ∷ left) seat s e = put (slice_get x place) (column place (left ++ seat ∷ [])) (column place left) (s ∷ []) (column_last place left seat s e)

abbrev pub HasCells : List NodeCell → List Stand → Type 0
HasCells cells seat = map cell_of seat ≡ cells

cell_at : (cells : List NodeCell) (seat : List Stand) (place : ℕ) (s : Stand) → HasCells cells seat → slice_get seat place ≡ Some s → slice_get cells place ≡ Some (cell_of s)
cell_at cells seat place s of e = ap (λ (xs : List NodeCell). slice_get xs place) (sym of) ∙ slice_get-map cell_of seat place ∙ ap (option_map cell_of) e

abbrev IsOfCell : NodeCell → Stand → Type 0
IsOfCell c s = IsOf c.0 c.1 c.2 c.3 s

column_of_one : (place : ℕ) (c : NodeCell) (cells : List NodeCell) (seats : List (List Stand)) → slice_get cells place ≡ Some c → All (HasCells cells) seats → All (IsOfCell c) (column place seats)
column_of_one place c cells [] e h = All-nil (IsOfCell c)
column_of_one place c cells (seat ∷ seats) e h =
    here (slice_get seat place) refl (column_of_one place c cells seats e (All-tail (HasCells cells) seat seats h)) where
      here : (o : Option Stand) → slice_get seat place ≡ o → All (IsOfCell c) (column place seats) → All (IsOfCell c) (unwrap_or (option_map (λ (s : Stand). s ∷ column place seats) o) (column place seats))
      here (Some s) is rest =
          let both : Some (cell_of s) ≡ Some c = sym (cell_at cells seat place s (All-head (HasCells cells) seat seats h) is) ∙ e in
          let same : cell_of s ≡ c = ap (λ (y : Option NodeCell). unwrap_or y c) both in
          All-cons (IsOfCell c) s (column place seats) (ap (λ (y : NodeCell). y.0) same, ap (λ (y : NodeCell). y.1) same, ap (λ (y : NodeCell). y.2) same, ap (λ (y : NodeCell). y.3) same) rest
      here None is rest = rest

some_cell : (c : NodeCell) → Some c ≡ None → ⊥
some_cell c e = subst (IsNothing NodeCell) (sym e) tt

column_none : (place : ℕ) (cells : List NodeCell) (seats : List (List Stand)) → slice_get cells place ≡ None → All (HasCells cells) seats → column place seats ≡ []
column_none place cells [] e h = refl
column_none place cells (seat ∷ seats) e h =
    let none : option_map cell_of (slice_get seat place) ≡ None = sym (slice_get-map cell_of seat place) ∙ ap (λ (xs : List NodeCell). slice_get xs place) (All-head (HasCells cells) seat seats h) ∙ e in
    here (slice_get seat place) none (column_none place cells seats e (All-tail (HasCells cells) seat seats h)) where
      here : (o : Option Stand) → option_map cell_of o ≡ None → column place seats ≡ [] → unwrap_or (option_map (λ (s : Stand). s ∷ column place seats) o) (column place seats) ≡ []
      here (Some s) is rest = absurd (some_cell (cell_of s) is)
      here None is rest = rest

-- ---- what the loop of `reunite` keeps: at each place the seats that are left go with what was taken in there

pub record UnitingEach (whole left : List (List Stand)) (nodes : List Stand) : Type 0 where
  pub cells : List NodeCell
  pub all : All (HasCells cells) whole
  pub same : All (HasCells cells) left
  pub of : HasCells cells nodes
  pub at : (place : ℕ) (f : Stand) → slice_get nodes place ≡ Some f → Uniting (column place whole) (column place left) f

pub each_init : (whole left : List (List Stand)) (first : List Stand) → AreOfOneBudget whole → whole ≡ left ++ first ∷ [] → UnitingEach whole left first
each_init whole left first h is =
    let P : List Stand → Type 0 = HasCells h.0 in
    let all = subst (All P) is h.1 in
    let of : HasCells h.0 first = all_last P left first all in
    record {
      cells = h.0;
      all = h.1;
      same = all_front P left (first ∷ []) all;
      of = of;
      at = λ place f e. uniting_init (column place whole) (column place left) f
          (f.0, f.1.node, f.1.limit, f.1.seats, column_of_one place (cell_of f) h.0 whole (cell_at h.0 first place f of e) h.1)
          (ap (column place) is ∙ column_last place left first f e);
    }

pub each_same : (whole left left' : List (List Stand)) (nodes other : List Stand) → UnitingEach whole left nodes → left ≡ left' ++ other ∷ [] → map cell_of other ≡ map cell_of nodes
each_same whole left left' nodes other u is = all_last (HasCells u.cells) left' other (subst (All (HasCells u.cells)) is u.same) ∙ sym u.of

same_length : (xs ys : List Stand) → map cell_of xs ≡ map cell_of ys → length xs ≡ length ys
same_length [] [] e = refl
same_length [] (y ∷ ys) e = absurd (omega (arith, ap (λ (l : List NodeCell). length l) e))
same_length (x ∷ xs) [] e = absurd (omega (arith, ap (λ (l : List NodeCell). length l) e))
same_length (x ∷ xs) (y ∷ ys) e = ap suc (same_length xs ys (ap rest_of e))

pub each_step : (whole left left' : List (List Stand)) (nodes other nodes' : List Stand) → UnitingEach whole left nodes → left ≡ left' ++ other ∷ [] → nodes' ≡ united nodes other → UnitingEach whole left' nodes'
each_step whole left left' nodes other nodes' u is now =
    let P : List Stand → Type 0 = HasCells u.cells in
    let rest = subst (All P) is u.same in
    let len : length other ≡ length nodes = same_length other nodes (each_same whole left left' nodes other u is) in
    record {
      cells = u.cells;
      all = u.all;
      same = all_front P left' (other ∷ []) rest;
      of = ap (map cell_of) now ∙ united_cells nodes other ∙ u.of;
      at = λ place f e.
          let t = united_at nodes other place f len (ap (λ (xs : List Stand). slice_get xs place) (sym now) ∙ e) in
          uniting_step (column place whole) (column place left) (column place left') t.0 t.1 f (u.at place t.0 t.2)
          (ap (column place) is ∙ column_last place left' other t.1 t.3) (ap (λ (x : Stand). x.0) t.4) (ap (λ (x : Stand). x.1) t.4);
    }

compared_at : (nodes : List Stand) (place : ℕ) (f : Stand) → All IsCompared nodes → slice_get nodes place ≡ Some f → IsCompared f
compared_at [] place f h e = absurd (some_is_none f e)
compared_at (n ∷ nodes) zero f h e = subst IsCompared (ap (λ (y : Option Stand). unwrap_or y n) e) (All-head IsCompared n nodes h)
compared_at (n ∷ nodes) (suc place) f h e = compared_at nodes place f (All-tail IsCompared n nodes h) e

pub each_end : (whole left : List (List Stand)) (nodes : List Stand) → UnitingEach whole left nodes → left ≡ [] → All IsCompared nodes → HaveOneHistoryEach whole
each_end whole left nodes u none one place = here (slice_get nodes place) refl where
  here : (o : Option Stand) → slice_get nodes place ≡ o → HaveOneHistory (column place whole)
  here (Some f) is =
      let c = compared_at nodes place f one is in
      uniting_end (column place whole) (column place left) f (u.at place f is) (ap (column place) none) c.0 c.1
  here None is =
      let no_cell : slice_get u.cells place ≡ None = ap (λ (xs : List NodeCell). slice_get xs place) (sym u.of) ∙ slice_get-map cell_of nodes place ∙ ap (option_map cell_of) is in
      subst HaveOneHistory (sym (column_none place u.cells whole no_cell u.all)) ([], λ k d lt. absurd (omega (arith, lt)))

pub seats_gone : (left : List (List Stand)) → length left ≡ 0 → left ≡ []
seats_gone [] e = refl
seats_gone (x ∷ left) e = absurd (omega arith)

-- ---- the laws

abbrev new_cells : (tables : List TableId) → List LimiterNode → ℕ → List NodeCell
new_cells [] ls seats = []
new_cells (t ∷ tables) [] seats = []
new_cells (t ∷ tables) (l ∷ ls) seats = (t, l.node, l.limit, seats) ∷ new_cells tables ls seats

cells_of_new : (tables : List TableId) (ls : List LimiterNode) (seats number : ℕ) → map cell_of (new_seat tables ls seats number) ≡ new_cells tables ls seats
cells_of_new [] ls seats number = refl
cells_of_new (t ∷ tables) [] seats number = refl
cells_of_new (t ∷ tables) (l ∷ ls) seats number = ap (λ (xs : List NodeCell). (t, l.node, l.limit, seats) ∷ xs) (cells_of_new tables ls seats number)

new_have_cells : (tables : List TableId) (ls : List LimiterNode) (seats from : ℕ) (all : List (List Stand)) → AreNewSeatsFrom tables ls seats from all → All (HasCells (new_cells tables ls seats)) all
new_have_cells tables ls seats from [] h = All-nil (HasCells (new_cells tables ls seats))
new_have_cells tables ls seats from (seat ∷ all) h = All-cons (HasCells (new_cells tables ls seats)) seat all (ap (map cell_of) h.0 ∙ cells_of_new tables ls seats from) (new_have_cells tables ls seats (from + 1) all h.1)

pub new_are_of_one : NewSeatsAreOfOne
new_are_of_one ls seats all h = (new_cells h.1.0 ls seats, new_have_cells h.1.0 ls seats 0 all h.1.2)

set_keeps_all : {C : Type 0} (f : Stand → C) (stands : List Stand) (place : ℕ) (s t : Stand) → slice_get stands place ≡ Some s → f t ≡ f s → map f (slice_set stands place t) ≡ map f stands
set_keeps_all f [] place s t e same = refl
set_keeps_all f (x ∷ stands) zero s t e same = ap (λ c. c ∷ map f stands) (same ∙ ap f (sym (ap (λ (y : Option Stand). unwrap_or y s) e)))
set_keeps_all f (x ∷ stands) (suc place) s t e same = ap (λ l. f x ∷ l) (set_keeps_all f stands place s t e same)

pub asking_keeps : AskingKeepsCells
asking_keeps seat new node second amount answer h =
    let s : Stand = h.1 in
    let t : Stand = h.2 in
    let view = h.6.1 in
    let cells : cell_of t ≡ cell_of s = λ i. (h.5 i, (view i).node, (view i).limit, (view i).seats) in
    let number : seat_number t ≡ seat_number s = ap (λ (v : View). v.seat) view in
    (ap (map cell_of) h.7 ∙ set_keeps_all cell_of seat h.0 s t h.3 cells, ap (map seat_number) h.7 ∙ set_keeps_all seat_number seat h.0 s t h.3 number)

abbrev other_seats : List (List NodeCell) → List (List NodeCell)
other_seats [] = []
other_seats (x ∷ xs) = xs

abbrev one_seat : List NodeCell → List (List NodeCell) → List NodeCell
one_seat d [] = d
one_seat d (x ∷ xs) = x

have_cells : (cells : List NodeCell) (seats new : List (List Stand)) → map (map cell_of) new ≡ map (map cell_of) seats → All (HasCells cells) seats → All (HasCells cells) new
have_cells cells seats [] e h = All-nil (HasCells cells)
have_cells cells [] (y ∷ new) e h = absurd (omega (arith, ap (λ (l : List (List NodeCell)). length l) e))
have_cells cells (x ∷ seats) (y ∷ new) e h =
    All-cons (HasCells cells) y new (ap (one_seat []) e ∙ All-head (HasCells cells) x seats h) (have_cells cells seats new (ap other_seats e) (All-tail (HasCells cells) x seats h))

pub cells_suffice : SameCellsSuffice
cells_suffice seats new e h = (h.0, have_cells h.0 seats new e h.1)

pub each_within : EachStaysWithin
each_within seats h place =
    let o = h place in
    (o.0, λ k d lt. ((o.1 k d lt).2, λ second. within _ _ second o.0 (o.1 k d lt).0))

-- ---- seats that are taken from a list, asked and put back

pub taken : (cells : List NodeCell) (xs ys : List (List Stand)) (x : List Stand) → All (HasCells cells) xs → xs ≡ ys ++ x ∷ [] → All (HasCells cells) ys × HasCells cells x
taken cells xs ys x h is =
    let P : List Stand → Type 0 = HasCells cells in
    let all = subst (All P) is h in (all_front P ys (x ∷ []) all, all_last P ys x all)

pub put_back : (cells : List NodeCell) (xs ys : List (List Stand)) (x x' : List Stand) → All (HasCells cells) ys → HasCells cells x → map cell_of x' ≡ map cell_of x → xs ≡ ys ++ x' ∷ [] → All (HasCells cells) xs
put_back cells xs ys x x' h of same is = subst (All (HasCells cells)) (sym is) (All-push (HasCells cells) ys x' h (same ∙ of))
