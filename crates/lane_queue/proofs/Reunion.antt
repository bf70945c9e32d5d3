-- Grids of ends that lose a row after the other.
-- For the contract of `reunite_grid`.
use Rattle.std.proofs.Common.{◌≡◌, ℕ, zero, suc, ◌+◌, ◌<◌, ◌≤◌, List, [], ◌∷◌, ◌++◌, length, slice_get, Some, All, sym, refl, ap, ◌∙◌, subst, arith, length-append}
use Rattle.std.specs.Prelude.{map, reverse}
use Rattle.std.proofs.lemmas.List.{append-nil, append_assoc, length-map}
use Rattle.std.proofs.lemmas.List.Elements.{All-nil, All-cons, All-head, All-tail, All-pop}
use Rattle.lane_queue.specs.Ends.{EndState, ReceiverState, queues, AreTied, HasHistoryAt}
use Rattle.lane_queue.specs.Grid.{dealt, columns_of, AreOfLength, AreLong, IsTiedGrid, HasRowHistory, HaveHistories}
use Rattle.lane_queue.proofs.Dealing.{dealt_length}
use Rattle.lane_queue.proofs.Grids.{dealt_same, columns_length, shorter, queues_dealt, long_dealt, rows_more, rows_of}

module _ {Y : Type 0} where
  -- the columns after these rows were dealt, one after the other
  abbrev pub deals : (columns rows : List (List Y)) → List (List Y)
  deals columns [] = columns
  deals columns (row ∷ rows) = deals (dealt columns row) rows

  get_before : (c : List Y) (x : Y) (place : ℕ) → place < length c → slice_get (c ++ x ∷ []) place ≡ slice_get c place
  get_before [] x place within = absurd (omega (arith, within))
  get_before (y ∷ c) x zero within = refl
  get_before (y ∷ c) x (suc place) within = get_before c x place (omega (arith, within))

  get_last : (c : List Y) (x : Y) → slice_get (c ++ x ∷ []) (length c) ≡ Some x
  get_last [] x = refl
  get_last (y ∷ c) x = get_last c x

  abbrev pub AreLonger : (place : ℕ) → List (List Y) → Type 0
  AreLonger place columns = All (λ (c : List Y). place < length c) columns

  longer_dealt : (place : ℕ) (columns : List (List Y)) (row : List Y) → AreLonger place columns → AreLonger place (dealt columns row)
  longer_dealt place [] row long = long
  longer_dealt place (c ∷ columns) [] long = long
  longer_dealt place (c ∷ columns) (x ∷ row) long =
      All-cons (λ (d : List Y). place < length d) (c ++ x ∷ []) (dealt columns row) (omega (arith, length-append c (x ∷ []), All-head (λ (d : List Y). place < length d) c columns long))
      (longer_dealt place columns row (All-tail (λ (d : List Y). place < length d) c columns long))

  stays_one : (place : ℕ) (columns : List (List Y)) (row : List Y) → AreLonger place columns → map (λ (c : List Y). slice_get c place) (dealt columns row) ≡ map (λ (c : List Y). slice_get c place) columns
  stays_one place [] row long = refl
  stays_one place (c ∷ columns) [] long = refl
  stays_one place (c ∷ columns) (x ∷ row) long =
      let head = get_before c x place (All-head (λ (d : List Y). place < length d) c columns long) in
      let rest = stays_one place columns row (All-tail (λ (d : List Y). place < length d) c columns long) in (λ i. head i ∷ rest i)

  stays : (place : ℕ) (columns rows : List (List Y)) → AreLonger place columns → map (λ (c : List Y). slice_get c place) (deals columns rows) ≡ map (λ (c : List Y). slice_get c place) columns
  stays place columns [] long = refl
  stays place columns (row ∷ rows) long = stays place (dealt columns row) rows (longer_dealt place columns row long) ∙ stays_one place columns row long

  row_there : (n : ℕ) (columns : List (List Y)) (row : List Y) → AreOfLength n columns → length row ≡ length columns → map (λ (c : List Y). slice_get c n) (dealt columns row) ≡ map (λ (y : Y). Some y) row
  row_there n [] [] long same = refl
  row_there n [] (x ∷ row) long same = absurd (omega (arith, same))
  row_there n (c ∷ columns) [] long same = absurd (omega (arith, same))
  row_there n (c ∷ columns) (x ∷ row) long same =
      let here : length c ≡ n = All-head (λ (d : List Y). length d ≡ n) c columns long in
      let head : slice_get (c ++ x ∷ []) n ≡ Some x = ap (slice_get (c ++ x ∷ [])) (sym here) ∙ get_last c x in
      let rest = row_there n columns row (All-tail (λ (d : List Y). length d ≡ n) c columns long) (omega (arith, same)) in (λ i. head i ∷ rest i)

  long_longer : (n : ℕ) (columns : List (List Y)) → AreOfLength (n + 1) columns → AreLonger n columns
  long_longer n [] long = All-nil (λ (c : List Y). n < length c)
  long_longer n (c ∷ columns) long =
      let here : length c ≡ n + 1 = All-head (λ (d : List Y). length d ≡ n + 1) c columns long in
      All-cons (λ (d : List Y). n < length d) c columns (omega (arith, here)) (long_longer n columns (All-tail (λ (d : List Y). length d ≡ n + 1) c columns long))

  -- what the columns have at a place is the row that was dealt there
  row_at : (n : ℕ) (columns rows : List (List Y)) (place : ℕ) (row : List Y) → AreOfLength n columns → All (λ (r : List Y). length r ≡ length columns) rows → slice_get rows place ≡ Some row
      → map (λ (c : List Y). slice_get c (n + place)) (deals columns rows) ≡ map (λ (y : Y). Some y) row
  row_at n columns [] place row long even at = absurd (cc)
  row_at n columns (r ∷ rows) zero row long even at =
      let is : r ≡ row = cc in
      let same : length r ≡ length columns = All-head (λ (s : List Y). length s ≡ length columns) r rows even in
      let there = stays n (dealt columns r) rows (long_longer n (dealt columns r) (long_dealt n columns r same long)) in
      let here : n + 0 ≡ n = omega arith in
      ap (λ (k : ℕ). map (λ (c : List Y). slice_get c k) (deals (dealt columns r) rows)) here ∙ (there ∙ (row_there n columns r long same ∙ ap (map (λ (y : Y). Some y)) is))
  row_at n columns (r ∷ rows) (suc place) row long even at =
      let same : length r ≡ length columns = All-head (λ (s : List Y). length s ≡ length columns) r rows even in
      let more = subst (λ (k : ℕ). All (λ (s : List Y). length s ≡ k) rows) (sym (dealt_length columns r)) (All-tail (λ (s : List Y). length s ≡ length columns) r rows even) in
      let here : n + suc place ≡ (n + 1) + place = omega arith in
      ap (λ (k : ℕ). map (λ (c : List Y). slice_get c k) (deals (dealt columns r) rows)) here ∙ row_at (n + 1) (dealt columns r) rows place row (long_dealt n columns r same long) more at

module _ {X : Type 0} where
  -- one history of each queue to the receiver has what was pushed and popped there
  abbrev pub Histories : ℕ → List (EndState X) → ReceiverState X → Type 0
  Histories capacity row receiver = (k : ℕ) → k < length receiver.ends → HasHistoryAt capacity row receiver.ends k

  abbrev pub RowsHave : ℕ → List (List (EndState X)) → List (ReceiverState X) → Type 0
  RowsHave capacity [] [] = Unit {0}
  RowsHave capacity [] (r ∷ receivers) = ⊥
  RowsHave capacity (row ∷ rows) [] = ⊥
  RowsHave capacity (row ∷ rows) (r ∷ receivers) = Histories capacity row r × RowsHave capacity rows receivers

  rows_get : (capacity : ℕ) (rows : List (List (EndState X))) (receivers : List (ReceiverState X)) (place : ℕ) → RowsHave capacity rows receivers → place < length receivers
      → (receiver : ReceiverState X) × (row : List (EndState X)) × (slice_get receivers place ≡ Some receiver) × (slice_get rows place ≡ Some row) × Histories capacity row receiver
  rows_get capacity [] [] place have within = absurd (omega (arith, within))
  rows_get capacity [] (r ∷ receivers) place have within = absurd have
  rows_get capacity (row ∷ rows) [] place have within = absurd have
  rows_get capacity (row ∷ rows) (r ∷ receivers) zero have within = (r, row, refl, refl, have.0)
  rows_get capacity (row ∷ rows) (r ∷ receivers) (suc place) have within = rows_get capacity rows receivers place have.1 (omega (arith, within))

  -- of a grid the last rows were reunited, and what is left is a grid
  pub record Reuniting (capacity : ℕ) (all_columns : List (List (EndState X))) (all_receivers : List (ReceiverState X)) (columns : List (List (EndState X))) (receivers : List (ReceiverState X)) : Type 0 where
    pub tied : IsTiedGrid columns receivers
    pub rows : List (List (EndState X))
    pub back : List (ReceiverState X)
    pub columns_are : deals columns rows ≡ all_columns
    pub receivers_are : receivers ++ back ≡ all_receivers
    pub even : All (λ (row : List (EndState X)). length row ≡ length columns) rows
    pub have : RowsHave capacity rows back

  pub reunite_first : (capacity : ℕ) (columns : List (List (EndState X))) (receivers : List (ReceiverState X)) → IsTiedGrid columns receivers → Reuniting capacity columns receivers columns receivers
  reunite_first capacity columns receivers tied = record { tied = tied; rows = []; back = []; columns_are = refl; receivers_are = append-nil receivers; even = All-nil (λ (row : List (EndState X)). length row ≡ length columns); have = tt }

  -- the last row of a grid is of the last receiver's queues, and the others are a grid
  pub last_row : (columns old : List (List (EndState X))) (row : List (EndState X)) (receivers olds : List (ReceiverState X)) (r : ReceiverState X) → IsTiedGrid old olds → olds ≡ receivers ++ r ∷ [] → dealt columns row ≡ old → length row ≡ length columns
      → AreTied row r.ends × IsTiedGrid columns receivers
  last_row columns old row receivers olds r grid pops deal same =
      let count : length old ≡ length columns = ap length (sym deal) ∙ dealt_length columns row in
      let of_r : length (queues r.ends) ≡ length columns = length-map r.ends (λ (e : EndState X). e.queue) ∙ (even_last ∙ count) in
      let rest = rows_of receivers in
      let both : dealt (map (λ (c : List (EndState X)). queues c) columns) (queues row) ≡ dealt (columns_of (length columns) rest) (queues r.ends)
      = sym (queues_dealt columns row) ∙ (ap (map (λ (c : List (EndState X)). queues c)) deal ∙ (grid.tied ∙ (λ i. columns_of (count i) (ap rows_of pops i)) ∙ ap (columns_of (length columns)) (rows_more receivers r))) in
      let parts = dealt_same (map (λ (c : List (EndState X)). queues c) columns) (columns_of (length columns) rest) (queues row) (queues r.ends)
      (length-map row (λ (e : EndState X). e.queue) ∙ (same ∙ sym (length-map columns (λ (c : List (EndState X)). queues c)))) (of_r ∙ sym (columns_length (length columns) rest)) both in (
        parts.1,
        record {
          tied = parts.0;
          even = subst (λ (n : ℕ). All (λ (s : ReceiverState X). length s.ends ≡ n) receivers) count ((All-pop (λ (s : ReceiverState X). length s.ends ≡ length old) (receivers ++ r ∷ []) receivers (Some r) refl evens).0);
          long = shorter (length receivers) columns row same (subst (λ (l : List (List (EndState X))). AreOfLength (length receivers + 1) l) (sym deal) (subst (λ (n : ℕ). AreOfLength n old) (ap length pops ∙ length-append receivers (r ∷ [])) grid.long));
        },
      ) where
        evens : All (λ (s : ReceiverState X). length s.ends ≡ length old) (receivers ++ r ∷ [])
        evens = subst (All (λ (s : ReceiverState X). length s.ends ≡ length old)) pops grid.even

        even_last : length r.ends ≡ length old
        even_last = (All-pop (λ (s : ReceiverState X). length s.ends ≡ length old) (receivers ++ r ∷ []) receivers (Some r) refl evens).1

  pub reunite_more : (capacity : ℕ) (all_columns : List (List (EndState X))) (all_receivers : List (ReceiverState X)) (columns old : List (List (EndState X))) (row : List (EndState X)) (receivers olds : List (ReceiverState X)) (r : ReceiverState X)
      → Reuniting capacity all_columns all_receivers old olds → olds ≡ receivers ++ r ∷ [] → dealt columns row ≡ old → length row ≡ length columns → Histories capacity row r → Reuniting capacity all_columns all_receivers columns receivers
  reunite_more capacity all_columns all_receivers columns old row receivers olds r h pops deal same have = record {
    tied = (last_row columns old row receivers olds r h.tied pops deal same).1;
    rows = row ∷ h.rows;
    back = r ∷ h.back;
    columns_are = ap (λ (l : List (List (EndState X))). deals l h.rows) deal ∙ h.columns_are;
    receivers_are = sym (append_assoc receivers (r ∷ []) h.back) ∙ (ap (λ (l : List (ReceiverState X)). l ++ h.back) (sym pops) ∙ h.receivers_are);
    even = All-cons (λ (s : List (EndState X)). length s ≡ length columns) row h.rows same (subst (λ (n : ℕ). All (λ (s : List (EndState X)). length s ≡ n) h.rows) (ap length (sym deal) ∙ dealt_length columns row) h.even);
    have = (have, h.have);
  }

  pub reunited : (capacity : ℕ) (all_columns : List (List (EndState X))) (all_receivers : List (ReceiverState X)) (columns : List (List (EndState X))) (receivers : List (ReceiverState X)) → Reuniting capacity all_columns all_receivers columns receivers → length receivers ≡ 0
      → HaveHistories capacity all_columns all_receivers
  reunited capacity all_columns all_receivers columns (r ∷ receivers) h none place within = absurd (omega (arith, none))
  reunited capacity all_columns all_receivers columns [] h none place within =
      let found = rows_get capacity h.rows h.back place h.have (omega (arith, ap length h.receivers_are, within)) in
      let here : place ≡ 0 + place = omega arith in (
        found.0,
        found.1,
        ap (λ (l : List (ReceiverState X)). slice_get l place) (sym h.receivers_are) ∙ found.2,
        ap (map (λ (c : List (EndState X)). slice_get c place)) (sym h.columns_are) ∙ (ap (λ (k : ℕ). map (λ (c : List (EndState X)). slice_get c k) (deals columns h.rows)) here ∙ row_at 0 columns h.rows place found.1 h.tied.long h.even found.3),
        found.4,
      )
