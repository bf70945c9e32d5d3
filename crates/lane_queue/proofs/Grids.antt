-- Grids of ends that grow by a row, and lose one.
-- For the contracts of `new_grid` and `reunite_grid`.
use Rattle.std.proofs.Common.{◌≡◌, Bool, ℕ, zero, suc, ◌+◌, ◌<◌, ◌≤◌, List, [], ◌∷◌, ◌++◌, length, slice_get, Some, All, sym, refl, ap, ◌∙◌, subst, arith, length-append, append_assoc}
use Rattle.std.specs.Prelude.{map, replicate, reverse}
use Rattle.std.proofs.lemmas.List.{map-append, reverse-append, append-nil, length-map}
use Rattle.std.proofs.lemmas.List.Elements.{All-nil, All-cons, All-head, All-tail, All-push, All-pop, All-replicate}
use native.Mathlib.Decide.{dec_le}
use Rattle.atomic_table.specs.Seated.{TableId}
use Rattle.lane_queue.specs.Ends.{EndState, ReceiverState, IsNew, WaitAs, queues, AreTied, HasHistoryAt}
use Rattle.lane_queue.proofs.EndLists.{get_mid}
use Rattle.lane_queue.specs.Grid.{dealt, columns_of, AreOfLength, AreLong, AreNewColumns, ColumnsWaitAs, IsTiedGrid, HasRowHistory, HaveHistories}
use Rattle.lane_queue.proofs.Dealing.{dealt_length}

module _ {Y : Type 0} where
  snoc_same : (c d : List Y) (x y : Y) → c ++ x ∷ [] ≡ d ++ y ∷ [] → (c ≡ d) × (x ≡ y)
  snoc_same [] [] x y e = (refl, cc)
  snoc_same [] (b ∷ d) x y e = absurd (omega (arith, ap length e, length-append d (y ∷ [])))
  snoc_same (a ∷ c) [] x y e = absurd (omega (arith, ap length e, length-append c (x ∷ [])))
  snoc_same (a ∷ c) (b ∷ d) x y e =
      let head : a ≡ b = cc in
      let rest : c ++ x ∷ [] ≡ d ++ y ∷ [] = cc in
      let more = snoc_same c d x y rest in ((λ i. head i ∷ more.0 i), more.1)

  -- a row that was dealt, and the columns before it, are known by the columns after it
  pub dealt_same : (a b : List (List Y)) (p q : List Y) → length p ≡ length a → length q ≡ length b → dealt a p ≡ dealt b q → (a ≡ b) × (p ≡ q)
  dealt_same [] [] [] [] lp lq e = (refl, refl)
  dealt_same [] [] (x ∷ p) q lp lq e = absurd (omega arith)
  dealt_same [] [] [] (y ∷ q) lp lq e = absurd (omega arith)
  dealt_same [] (d ∷ b) p [] lp lq e = absurd (omega arith)
  dealt_same [] (d ∷ b) p (y ∷ q) lp lq e = absurd (cc)
  dealt_same (c ∷ a) [] [] q lp lq e = absurd (omega arith)
  dealt_same (c ∷ a) [] (x ∷ p) q lp lq e = absurd (cc)
  dealt_same (c ∷ a) (d ∷ b) [] q lp lq e = absurd (omega arith)
  dealt_same (c ∷ a) (d ∷ b) (x ∷ p) [] lp lq e = absurd (omega arith)
  dealt_same (c ∷ a) (d ∷ b) (x ∷ p) (y ∷ q) lp lq e =
      let head : c ++ x ∷ [] ≡ d ++ y ∷ [] = cc in
      let rest : dealt a p ≡ dealt b q = cc in
      let one = snoc_same c d x y head in
      let more = dealt_same a b p q (omega arith) (omega arith) rest in ((λ i. one.0 i ∷ more.0 i), (λ i. one.1 i ∷ more.1 i))

  pub columns_length : (count : ℕ) (rows : List (List Y)) → length (columns_of count rows) ≡ count
  columns_length zero [] = refl
  columns_length (suc count) [] = ap suc (columns_length count [])
  columns_length count (row ∷ rows) = dealt_length (columns_of count rows) row ∙ columns_length count rows

  pub long_dealt : (k : ℕ) (columns : List (List Y)) (row : List Y) → length row ≡ length columns → AreOfLength k columns → AreOfLength (k + 1) (dealt columns row)
  long_dealt k [] row same long = All-nil (λ (c : List Y). length c ≡ k + 1)
  long_dealt k (c ∷ columns) [] same long = absurd (omega arith)
  long_dealt k (c ∷ columns) (x ∷ row) same long =
      All-cons (λ (d : List Y). length d ≡ k + 1) (c ++ x ∷ []) (dealt columns row) (omega (arith, length-append c (x ∷ []), All-head (λ (d : List Y). length d ≡ k) c columns long))
      (long_dealt k columns row (omega arith) (All-tail (λ (d : List Y). length d ≡ k) c columns long))

  pub shorter : (k : ℕ) (columns : List (List Y)) (row : List Y) → length row ≡ length columns → AreOfLength (k + 1) (dealt columns row) → AreOfLength k columns
  shorter k [] row same long = All-nil (λ (c : List Y). length c ≡ k)
  shorter k (c ∷ columns) [] same long = absurd (omega arith)
  shorter k (c ∷ columns) (x ∷ row) same long =
      let here : length (c ++ x ∷ []) ≡ k + 1 = All-head (λ (d : List Y). length d ≡ k + 1) (c ++ x ∷ []) (dealt columns row) long in
      All-cons (λ (d : List Y). length d ≡ k) c columns (omega (arith, length-append c (x ∷ [])))
      (shorter k columns row (omega arith) (All-tail (λ (d : List Y). length d ≡ k + 1) (c ++ x ∷ []) (dealt columns row) long))

  pub are_long : (k : ℕ) (columns : List (List Y)) → AreOfLength (k + 1) columns → AreLong columns
  are_long k [] long = All-nil (λ (c : List Y). 0 < length c)
  are_long k (c ∷ columns) long =
      let here : length c ≡ k + 1 = All-head (λ (d : List Y). length d ≡ k + 1) c columns long in
      All-cons (λ (d : List Y). 0 < length d) c columns (omega arith) (are_long k columns (All-tail (λ (d : List Y). length d ≡ k + 1) c columns long))

empty_columns : (X : Type 0) (count : ℕ) → map (λ (c : List (EndState X)). queues c) (replicate count []) ≡ columns_of count []
empty_columns X zero = refl
empty_columns X (suc count) = ap (λ l. [] ∷ l) (empty_columns X count)

module _ {X : Type 0} where
  pub queues_dealt : (columns : List (List (EndState X))) (row : List (EndState X)) → map (λ (c : List (EndState X)). queues c) (dealt columns row) ≡ dealt (map (λ (c : List (EndState X)). queues c) columns) (queues row)
  queues_dealt [] row = refl
  queues_dealt (c ∷ columns) [] = refl
  queues_dealt (c ∷ columns) (x ∷ row) = λ i. map-append (λ (e : EndState X). e.queue) c (x ∷ []) i ∷ queues_dealt columns row i

  -- what is so of all ends, and of those of a row that is dealt
  all_dealt : (P : EndState X → Type 0) (columns : List (List (EndState X))) (row : List (EndState X)) → All (λ (d : List (EndState X)). All P d) columns → All P row → All (λ (d : List (EndState X)). All P d) (dealt columns row)
  all_dealt P [] row old new = old
  all_dealt P (c ∷ columns) [] old new = old
  all_dealt P (c ∷ columns) (x ∷ row) old new =
      let Q : List (EndState X) → Type 0 = λ d. All P d in
      All-cons Q (c ++ x ∷ []) (dealt columns row) (All-push P c x (All-head Q c columns old) (All-head P x row new)) (all_dealt P columns row (All-tail Q c columns old) (All-tail P x row new))

  pub wait_first : (waits : Bool) (count : ℕ) (columns : List (List (EndState X))) → columns ≡ replicate count [] → ColumnsWaitAs waits columns
  wait_first waits count columns is = subst (ColumnsWaitAs waits) (sym is) (All-replicate (λ (c : List (EndState X)). WaitAs waits c) count [] (All-nil (λ (e : EndState X). e.waits ≡ waits)))

  pub wait_more : (waits : Bool) (columns new : List (List (EndState X))) (row : List (EndState X)) → ColumnsWaitAs waits columns → WaitAs waits row → new ≡ dealt columns row → ColumnsWaitAs waits new
  wait_more waits columns new row old here is = subst (ColumnsWaitAs waits) (sym is) (all_dealt (λ (e : EndState X). e.waits ≡ waits) columns row old here)

  abbrev pub rows_of : List (ReceiverState X) → List (List TableId)
  rows_of receivers = reverse (map (λ (r : ReceiverState X). queues r.ends) receivers)

  pub rows_more : (receivers : List (ReceiverState X)) (r : ReceiverState X) → rows_of (receivers ++ r ∷ []) ≡ queues r.ends ∷ rows_of receivers
  rows_more receivers r = ap reverse (map-append (λ (s : ReceiverState X). queues s.ends) receivers (r ∷ [])) ∙ reverse-append (map (λ (s : ReceiverState X). queues s.ends) receivers) (queues r.ends ∷ [])

  -- a grid of so many columns, to which so many rows were dealt
  pub record Growing (count rows : ℕ) (columns : List (List (EndState X))) (receivers : List (ReceiverState X)) : Type 0 where
    pub tied : map (λ (c : List (EndState X)). queues c) columns ≡ columns_of count (rows_of receivers)
    pub even : All (λ (r : ReceiverState X). length r.ends ≡ count) receivers
    pub long : AreOfLength rows columns
    pub new_columns : AreNewColumns columns
    pub new_receivers : All (λ (r : ReceiverState X). All IsNew r.ends) receivers

  pub grow_first : (count : ℕ) (columns : List (List (EndState X))) → columns ≡ replicate count [] → Growing count 0 columns []
  grow_first count columns is = subst (λ l. Growing count 0 l []) (sym is) (record {
    tied = empty_columns X count;
    even = All-nil (λ (r : ReceiverState X). length r.ends ≡ count);
    long = All-replicate (λ (c : List (EndState X)). length c ≡ 0) count [] refl;
    new_columns = All-replicate (λ (c : List (EndState X)). All IsNew c) count [] (All-nil IsNew);
    new_receivers = All-nil (λ (r : ReceiverState X). All IsNew r.ends);
  })

  pub grow_more : (count rows : ℕ) (columns new : List (List (EndState X))) (receivers : List (ReceiverState X)) (row : List (EndState X)) (r : ReceiverState X) → Growing count rows columns receivers
      → length columns ≡ count → length row ≡ count → AreTied row r.ends → All IsNew row → All IsNew r.ends → new ≡ dealt columns row → Growing count (rows + 1) new (receivers ++ r ∷ [])
  grow_more count rows columns new receivers row r kept lc lr tied nr ne is =
      let deal_both : dealt (map (λ (c : List (EndState X)). queues c) columns) (queues row) ≡ dealt (columns_of count (rows_of receivers)) (queues r.ends) = λ i. dealt (kept.tied i) (tied i) in
      subst (λ l. Growing count (rows + 1) l (receivers ++ r ∷ [])) (sym is) (record {
        tied = queues_dealt columns row ∙ (deal_both ∙ ap (columns_of count) (sym (rows_more receivers r)));
        even = All-push (λ (s : ReceiverState X). length s.ends ≡ count) receivers r kept.even (sym (length-map r.ends (λ (e : EndState X). e.queue)) ∙ ap length (sym tied) ∙ length-map row (λ (e : EndState X). e.queue) ∙ lr);
        long = long_dealt rows columns row (lr ∙ sym lc) kept.long;
        new_columns = all_dealt IsNew columns row kept.new_columns nr;
        new_receivers = All-push (λ (s : ReceiverState X). All IsNew s.ends) receivers r kept.new_receivers ne;
      })

  pub grown : (count rows : ℕ) (columns : List (List (EndState X))) (receivers : List (ReceiverState X)) → Growing count rows columns receivers → length columns ≡ count → length receivers ≡ rows → IsTiedGrid columns receivers
  grown count rows columns receivers kept lc lr = record {
    tied = kept.tied ∙ ap (λ n. columns_of n (rows_of receivers)) (sym lc);
    even = subst (λ n. All (λ (r : ReceiverState X). length r.ends ≡ n) receivers) (sym lc) kept.even;
    long = subst (λ n. AreOfLength n columns) (sym lr) kept.long;
  }
