-- Queues from several senders to several receivers.
use Rattle.std.specs.Prelude.{◌≡◌, ℕ, ◌<◌, ◌≤◌, Bool, List, [], ◌∷◌, ◌++◌, length, map, replicate, reverse, All, Some, slice_get, Vec, vec_capacity}
use Rattle.atomic_table.specs.Seated.{TableId}
use Rattle.lane_queue.specs.Ends.{EndState, ReceiverState, IsNew, WaitAs, queues, HasHistoryAt}

module _ {X Z : Type 0} where
  -- the lists
  abbrev pub ends_of : List (Vec X Z) → List (List X)
  ends_of lists = map (λ (v : Vec X Z). v.items) lists

  -- an empty list with room for so many
  abbrev pub HasRoom : ℕ → Vec X Z → Type 0
  HasRoom room v = (v.items ≡ []) × (room ≤ vec_capacity v)

module _ {X : Type 0} where
  -- each list with one element more behind it, those of a row in their order
  abbrev pub dealt : List (List X) → (row : List X) → List (List X)
  dealt [] row = []
  dealt (column ∷ columns) [] = column ∷ columns
  dealt (column ∷ columns) (x ∷ row) = (column ++ x ∷ []) ∷ dealt columns row

  -- the columns of rows, of which the newest stands first
  abbrev pub columns_of : (count : ℕ) → List (List X) → List (List X)
  columns_of count [] = replicate count []
  columns_of count (row ∷ earlier) = dealt (columns_of count earlier) row

  -- each list has an element
  abbrev pub AreLong : List (List X) → Type 0
  AreLong columns = All (λ (column : List X). 0 < length column) columns

  -- each list has so many elements
  abbrev pub AreOfLength : ℕ → List (List X) → Type 0
  AreOfLength count columns = All (λ (column : List X). length column ≡ count) columns

module _ {X : Type 0} where
  -- the senders' ends, by receiver, are of the queues of which the receivers have the other ends, by sender
  pub record IsTiedGrid (columns : List (List (EndState X))) (receivers : List (ReceiverState X)) : Type 0 where
    pub tied : map (λ (column : List (EndState X)). queues column) columns ≡ columns_of (length columns) (reverse (map (λ (r : ReceiverState X). queues r.ends) receivers))
    pub even : All (λ (r : ReceiverState X). length r.ends ≡ length columns) receivers
    pub long : AreOfLength (length receivers) columns

  -- nothing was pushed
  abbrev pub AreNewColumns : List (List (EndState X)) → Type 0
  AreNewColumns columns = All (λ (column : List (EndState X)). All IsNew column) columns

  -- a lane's push waits for room at each of these ends, or at none
  abbrev pub ColumnsWaitAs : Bool → List (List (EndState X)) → Type 0
  ColumnsWaitAs waits columns = All (λ (column : List (EndState X)). WaitAs waits column) columns

  -- one history of each queue to this receiver has all that was pushed and popped there; a row has the senders' ends
  abbrev pub HasRowHistory : (capacity : ℕ) → List (List (EndState X)) → List (ReceiverState X) → (place : ℕ) → Type 0
  HasRowHistory capacity columns receivers place = (receiver : ReceiverState X) × (row : List (EndState X))
      × (slice_get receivers place ≡ Some receiver)
      × (map (λ (column : List (EndState X)). slice_get column place) columns ≡ map (λ e. Some e) row)
      × ((k : ℕ) → k < length receiver.ends → HasHistoryAt capacity row receiver.ends k)

  -- that is so of each receiver
  abbrev pub HaveHistories : (capacity : ℕ) → List (List (EndState X)) → List (ReceiverState X) → Type 0
  HaveHistories capacity columns receivers = (place : ℕ) → place < length receivers → HasRowHistory capacity columns receivers place
