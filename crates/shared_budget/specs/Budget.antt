-- The seats of all limiter nodes: what the first call gives, what an asking leaves, and what the last call compares.
use Rattle.std.specs.Prelude.{◌≡◌, ℕ, ◌+◌, ◌≤◌, Bool, true, List, [], ◌∷◌, All, map, length, option_map, slice_get}
use Rattle.std.specs.Option.{unwrap_or}
use Rattle.std.specs.List.{list_all}
use Rattle.atomic_table.specs.Seated.{TableId}
use Rattle.policy_tree.specs.declared.limiter_node.LimiterNode.{LimiterNode}
use Rattle.policy_tree.specs.declared.limit.Limit.{Limit}
use Rattle.rate_budget.specs.Grant.{capacity, spent}
use Rattle.shared_budget.specs.declared.known.Asked.{Asked}
use Rattle.shared_budget.specs.History.{askings}
use Rattle.shared_budget.specs.Rule.{seated}
use Rattle.shared_budget.specs.Seats.{Stand, StandsIn, HaveOneHistory, has_node, AsksAt}

-- ---- what the first call gives

-- the seat of this number at each limiter node, over these cells, that has asked nothing yet
abbrev pub new_seat : (tables : List TableId) → List LimiterNode → (seats number : ℕ) → List Stand
new_seat [] nodes seats number = []
new_seat (t ∷ tables) [] seats number = []
new_seat (t ∷ tables) (l ∷ nodes) seats number = (t, seated l.node l.limit seats number number []) ∷ new_seat tables nodes seats number

-- these are the seats from this number on
abbrev pub AreNewSeatsFrom : (tables : List TableId) → List LimiterNode → (seats from : ℕ) → List (List Stand) → Type 0
AreNewSeatsFrom tables nodes seats from [] = Unit {0}
AreNewSeatsFrom tables nodes seats from (seat ∷ rest) = (seat ≡ new_seat tables nodes seats from) × AreNewSeatsFrom tables nodes seats (from + 1) rest

-- new seats, of this number, each at all these limiter nodes: the seats share a cell for each node
abbrev pub AreNewSeats : List LimiterNode → (seats : ℕ) → List (List Stand) → Type 0
AreNewSeats nodes seats all = (length all ≡ seats) × ((tables : List TableId) × (length tables ≡ length nodes) × AreNewSeatsFrom tables nodes seats 0 all)

-- ---- which seats may be compared

-- what the seats of one node have in common: its cell, its number, its limit, and how many seats it has
abbrev pub NodeCell : Type 0
NodeCell = TableId × ℕ × Limit × ℕ

abbrev pub cell_of : Stand → NodeCell
cell_of s = (s.0, s.1.node, s.1.limit, s.1.seats)

-- the seat's number at the node
abbrev pub seat_number : Stand → ℕ
seat_number s = s.1.seat

-- the seats have the same cells, in the same order
abbrev pub AreOfOneBudget : List (List Stand) → Type 0
AreOfOneBudget seats = (cells : List NodeCell) × All (λ (seat : List Stand). map cell_of seat ≡ cells) seats

-- new seats have the same cells
abbrev pub NewSeatsAreOfOne : Type 0
NewSeatsAreOfOne = (nodes : List LimiterNode) (seats : ℕ) (all : List (List Stand)) → AreNewSeats nodes seats all → AreOfOneBudget all

-- a new seat is at each of the nodes
abbrev pub NewSeatsHaveNodes : Type 0
NewSeatsHaveNodes = (nodes : List LimiterNode) (seats : ℕ) (all : List (List Stand)) → AreNewSeats nodes seats all → All (λ (seat : List Stand). list_all (λ (l : LimiterNode). has_node seat l.node) nodes ≡ true) all

-- an asking leaves a seat's cells, and its numbers
abbrev pub AskingKeepsCells : Type 0
AskingKeepsCells = (seat new : List Stand) (node second amount : ℕ) (answer : Bool) → AsksAt seat node second amount answer new → (map cell_of new ≡ map cell_of seat) × (map seat_number new ≡ map seat_number seat)

-- seats with the cells of seats that may be compared may be compared
abbrev pub SameCellsSuffice : Type 0
SameCellsSuffice = (seats new : List (List Stand)) → map (map cell_of) new ≡ map (map cell_of) seats → AreOfOneBudget seats → AreOfOneBudget new

-- ---- what the last call compares

-- what the seats have at one place
abbrev pub column : (place : ℕ) → List (List Stand) → List Stand
column place [] = []
column place (seat ∷ seats) = unwrap_or (option_map (λ (s : Stand). s ∷ column place seats) (slice_get seat place)) (column place seats)

-- each node has one history with every seat's askings
abbrev pub HaveOneHistoryEach : List (List Stand) → Type 0
HaveOneHistoryEach seats = (place : ℕ) → HaveOneHistory (column place seats)

-- in one history of each node, with every seat's askings, at most the limit's capacity is spent in each second
abbrev pub EachStaysWithin : Type 0
EachStaysWithin = (seats : List (List Stand)) → HaveOneHistoryEach seats → (place : ℕ) →
    (log : List Asked) × All (λ (s : Stand). StandsIn log s × ((second : ℕ) → spent s.1.limit second (askings log) ≤ capacity s.1.limit)) (column place seats)
