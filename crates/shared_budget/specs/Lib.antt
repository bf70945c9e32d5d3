-- To be read in this order: History, Rule, Seats (one limiter node); Budget (all of them); SeatLaws, Columns (for
-- provers).
pub mod History
pub mod Rule
pub mod Seats
pub mod SeatLaws
pub mod Budget
pub mod Columns
