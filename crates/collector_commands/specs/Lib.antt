-- Reading order: Outcomes, Texts (how the program ends, and what it says then), Configuration (what is read of its
-- file), Courses (what is asked for, and how a replay ends), Validating, Showing, Ledgers, Progress.
pub mod Outcomes
pub mod Configuration
pub mod Validating
pub mod Texts
pub mod Showing
pub mod Ledgers
pub mod Courses
pub mod Progress
