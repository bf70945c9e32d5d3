-- To be read in this order: Made (what the threads are given), Outcome (what a run answers), Promise (what a run did).
pub mod Made
pub mod Outcome
pub mod Promise
pub mod FaultTexts
