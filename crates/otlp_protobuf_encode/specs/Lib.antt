-- To be read in this order: Writing, Faults; ReadsBack (for provers).
pub mod Writing
pub mod Faults
pub mod ReadsBack
pub mod FaultTexts
