-- To be read in this order: Reports, Answers.
pub mod Reports
pub mod Answers
