-- To be read in this order: Noting, Drafts.
pub mod Noting
pub mod Drafts
