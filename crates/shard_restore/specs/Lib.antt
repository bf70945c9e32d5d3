-- To be read in this order: Entries (what records are), Restoring; Asking (for provers).
pub mod Entries
pub mod Asking
pub mod Restoring
