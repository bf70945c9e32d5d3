-- To be read: Journals; Restored is for private clauses.
pub mod Journals
pub mod Restored
