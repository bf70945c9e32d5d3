-- Reading order: Sums, Format (records), Laws (of records), Entries (what a payload says), Pending (which spans of a
-- trace have ended), Removal (when a segment may go).
pub mod Sums
pub mod Format
pub mod Laws
pub mod Entries
pub mod Pending
pub mod Removal
