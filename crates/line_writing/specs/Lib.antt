-- To be read in this order: Waiting (bytes that wait), Filling (entries that are taken, and their lines), Turns (lines that
-- are made and written).
pub mod Waiting
pub mod Filling
pub mod Turns
