-- To be read in this order: Members (a table with defaults), Defaults (the default of each key), Whole (the table of a
-- configuration with its defaults).
pub mod Members
pub mod Defaults
pub mod Whole
