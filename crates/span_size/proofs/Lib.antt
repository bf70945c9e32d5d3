pub mod Counts
pub mod Escapes
pub mod Objects
pub mod Defaults
pub mod Totals
mod Rows
