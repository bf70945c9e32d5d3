pub mod Folding
pub mod Parts
pub mod Levels
pub mod Merging
pub mod Texts
pub mod Yields
pub mod ValuesNest
pub mod RequestNests
mod Rows
