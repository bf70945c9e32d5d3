pub mod Reading
pub mod Pairs
mod Rows
