pub mod Apart
pub mod Scripts
mod Rows
