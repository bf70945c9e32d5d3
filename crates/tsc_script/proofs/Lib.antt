pub mod Turns
pub mod Reading
pub mod Playing
pub mod Exits
pub mod Last
pub mod Weaker
pub mod Words
mod Rows
