pub mod Appending
pub mod Line
