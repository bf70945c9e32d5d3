pub mod Appending
pub mod Rows
pub mod Written
