pub mod Least
pub mod Orders
pub mod Rows
