mod Comparisons
mod Connectives
mod Digits
pub mod Known
mod Rows
pub mod Sent
mod Wholes
