pub mod Numbers
pub mod Counting
pub mod Adding
pub mod Reading
mod Rows
