pub mod Told
pub mod Ends
mod Rows
