pub mod Back
pub mod Ends
pub mod Found
pub mod Heads
pub mod Over
pub mod Turned
mod Rows
