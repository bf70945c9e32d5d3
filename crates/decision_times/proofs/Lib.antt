pub mod Early
pub mod Late
pub mod InTime
pub mod Stopping
mod Rows
pub mod Waiting
