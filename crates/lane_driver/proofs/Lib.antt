pub mod Sent
pub mod Heard
mod Rows
