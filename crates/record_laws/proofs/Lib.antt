pub mod Arriving
pub mod Connected
pub mod Replayed
mod Rows
