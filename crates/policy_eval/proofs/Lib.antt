pub mod Verdicts
pub mod Turns
pub mod GivenTurns
pub mod Members
pub mod Known
pub mod Sent
mod Rows
mod GivenRows
mod FirstRows
mod DeciderRows
