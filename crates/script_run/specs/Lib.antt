-- To be read in this order: Connections, Requests (what a line gives), Limiting, Sending, World (what a run does),
-- Counts, Writing (what it leaves), Calm, CoreRun, Laws (what holds of every run).
pub mod Connections
pub mod Requests
pub mod Sending
pub mod Limiting
pub mod World
pub mod Counts
pub mod Writing
pub mod CoreRun
pub mod Calm
pub mod Laws
