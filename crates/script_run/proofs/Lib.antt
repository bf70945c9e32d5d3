pub mod Stands
pub mod Writing
pub mod Numbering
pub mod Lanes
pub mod Routing
pub mod Receiving
pub mod Playing
pub mod Whole
pub mod Calm
pub mod QuietRuns
pub mod Answering
pub mod TakingOne
pub mod TakingRounds
pub mod TakingItems
pub mod SendingBatches
pub mod QuietStands
pub mod ClosingLanes
pub mod ClosingEnds
pub mod Quiet
pub mod Runs
pub mod Agreeing
pub mod CalmRuns
pub mod Stopping
mod ConnectionRows
mod WrongDefinitions
mod WrongWorlds
