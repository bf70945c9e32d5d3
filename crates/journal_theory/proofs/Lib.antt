pub mod Lists
pub mod ListFacts
pub mod Find
pub mod Notes
pub mod Sound
mod CacheFacts
mod Remembering
pub mod FoundAsHeld
pub mod Due
pub mod StandingParts
pub mod Keeping
pub mod Answering
pub mod Counted
pub mod Samples
mod Rows
pub mod Deciding
pub mod RootWait
mod TooBig
