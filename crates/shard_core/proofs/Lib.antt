mod HeldSpans
mod Forgetting
mod Codes
mod Opening
mod Stands
pub mod Deciding
mod DueTold
mod Effects
mod Fates
pub mod Sent
mod AllBut
mod HeldTraces
mod Rows
