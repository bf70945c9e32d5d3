pub mod OneMore
pub mod OneTurn
pub mod Resting
pub mod Turning
mod Rows
