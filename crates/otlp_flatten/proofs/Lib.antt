pub mod Groups
pub mod Levels
pub mod Steps
pub mod Determined
