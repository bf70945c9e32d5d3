-- To be read in this order: Settings, Look (what looking back finds); Found, Short, Touched (for provers).
pub mod Settings
pub mod Touched
pub mod Found
pub mod Short
pub mod Look
