-- To be read in this order: World, Step (the core), Places, Headline (what holds of every run).
pub mod World
pub mod Step
pub mod Places
pub mod Headline
