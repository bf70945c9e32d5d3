pub mod Shards
pub mod Routes
