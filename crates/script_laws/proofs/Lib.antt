pub mod Shards
pub mod Asked
pub mod Played
