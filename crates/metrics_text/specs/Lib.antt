pub mod Families
pub mod Figures
pub mod Deciders
pub mod Shards
pub mod Text
pub mod Ledgers
