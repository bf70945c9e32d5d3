pub mod Newest
pub mod Touching
pub mod Filtering
pub mod Short
pub mod Turns
