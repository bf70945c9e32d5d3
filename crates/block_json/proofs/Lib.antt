pub mod Adding
pub mod Lists
pub mod Layers
pub mod Groups
pub mod Found
pub mod Whole
pub mod Counted
