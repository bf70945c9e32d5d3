pub mod Lists
pub mod Touches
