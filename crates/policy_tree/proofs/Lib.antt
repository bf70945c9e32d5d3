pub mod Lists
pub mod Sent
pub mod Walks
mod Rows
