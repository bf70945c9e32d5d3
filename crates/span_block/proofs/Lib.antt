pub mod Lists
pub mod Nests
pub mod Texts
pub mod Values
pub mod Spans
pub mod Blocks
pub mod Alone
pub mod Fields
pub mod Finding
pub mod Found
pub mod PairsLeft
mod Rows
