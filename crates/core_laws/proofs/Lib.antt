pub mod Extent
pub mod Multisets
pub mod Once
pub mod Sums
pub mod Out
pub mod Found
pub mod Untaken
pub mod Only
pub mod Against
pub mod Percentages
pub mod Bounds
mod Rows
