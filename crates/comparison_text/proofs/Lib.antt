pub mod Appended
pub mod Back
pub mod InOrder
pub mod Rows
pub mod Script
pub mod Seen
