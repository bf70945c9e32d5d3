pub mod Answers
pub mod Appended
pub mod Back
pub mod InOrder
pub mod Rows
