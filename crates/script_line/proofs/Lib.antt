pub mod Appended
pub mod Back
pub mod OneLine
pub mod Told
pub mod Entries
pub mod Numbers
pub mod Rows
