mod ListRows
pub mod Sent
