pub mod OfSpans
pub mod OfBytes
pub mod Windows
mod Rows
