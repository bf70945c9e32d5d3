mod Rows
pub mod Segments
pub mod Shifts
