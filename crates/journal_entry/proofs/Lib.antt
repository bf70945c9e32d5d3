pub mod LittleEndian
pub mod Decisions
pub mod Appended
pub mod Texts
pub mod Whole
pub mod Rows
