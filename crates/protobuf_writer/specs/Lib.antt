-- in reading order
pub mod Writing
pub mod Defaults
pub mod Laws
