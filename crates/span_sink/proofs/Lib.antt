pub mod Handing
pub mod Lines
