pub mod Lines
pub mod Spells
pub mod Jumps
pub mod Away
