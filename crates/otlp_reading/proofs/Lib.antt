pub mod NumberTexts
pub mod Held
pub mod Each
pub mod Levels
pub mod Spans
mod Doubles
