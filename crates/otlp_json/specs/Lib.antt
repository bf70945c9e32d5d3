pub mod Writing
pub mod Outline
pub mod Canonical
pub mod Tokens
pub mod Kept
pub mod ReadsBack
pub mod Discarding
