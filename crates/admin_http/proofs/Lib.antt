pub mod Heads
pub mod Harmless
pub mod Pieces
pub mod Laws
pub mod HeadLaw
pub mod Rows
