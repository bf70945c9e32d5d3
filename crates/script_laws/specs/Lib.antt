-- To be read in this order: Laws, Windows.
pub mod Laws
pub mod Windows
