-- To be read in this order: Reads, Laws; Gives (for provers).
pub mod Reads
pub mod Laws
pub mod Gives
