-- To be read in this order: Times, Laws.
pub mod Times
pub mod Laws
