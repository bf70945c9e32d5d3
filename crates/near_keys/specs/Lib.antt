-- To be read in this order.
pub mod NearKeys
pub mod Hints
