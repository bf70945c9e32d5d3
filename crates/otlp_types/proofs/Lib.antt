pub mod HoldsDouble
pub mod Samples
pub mod Sent
