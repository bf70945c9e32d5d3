pub mod Attempts
pub mod Deliveries
pub mod Rows
