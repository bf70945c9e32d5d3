pub mod Noting
pub mod Shipping
