pub mod Noted
pub mod Rows
pub mod Sent
pub mod Shipping
