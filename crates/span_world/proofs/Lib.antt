pub mod Items
pub mod Replaying
pub mod Looking
pub mod Routes
pub mod Giving
