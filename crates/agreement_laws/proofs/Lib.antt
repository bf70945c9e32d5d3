pub mod Pulled
pub mod Sent
pub mod Items
pub mod Same
mod Rows
