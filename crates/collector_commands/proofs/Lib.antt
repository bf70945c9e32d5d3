pub mod Texts
pub mod Bodies
pub mod Replaying
pub mod Compared
pub mod Rows
