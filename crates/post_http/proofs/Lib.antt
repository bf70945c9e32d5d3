pub mod Laws
pub mod Rows
pub mod Seeing
pub mod Texts
