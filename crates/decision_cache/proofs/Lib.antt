mod Entries
pub mod Laws
pub mod Stands
