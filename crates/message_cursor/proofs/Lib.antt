pub mod Fronts
pub mod Lefts
mod Rows
pub mod Walks
