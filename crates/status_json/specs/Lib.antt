pub mod Due
pub mod Json
pub mod Text
