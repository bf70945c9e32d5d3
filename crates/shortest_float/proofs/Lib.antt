mod Rows
pub mod ReadBits
pub mod Multiples
pub mod Room
pub mod Fewest
pub mod Nearest
pub mod Halfway
pub mod Compared
pub mod WordValues
pub mod Written
pub mod Forms
pub mod Values
pub mod TableBounds
