pub mod Counted
pub mod Differs
pub mod Fronts
pub mod Widths
