pub mod Put
pub mod Lookups
pub mod Within
pub mod SameReading
pub mod Standing
pub mod Texts
pub mod Completed
pub mod WholeRows
