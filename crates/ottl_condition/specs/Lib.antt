-- To be read in this order: Subjects (what a condition is asked of), Values, Paths (what a span and an
-- event have), Comparing, Arithmetic, Conversions, Functions, Made, Meaning, Workrooms, Laws.
pub mod Subjects
pub mod Values
pub mod Paths
pub mod Comparing
pub mod Arithmetic
pub mod Conversions
pub mod Functions
pub mod Made
pub mod Meaning
pub mod Workrooms
pub mod Laws
