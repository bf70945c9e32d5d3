-- To be read in this order: Kinds, Values, Reading, Nesting; Gives (for provers).
pub mod Kinds
pub mod Values
pub mod Reading
pub mod Nesting
pub mod Gives
pub mod Laws
pub mod FaultTexts
