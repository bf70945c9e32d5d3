-- To be read in this order: Kinds, Reading, Decoding (what a text reads as); Gives, SpanParts, Zero (for provers).
pub mod Kinds
pub mod Reading
pub mod SpanParts
pub mod Gives
pub mod Zero
pub mod Decoding
pub mod FaultTexts
