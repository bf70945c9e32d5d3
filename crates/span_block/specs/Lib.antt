-- To be read in this order: Block, Fits; Holds, Typed, Packed, Walk, Pairs, Alone (for provers).
pub mod Block
pub mod Fits
pub mod Holds
pub mod Typed
pub mod Packed
pub mod Walk
pub mod Pairs
pub mod Alone
pub mod FaultTexts
