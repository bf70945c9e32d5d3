-- To be read in this order: Text, Sinks, Writing, Counting; Messages, Parts (for provers).
pub mod Sinks
pub mod Messages
pub mod Parts
pub mod Writing
pub mod Counting
pub mod Text
