-- Read Decimals, then Layout, then Shortest. Sizes, Words and Orders are for the functions within.
pub mod Decimals
pub mod Layout
pub mod Shortest
pub mod Sizes
pub mod Words
pub mod Orders
