-- To be read in this order: Names, Texts (of literals and keys), Printing (of trees), Laws. Sizes is for the functions within.
pub mod Names
pub mod Texts
pub mod Printing
pub mod Sizes
pub mod Laws
