mod Pieces
mod Marks
mod Literals
mod NamesBack
mod Steps
mod ReadsBack
mod ReadsTree
mod Parts
mod Floats
mod FromText
mod Law
mod NotDeep
mod Counted
mod Escapes
pub mod Rows
