mod Texts
mod Within
mod Numbers
pub mod Rows
pub mod GrammarRows
