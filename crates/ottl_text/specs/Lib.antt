-- To be read in this order: Syntax (the tree), Tokens (the pieces of a text), Literals, Names, Gives (what a reader answers),
-- Grammar (which text is which tree, or its first fault), FaultTexts (what a fault is told as).
pub mod Syntax
pub mod Tokens
pub mod Literals
pub mod Names
pub mod Gives
pub mod Grammar
pub mod FaultTexts
