pub mod Expressions
pub mod FaultTexts
