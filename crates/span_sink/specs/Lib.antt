pub mod Manners
pub mod Hands
pub mod LineSinks
pub mod Sinks
pub mod FaultTexts
