-- To be read in this order: Lines, Instructions, LineLaws, Script, Stops (what a script says); Reads, Causes, Progress
-- (how far it was read, and why it stopped); ToRead has words of private functions.
pub mod Lines
pub mod Instructions
pub mod LineLaws
pub mod Script
pub mod Stops
pub mod Reads
pub mod Causes
pub mod ToRead
pub mod Progress
pub mod FaultTexts
