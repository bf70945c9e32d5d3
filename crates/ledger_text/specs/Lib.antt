-- To be read in this order: Numbers (the text for people), Scripts (the pending requests as a script), Connections (their
-- numbers there), Refusals; Putting has words of private functions.
pub mod Numbers
pub mod Scripts
pub mod Connections
pub mod Refusals
pub mod Putting
