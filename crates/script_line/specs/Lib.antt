-- To be read in this order: Line (a line, and what it says), Entries (lines one behind the other), Connections (the
-- numbers of connections); Appending has words of private functions.
pub mod Line
pub mod Entries
pub mod Connections
pub mod Appending
