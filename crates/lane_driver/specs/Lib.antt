-- Reading order: Looks (when a connection is looked at, and what a look comes to), Walks (when all of them are), Taking
-- (when one is taken, and which leaves), Heard (what is sent of what a turn answered), Rounds (which answers may be sent),
-- Traffic (as what it counts that happens).
pub mod Looks
pub mod Walks
pub mod Taking
pub mod Heard
pub mod Rounds
pub mod Traffic
