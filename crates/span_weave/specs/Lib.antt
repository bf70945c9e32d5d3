-- To be read in this order: Threads, Woven (the law); Popped, Calls, Pushes (what ties queues, exporter and lanes to
-- its lists).
pub mod Threads
pub mod Woven
pub mod Popped
pub mod Calls
pub mod Pushes
