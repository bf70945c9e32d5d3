-- Rejected (what an answer in protobuf says was rejected), Closing (how long a backend is tried),
-- Connecting (when a connection is used again, and how long it waits).
pub mod Rejected
pub mod Closing
pub mod Connecting
