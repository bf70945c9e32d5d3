-- Stalls: for how long a write has been under way. Looks: for how long decisions are told after somebody looked.
-- Entries: what waits of a request until its line is written. Backlog: what waits for the backend.
-- Questions: for how long a question stands, and how the answers of all shards make one.
-- News: what is told of a write, and of a batch.
pub mod Backlog
pub mod Entries
pub mod Looks
pub mod News
pub mod Questions
pub mod Stalls
