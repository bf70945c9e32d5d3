-- Reading order: Requests (the head of a request), Waits (for how long an answer asks to wait), Answers (what bytes
-- hold behind a request), Exchanges (what a post does with a stream).
pub mod Requests
pub mod Waits
pub mod Answers
pub mod Exchanges
