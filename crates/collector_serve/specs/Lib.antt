-- Sharing: how many connections each lane may have.
-- Driven: what the lanes of a run did.
-- Requests: what a configuration says of requests to a backend.
-- Moments: which moment it is, by the time that has passed.
-- Told: what those in charge are told.
-- Memory: when requests are refused since the process takes too much memory.
-- LateLooks: when a client is answered who connects as the collector closes.
-- LastRows: which row of the history is the last one.
-- LateRuns: late spans that are told together.
pub mod Sharing
pub mod Driven
pub mod Requests
pub mod Moments
pub mod Told
pub mod Memory
pub mod LateLooks
pub mod LastRows
pub mod LateRuns
