-- To be read in this order: Jobs (what each thread promises), Lanes (what a lane received), Received (the same by each
-- way of serving), Workers (all threads of a run, and their queues and seats), Ran (what they did, as the lists of the
-- weave).
pub mod Jobs
pub mod Lanes
pub mod Received
pub mod Workers
pub mod Ran
