-- To be read in this order: Replay, Answers, CalmReplays, Comparing (what a run leaves and answers); Starting, Submitting,
-- Signals, Pulling, Adding, Staying, Playing (for provers).
pub mod Adding
pub mod Pulling
pub mod Staying
pub mod Replay
pub mod Answers
pub mod CalmReplays
pub mod Comparing
pub mod Signals
pub mod Submitting
pub mod Starting
pub mod Playing
pub mod FaultTexts
