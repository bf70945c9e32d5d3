-- To be read in this order: Journal, Fate (what a shard did, looking back), Answered (a decision by its answers),
-- Marked (where memory may be refused), TooBig, Standing, RootWait, Laws, Keeping, Deciding (what a shard holds that
-- stands for a journal, and what holds of every journal).
pub mod Journal
pub mod Fate
pub mod Answered
pub mod Standing
pub mod Marked
pub mod Laws
pub mod Keeping
pub mod Deciding
pub mod RootWait
pub mod TooBig
