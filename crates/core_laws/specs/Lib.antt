-- To be read in this order: Sums, Sampled, Untaken, Percentages, Bounds.
pub mod Sums
pub mod Sampled
pub mod Untaken
pub mod Percentages
pub mod Bounds
