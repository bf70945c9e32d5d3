pub mod Journals
pub mod Commits
