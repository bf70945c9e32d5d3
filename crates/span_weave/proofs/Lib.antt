pub mod Lists
pub mod Sums
pub mod Counting
pub mod Runs
pub mod Worlds
pub mod Serving
pub mod Journals
pub mod Shards
pub mod AllShards
pub mod Exporting
pub mod Receiving
pub mod Closing
pub mod Weaves
pub mod Headlines
pub mod Numbering
pub mod Popping
pub mod Acts
pub mod Tries
pub mod WrongThreads
mod WrongAnswers
mod WorkedThreads
