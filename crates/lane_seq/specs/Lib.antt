-- To be read in this order: Numbers, Replies, Counting, Pushes (a lane); Lists (one thread).
pub mod Counting
pub mod Lists
pub mod Numbers
pub mod Pushes
pub mod Replies
