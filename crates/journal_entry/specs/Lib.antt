-- To be read in this order: Bytes (what is written), Reading (what is found in any bytes), ReadsBack.
pub mod Bytes
pub mod Reading
pub mod Seen
pub mod ReadsBack
