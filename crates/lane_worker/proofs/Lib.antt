mod Kept
mod Served
mod Ends
