pub mod Runs
mod Uncounted
mod Told
mod Taken
