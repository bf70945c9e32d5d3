-- Reading order: Segments (what the files of an output took), Turning (when it turns to a new file), Names (how the
-- names of files move up), Retrying (how long a write is tried again).
pub mod Segments
pub mod Turning
pub mod Names
pub mod Retrying
