mod Runs
mod Pieces
mod Replies
mod Alike
mod Rows
