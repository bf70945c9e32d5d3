mod Rows
mod Driven
