-- Reading order: Value (the value of JSON and its text), Page (the page), Putting (for private clauses).
pub mod Page
pub mod Putting
pub mod Value
