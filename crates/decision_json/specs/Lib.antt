-- Reading order: News (what is told of), Value (the values and texts of JSON), Putting (for private clauses).
pub mod News
pub mod Putting
pub mod Value
