mod Equals
mod EqualityRows
mod Letters
