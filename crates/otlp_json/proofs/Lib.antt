pub mod Fields
mod Rows
pub mod Canonical
pub mod NumbersBack
pub mod Table
pub mod ValuesBack
pub mod FieldsBack
pub mod MessagesBack
pub mod Adding
pub mod Encoding
pub mod Depth
pub mod Names
pub mod Discards
