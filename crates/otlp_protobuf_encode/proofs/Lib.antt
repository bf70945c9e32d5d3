pub mod Lists
pub mod Decoded
pub mod Values
pub mod Empty
pub mod NumbersBack
pub mod FieldsBack
pub mod ValuesBack
pub mod IdsBack
pub mod MessagesBack
pub mod SpansBack
pub mod RequestsBack
mod Rows
