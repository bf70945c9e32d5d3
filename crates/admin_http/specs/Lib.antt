-- Reading order: Asked (what a head asks for), Texts (the bytes of an answer), Serving (what one connection does).
pub mod Asked
pub mod Texts
pub mod Serving
