-- To be read in this order: Encoded (bytes in base64), Equality (of values of attributes).
pub mod Encoded
pub mod Equality
