pub mod Taking
pub mod SoFar
