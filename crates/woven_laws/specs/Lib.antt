-- To be read in this order: Laws, Routes.
pub mod Laws
pub mod Routes
