pub mod MediaTypes
