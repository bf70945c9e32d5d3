pub mod Ports
pub mod Journals
pub mod Coming
pub mod Binding
