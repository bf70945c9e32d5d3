-- To be read in this order: Window, Laws.
pub mod Window
pub mod Laws
