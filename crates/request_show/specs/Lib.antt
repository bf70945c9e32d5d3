-- To be read in this order: Messages (which message or text stands in which field), FirstFault (where the first fault of
-- a body is met), Showing (what is shown of a body), Body (what is read of one), Front (words of private functions).
pub mod Messages
pub mod FirstFault
pub mod Showing
pub mod Body
pub mod Front
