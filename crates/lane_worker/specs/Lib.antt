-- Serving: what a lane's thread did. Ticking: what the ticker's did.
pub mod Serving
pub mod Ticking
