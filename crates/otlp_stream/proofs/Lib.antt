pub mod Takes
pub mod Streaming
pub mod Named
pub mod Sieving
pub mod Built
