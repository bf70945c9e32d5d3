-- To be read in this order: Walk; Front (for provers).
pub mod Walk
pub mod Front
