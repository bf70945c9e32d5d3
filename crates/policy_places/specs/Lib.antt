-- To be read in this order: Places (how a place is written, and what has a fault as it is written), Walk (where a fault
-- of policies stands), Orders (whether that of an order follows from others).
pub mod Places
pub mod Walk
pub mod Orders
