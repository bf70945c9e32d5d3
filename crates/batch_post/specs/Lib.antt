-- Reading order: Rules (what each answer means), Logs (what was tried and settled), Deliveries (what deliveries did),
-- Posts (destinations whose lines are batches).
pub mod Rules
pub mod Logs
pub mod Deliveries
pub mod Posts
