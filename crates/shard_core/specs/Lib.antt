-- To be read in this order: Held, Taking, Telling, HeldTrace (what a caller sees); Holding, Forgotten (for provers). The words for journals
-- are those of `journal_theory`.
pub mod Held
pub mod Taking
pub mod Telling
pub mod HeldTrace
pub mod Holding
pub mod Forgotten
