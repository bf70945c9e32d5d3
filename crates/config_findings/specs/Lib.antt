-- To be read in this order: FaultLists (all faults of a text), Addresses (which addresses can't be one), AddressFindings
-- (what is told of them), Texts (what is said of some faults).
pub mod FaultLists
pub mod Addresses
pub mod AddressFindings
pub mod Texts
