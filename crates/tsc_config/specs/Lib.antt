-- To be read in this order: HeaderFields, PolicyOrder, Values, Reading (what a text is read as); Settings and PolicyKeys (of each
-- key, without the reading); FaultSets (for provers).
pub mod HeaderFields
pub mod PolicyOrder
pub mod Values
pub mod Reading
pub mod Settings
pub mod PolicyKeys
pub mod FaultSets
