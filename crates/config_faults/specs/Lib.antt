-- To be read in this order: Setting, Tables (the settings of the tables that are no policy's), PolicyTypes (those
-- of each type), Percentages, Composites, Exports, Headers, Keys, Faults.
pub mod Setting
pub mod Tables
pub mod PolicyTypes
pub mod Percentages
pub mod Composites
pub mod Exports
pub mod Headers
pub mod Keys
pub mod Faults
pub mod FaultTexts
