mod Blank
pub mod FaultSets
mod Bounds
pub mod SomeIsNone
pub mod Whole
mod Rows
pub mod Settings
mod SettingKeys
mod LookUps
mod Orders
mod PolicyKeys
pub mod Shares
