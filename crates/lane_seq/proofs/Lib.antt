pub mod ListPushes
pub mod Numbering
pub mod PushSteps
pub mod Refusals
mod Rows
