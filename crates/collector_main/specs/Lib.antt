pub mod Closing
pub mod Serving
pub mod Waiting
pub mod Ending
pub mod Reports
