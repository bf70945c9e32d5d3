-- Reading order: Lines (where a part ends), Search (a search for that end), Fields, Host and Head (what a head comes to, with
-- Named and Spans for what its functions answer), Body (what stands behind a head).
pub mod Lines
pub mod Search
pub mod Fields
pub mod Host
pub mod Head
pub mod Named
pub mod Spans
pub mod Body
pub mod FaultTexts
