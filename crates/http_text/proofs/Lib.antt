pub mod LineLemmas
pub mod SearchLemmas
pub mod CutLemmas
pub mod FieldLemmas
pub mod WordLemmas
pub mod UniqueLemmas
pub mod Rows
pub mod Writing
