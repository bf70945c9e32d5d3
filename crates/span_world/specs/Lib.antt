-- To be read in this order: Core (what a caller sees of the program), Answers (what it answers); the core that it is
-- stands in `world_theory`.
pub mod Core
pub mod Answers
