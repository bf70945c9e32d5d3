pub mod RequestLemmas
pub mod PieceLemmas
pub mod Rows
pub mod EventLemmas
pub mod ReplyLemmas
pub mod AnswerLemmas
pub mod StepLemmas
mod TurnLemmas
mod TurnPieces
mod UnpackLemmas
mod KeptLemmas
mod TellingLemmas
