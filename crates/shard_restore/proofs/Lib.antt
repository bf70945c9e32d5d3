pub mod GivenAnswers
pub mod TakenAgain
pub mod Journals
