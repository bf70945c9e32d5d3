-- Reading order: Connection (the transcript of a connection), Turns (the same by a clock, for one connection among
-- many), Intake (what a request does to a lane and the counts), Telling and Places (what a clock is told of requests that
-- were taken), Agreement and TurnAgreement (when two connections do the same), Engine (what each part of the loop owes),
-- Requests and Input (the state of the engine).
pub mod Connection
pub mod Intake
pub mod Places
pub mod Telling
pub mod Agreement
pub mod Engine
pub mod Input
pub mod Requests
pub mod Turns
pub mod TurnAgreement
