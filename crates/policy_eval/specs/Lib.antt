-- To be read in this order: Searches (what is known of expressions), Probabilistic (a percentage of all traces), TraceState (the members of a trace state),
-- Policies (what a policy means), Amounts (what a limiter is asked for), Given, Judged (the verdict by a list of
-- answers), Laws (what holds of all askings), Meaning (what a caller sees); GivenLaws, AskingLaws, Walks (for provers).
pub mod Searches
pub mod Probabilistic
pub mod TraceState
pub mod Policies
pub mod Amounts
pub mod Meaning
pub mod Given
pub mod GivenLaws
pub mod Judged
pub mod Walks
pub mod AskingLaws
pub mod Laws
