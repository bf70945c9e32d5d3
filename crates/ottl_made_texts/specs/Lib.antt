-- To be read in this order: Cases (letters in another case), MadeTexts.
pub mod Cases
pub mod MadeTexts
