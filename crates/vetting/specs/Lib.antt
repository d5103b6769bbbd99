-- What vetting asks and gives.
pub mod Answers
