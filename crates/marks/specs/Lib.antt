-- Marking: what rows say of an answer.
pub mod Answers
