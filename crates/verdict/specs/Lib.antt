-- The rules of verdicts: two paths side by side, the verdict, the texts that show it, and what vetting answers.
pub mod Pairs
pub mod Verdict
pub mod Evidence
pub mod Answers
