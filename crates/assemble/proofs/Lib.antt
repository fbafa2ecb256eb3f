-- The answers of writing a job, by what the code has tested and laid.
pub mod Outcomes
