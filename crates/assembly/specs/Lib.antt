-- Writing jobs: document 02, request 2.2.
pub mod Assembled
pub mod Written
pub mod LooseRefusal
pub mod WriteDemand
pub mod Answers
pub mod Own
