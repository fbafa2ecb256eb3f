-- Laws that the functions of this crate cite.
pub mod Powers
pub mod Answers
