-- Laws that the functions of this crate cite, a file for each idea.
pub mod JudgeAnswers
pub mod PointAnswers
