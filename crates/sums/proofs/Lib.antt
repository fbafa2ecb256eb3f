-- Laws that the function of this crate cites.
pub mod SumAnswers
