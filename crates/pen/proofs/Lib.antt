-- The laws that the proofs of the functions cite.
pub mod PointSize
pub mod PointMoves
pub mod PenAnswers
