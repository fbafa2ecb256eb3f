-- Laws that the functions' proofs cite, a file for each idea.
pub mod HeldPlaces
pub mod RowVertices
pub mod SimplexStep
pub mod CrossingHeld
pub mod StepAnswers
