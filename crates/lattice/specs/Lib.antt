-- What the functions ask and promise, beside the definitions of the crates below.
pub mod Moves
pub mod Box
