-- One turn of a walk, as the code answers it.
pub mod Visited
