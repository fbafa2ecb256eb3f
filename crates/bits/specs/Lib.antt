-- What the contracts of the readers say, beside the definitions of the crate paper.
pub mod Read
pub mod Axes
