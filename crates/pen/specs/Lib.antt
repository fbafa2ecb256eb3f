-- What the parts of Pen answer; Pen itself is defined in crate paper.
pub mod Moves
