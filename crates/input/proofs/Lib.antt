-- Laws for the programs: a line for each of some parts of the bytes, in a loop.
pub mod Lines
