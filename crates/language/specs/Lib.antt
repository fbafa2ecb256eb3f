-- What the contracts of the pass over a text say, beside the definitions of the crate formula.
pub mod Pass
pub mod Modes
