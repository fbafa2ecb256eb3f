-- What the contracts of this crate say of a place that was found, beside the definitions of the crate paper.
pub mod Located
