-- The box's test with any two limits, beside the definitions of the crate paper.
pub mod Between
