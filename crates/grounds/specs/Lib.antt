-- The ground of a judgement: document 02, request 2.9.
pub mod Whole
pub mod Ground
pub mod Judged
