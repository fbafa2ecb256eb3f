-- What the contracts of the rows say, beside the definitions of the crate formula.
pub mod Bounded
pub mod Degree
