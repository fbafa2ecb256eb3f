-- What the contracts of the operations on polynomials say, beside the definitions of the crate formula.
pub mod Result
