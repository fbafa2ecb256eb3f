-- What the contracts of the monomials say, beside the definitions of the crate formula.
pub mod Weight
