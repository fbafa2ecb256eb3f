-- Laws of the monomials and of their codes, and the proofs of the code.
pub mod FourDigits
pub mod Codes
pub mod ProductSearch
