-- What the functions speak of.
pub mod Terms
