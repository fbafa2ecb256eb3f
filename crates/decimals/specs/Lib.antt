-- What the contracts of this crate cite: a text written into a buffer.
pub mod Written
