-- The answers as structs of numbers.
pub mod Numbers
