-- What the functions speak of.
pub mod Arranged
