-- What the contracts of the four readers say.
pub mod Ahead
