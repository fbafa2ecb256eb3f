-- What the contracts of the listing cite besides the paper's own definitions.
pub mod Room
pub mod Listed
pub mod Shown
