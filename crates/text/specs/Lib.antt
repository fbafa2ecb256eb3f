-- What the contracts of this crate cite: how long a line may be.
pub mod Lines
