-- What the contracts of this crate cite, beside the definitions of the crates below.
pub mod Ends
pub mod Search
