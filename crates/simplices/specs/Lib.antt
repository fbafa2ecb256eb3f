-- What the contracts of the simplices' functions cite, beside the definitions of the crates below.
pub mod Search
