-- Parts of the definition of Open's refusal.
pub mod BodyTests
