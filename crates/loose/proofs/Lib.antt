-- The bodies by index, and the refusals of their tests.
pub mod ByIndex
pub mod FormSteps
