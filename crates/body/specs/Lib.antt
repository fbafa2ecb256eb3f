-- Where Body's part begins.
pub mod PartOffset
