-- What the contracts of this crate cite: the trace from a place handed over as bytes.
pub mod Length
