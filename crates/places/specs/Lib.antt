-- A vertex and a place as the code holds them, and a place's bytes.
pub mod Held
pub mod PlaceBytes
