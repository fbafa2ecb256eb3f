-- The vertices that a base and masks name, and what the functions promise of their columns.
pub mod Vertices
pub mod Found
