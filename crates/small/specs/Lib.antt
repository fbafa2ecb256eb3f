-- The small bench cutter: document 02, request 2.10.
pub mod Small
