-- What a reader does, byte by byte.
pub mod Machine
pub mod Steps
pub mod Tokens
