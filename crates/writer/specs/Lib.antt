-- What a writer is once bytes are laid.
pub mod Advanced
