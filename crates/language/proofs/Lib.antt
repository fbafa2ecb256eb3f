-- Laws of the pass and of its modes and tokens, and the proofs of the code.
pub mod PassLaws
pub mod ModeLaws
pub mod TokenLaws
