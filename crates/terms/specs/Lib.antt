-- What the contracts of the pass over a polynomial's terms say, beside the definitions of the crate paper.
pub mod Carried
