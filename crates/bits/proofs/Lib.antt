-- Laws that the proofs of the functions cite, a file for each idea.
pub mod EachDimension
pub mod SignedBits
pub mod MaskBits
pub mod Sets
pub mod RangeAll
